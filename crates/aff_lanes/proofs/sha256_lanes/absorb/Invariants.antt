use Rattle.std.proofs.Common.{◌≡◌, ℕ, ◌<◌, ◌+◌, List}
use Rattle.sha2.specs.Sha256.{hash_after, initial_hash_256}
use Rattle.aff_lanes.specs.Lanes.{eight}
use Rattle.aff_lanes.specs.Messages.{text, HasBlocks}
use Rattle.aff_lanes.proofs.sha256_lanes.absorb.Given as goal

abbrev pub invariant-each : goal.invariant-each
invariant-each l = (j : ℕ) → j < 4 → (whole : List ℕ) (q : ℕ) → eight j l.fn.state ≡ hash_after initial_hash_256 whole q → HasBlocks whole q l.count (text l.messages j)
    → eight j l.state ≡ hash_after initial_hash_256 whole (q + l.i)
