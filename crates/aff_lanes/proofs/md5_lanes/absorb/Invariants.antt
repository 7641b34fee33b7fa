use Rattle.std.proofs.Common.{◌≡◌, ℕ, ◌<◌, ◌+◌, List}
use Rattle.md5.specs.Md5.{hash_after}
use Rattle.aff_lanes.specs.Lanes.{four}
use Rattle.aff_lanes.specs.Messages.{text, HasBlocks}
use Rattle.aff_lanes.proofs.md5_lanes.absorb.Given as goal

abbrev pub invariant-each : goal.invariant-each
invariant-each l = (j : ℕ) → j < 4 → (whole : List ℕ) (q : ℕ) → four j l.fn.state ≡ hash_after whole q → HasBlocks whole q l.count (text l.messages j)
    → four j l.state ≡ hash_after whole (q + l.i)
