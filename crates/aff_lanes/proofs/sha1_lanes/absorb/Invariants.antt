use Rattle.std.proofs.Common.{◌≡◌, ℕ, ◌<◌, ◌+◌, List}
use Rattle.sha1.specs.Sha1.{hash_after}
use Rattle.aff_lanes.specs.Lanes.{five}
use Rattle.aff_lanes.specs.Messages.{text, HasBlocks}
use Rattle.aff_lanes.proofs.sha1_lanes.absorb.Given as goal

abbrev pub invariant-each : goal.invariant-each
invariant-each l = (j : ℕ) → j < 4 → (whole : List ℕ) (q : ℕ) → five j l.fn.state ≡ hash_after whole q → HasBlocks whole q l.count (text l.messages j)
    → five j l.state ≡ hash_after whole (q + l.i)
