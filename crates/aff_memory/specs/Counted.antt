-- The calls of an object, some of which are to fail.
use Rattle.std.specs.Prelude.{ℕ, ◌==◌, Bool, List, if◌then◌else◌}
use Rattle.std.specs.List.{list_any}
use Rattle.aff_outside.specs.Outcomes.{raised}

-- which calls are to fail, and how many calls and failures there were
pub record Counted : Type 0 where
  pub fail : List ℕ
  pub made : ℕ
  pub faults : ℕ

-- before the first call
abbrev pub uncalled : List ℕ → Counted
uncalled fail = record { fail = fail; made = 0; faults = 0 }

-- the number of the next call, from 1
abbrev pub next_call : Counted → ℕ
next_call c = raised c.made

-- the next call is to fail
abbrev pub fails : Counted → Bool
fails c = list_any (λ n. n == next_call c) c.fail

-- after the next call
abbrev pub counted : Counted → Counted
counted c = record { fail = c.fail; made = next_call c; faults = if fails c then raised c.faults else c.faults }
