-- What each seat, a reader's or the writer's, has seen published.
use Rattle.std.specs.Prelude.{ℕ, ◌≡◌, ◌<◌, List, [], length}
use mathlib.Core.Option.{some}
use mathlib.Core.List.{IsPrefix}
use lib.ListN.{get_elem?}
use Rattle.aff_snapshot.specs.declared.shown.Sight.{Sight}
use Rattle.aff_snapshot.specs.Lists.{Reached, numbers_of}

-- a seat that has seen nothing
abbrev pub blind : Sight
blind = record { list = []; names = [] }

-- what was seen is a beginning of what is published, and of that list, once the seat knows which one it is
pub record HasSeen (shown : Reached) (seen : Sight) : Type 0 where
  pub list : 0 < length seen.list → seen.list ≡ numbers_of shown.list
  pub names : IsPrefix seen.names shown.names

-- the rule: every seat has seen such a beginning
abbrev pub HaveSeen : Reached → List Sight → Type 0
HaveSeen shown seats = (seat : ℕ) (seen : Sight) → get_elem? seats seat ≡ some seen → HasSeen shown seen

-- what a step tells: the seat had seen a beginning of what is published now, and has seen all of that
pub record Sees (before : Sight) (old new : Reached) (after : Sight) : Type 0 where
  pub had : HasSeen new before
  pub list : after.list ≡ numbers_of new.list
  pub names : after.names ≡ new.names
