-- What lists of events are said to keep.
use Rattle.std.specs.Prelude.{ℕ, ◌==◌, Bool, true, false, List, [], ◌∷◌, count_by, if◌then◌else◌}
use Rattle.aff_core.specs.declared.event.Event.{Event}
use Rattle.aff_core.specs.declared.event.Event.TheVariants.{Claim, Publish, Read, Raise, Finish}
use Rattle.aff_model.specs.declared.cell.Cell.{Cell}
use Rattle.aff_model.specs.declared.cell.Cell.TheVariants.{Byte, Unreadable, Unknown}
use Rattle.aff_model.specs.declared.cell.Kind as kinds
use Rattle.aff_model.specs.declared.cell.Kind.{Kind}

-- the fronts of a session's reads, in order
abbrev pub fronts_of : ℕ → List Event → List ℕ
fronts_of session [] = []
fronts_of session (Claim claimant extent ∷ events) = fronts_of session events
fronts_of session (Publish publication ∷ events) = fronts_of session events
fronts_of session (Read by at len front ∷ events) = if by == session then front ∷ fronts_of session events else fronts_of session events
fronts_of session (Raise by extent ∷ events) = fronts_of session events
fronts_of session (Finish ∷ events) = fronts_of session events

abbrev pub is_finish : Event → Bool
is_finish (Claim claimant extent) = false
is_finish (Publish publication) = false
is_finish (Read session at len front) = false
is_finish (Raise session extent) = false
is_finish Finish = true

-- how often Finish comes
abbrev pub finish_count : List Event → ℕ
finish_count events = count_by is_finish events

-- the kind of a cell
abbrev pub kind_of : Cell → Kind
kind_of (Byte b) = kinds.TheVariants.Known
kind_of Unreadable = kinds.TheVariants.Unreadable
kind_of Unknown = kinds.TheVariants.Unknown
