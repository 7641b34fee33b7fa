-- The events of a run, as the core has them: who claimed and published what, in the order of the history, and each answered read
-- where as much was published as it was answered by.
use Rattle.std.specs.Prelude.{ℕ, ◌+◌, ◌==◌, List, [], ◌∷◌, ◌++◌, length, map, filter}
use Rattle.aff_core.specs.declared.event.Event.{Event}
use Rattle.aff_core.specs.declared.event.Event.TheVariants.{Claim, Publish, Read, Finish}
use Rattle.aff_core.specs.Steps.{CoreState, IsRun, start}
use Rattle.aff_model.specs.History.{Published}
use Rattle.aff_model.specs.Plan.{Planned}
use Rattle.aff_script.specs.Answered.{Answered}

-- the reads of a session that were answered by n publications
abbrev pub reads_at : ℕ → ℕ → List Answered → List Event
reads_at n session answers = map (λ a. Read session a.at a.len a.front) (filter (λ a. a.front == n) answers)

-- those of all sessions, which are numbered from the one given
abbrev pub all_reads_at : ℕ → ℕ → List (List Answered) → List Event
all_reads_at n session [] = []
all_reads_at n session (answers ∷ sessions) = reads_at n session answers ++ all_reads_at n (session + 1) sessions

-- behind n publications: the reads that were answered by these, the claim and the publication that come next, and so on to the end
abbrev pub events_from : ℕ → List (List Answered) → List Published → List Event
events_from n sessions [] = all_reads_at n 0 sessions ++ Finish ∷ []
events_from n sessions (p ∷ history) = all_reads_at n 0 sessions ++ Claim p.claimant p.extent ∷ Publish p ∷ events_from (n + 1) sessions history

-- the events of a whole run
abbrev pub events_of : List Published → List (List Answered) → List Event
events_of history sessions = events_from 0 sessions history

-- the events are a run of the core, of the passes of so many workers and of the sweep's
pub record IsCoreRun (plan : Planned) (workers : ℕ) (history : List Published) (sessions : List (List Answered)) : Type 0 where
  pub end : CoreState
  pub run : IsRun (start plan (workers + 1) (length sessions)) (events_of history sessions) end
