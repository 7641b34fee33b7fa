-- Examiners before a run and behind it.
use Rattle.std.specs.Prelude.{◌≡◌, ℕ, ◌<◌, Bool, List, length, map, slice_index_or, Option}
use Rattle.aff_model.specs.Content.{Content}
use Rattle.aff_model.specs.History.{Published}
use Rattle.aff_model.specs.Plan.{Planned}
use Rattle.aff_examine.specs.Folds.{HasSameRule, Rule}
use Rattle.aff_examine.specs.Histories.{HasExamined}

-- the examiners as they come back, in their order, each with its rule and its text
pub record AreTheirOwn {E : Type 0} (rule : E → Rule) (text : E → List ℕ → List ℕ) (old new : List E) : Type 0 where
  pub count : length new ≡ length old
  pub each : (k : ℕ) (e : E) → k < length old → HasSameRule rule text (slice_index_or old k e) (slice_index_or new k e)

-- each examiner went through a history: its state is the fold of its rule over it, from the state in which it came in; and the
-- findings are the texts of their states, in order
pub record AreExamined (case : Option Content) (tells : Bool) (plan : Planned) (history : List Published) {E : Type 0} (rule : E → Rule) (text : E → List ℕ → List ℕ) (state : E → List ℕ) (old new : List E) (findings : List (List ℕ)) : Type 0 where
  pub count : length new ≡ length old
  pub each : (k : ℕ) (e : E) → k < length old → HasExamined case tells plan history (rule (slice_index_or old k e)) (state (slice_index_or old k e)) (state (slice_index_or new k e))
  pub findings_are : findings ≡ map (λ e. text e (state e)) new
