-- What holds of every run.
use Rattle.std.specs.Prelude.{ℕ, Bool, List, Option}
use Rattle.aff_model.specs.Content.{Content}
use Rattle.aff_model.specs.Held.{Held}
use Rattle.aff_model.specs.History.{Published}
use Rattle.aff_image.specs.Asked.{Asked}
use Rattle.aff_finish.specs.declared.hashes.Hashes.{Hashes}
use Rattle.aff_script.specs.declared.script.Request.{Request}
use Rattle.aff_script.specs.Answered.{Answered}
use Rattle.aff_script.specs.Script.{IsScript}
use Rattle.aff_run.specs.Core.{IsCoreRun}
use Rattle.aff_run.specs.Ends.{IsAcquired}

-- the events of whatever was acquired are a run of the core
abbrev pub EventsAreARun : Type 0
EventsAreARun =
    (case : Option Content) (tells : Bool) (ask : Asked) (script : List (List Request)) (held : Held) (history : List Published) (sessions : List (List Answered)) (hashes : Hashes)
    → IsScript ask.plan.size script → IsAcquired case tells ask script held history sessions hashes → IsCoreRun ask.plan ask.workers history sessions
