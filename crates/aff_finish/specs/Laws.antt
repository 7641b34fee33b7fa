-- What a run leaves, for any number of workers and any order of publications.
use Rattle.std.specs.Prelude.{◌≡◌, ◌≤◌, Bool, true, List, length, Option, IsTrue, All}
use Rattle.std.specs.FinMap.{empty}
use Rattle.aff_model.specs.declared.limits.TheConstants.{MAX_SIZE}
use Rattle.aff_model.specs.Content.{Content}
use Rattle.aff_model.specs.Held.{Held}
use Rattle.aff_model.specs.Legal.{IsComplete}
use Rattle.aff_model.specs.Plan.{IsPlan}
use Rattle.aff_fields.specs.declared.entry.Entry.{Entry}
use Rattle.aff_fields.specs.Entry.{FitsEntry}
use Rattle.aff_spec.specs.Appends.{applied, Reaches}
use Rattle.aff_spec.specs.Bevvies.{written}
use Rattle.aff_spec.specs.Names.{stream_urn}
use Rattle.aff_spec.specs.Runs.{AreGreatestRuns, history_spot}
use Rattle.aff_spec.specs.Words.{is_uuid}
use Rattle.aff_image.specs.Asked.{Asked}
use Rattle.aff_image.specs.Image.{Image}
use Rattle.aff_image.specs.Witnesses.{Witnessed, AreWitnessed, history_of, kept_chunks}
use Rattle.aff_finish.specs.Finished.{IsFinished, IsStopped}
use Rattle.aff_finish.specs.Finishing.{AreHashesOf, ended, finish_appends}
use Rattle.aff_finish.specs.declared.hashes.Hashes.{Hashes}

-- what holds of the readings of every run
abbrev pub OfEachRun : (Option Content → Bool → Asked → List Witnessed → Type 0) → Type 0
OfEachRun P =
    (case : Option Content) (tells : Bool) (asked : Asked) (readings : List Witnessed) → IsPlan asked.plan.size asked.plan.block asked.plan.extents
    → AreWitnessed case asked.plan asked.workers readings → is_uuid asked.uuid ≡ true → P case tells asked readings

-- and of those of a device that is accepted, which are complete, with the entries of their map and a folder that has their chunks
abbrev pub OfEachStored : (Option Content → Bool → Asked → List Witnessed → List Entry → Held → Type 0) → Type 0
OfEachStored P = OfEachRun (λ case tells asked readings.
    asked.plan.size ≤ MAX_SIZE → IsComplete asked.plan.extents (history_of readings) → (entries : List Entry) (held : Held)
    → AreGreatestRuns (history_spot asked.plan.extents (history_of readings)) entries → All FitsEntry entries
    → (IsTrue tells → held ≡ applied empty (written (stream_urn asked.uuid) (kept_chunks readings))) → P case tells asked readings entries held)

-- a folder that the appends of its chunks reach is one that it may leave where it stops
abbrev pub MayStop : Type 0
MayStop = OfEachRun (λ case tells asked readings.
    (held : Held) → (IsTrue tells → Reaches empty (written (stream_urn asked.uuid) (kept_chunks readings)) held) → (m : Image) × (m.history ≡ history_of readings) × IsStopped case tells asked m held)

-- so is one that the appends that finish it reach from there
abbrev pub MayStopBehind : Type 0
MayStopBehind = OfEachStored (λ case tells asked readings entries held.
    (new : Held) → (IsTrue tells → Reaches held (finish_appends asked.uuid asked.plan.size (kept_chunks readings) entries held) new)
    → (m : Image) × (m.history ≡ history_of readings) × IsStopped case tells asked m new)

-- and one that they all made is finished, with the hashes that were taken on the way
abbrev pub MayFinish : Type 0
MayFinish = OfEachStored (λ case tells asked readings entries held.
    (new : Held) (h : Hashes) → (IsTrue tells → new ≡ applied held (finish_appends asked.uuid asked.plan.size (kept_chunks readings) entries held))
    → AreHashesOf tells (ended asked.uuid (kept_chunks readings) entries held) asked.uuid asked.plan.size (length (kept_chunks readings)) h
    → (m : Image) × (m.history ≡ history_of readings) × IsFinished case tells asked m new h)
