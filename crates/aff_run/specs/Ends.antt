-- What each end of a run leaves.
use Rattle.std.specs.Prelude.{◌≡◌, ◌≢◌, ◌⊎◌, ℕ, ◌<◌, Bool, false, List, map, Option, Contains, IsTrue}
use Rattle.std.specs.Arc.{arc_value}
use Rattle.std.specs.FinMap.{empty}
use Rattle.std.specs.List.{AllZip}
use Rattle.aff_model.specs.Content.{Content}
use Rattle.aff_model.specs.Held.{Held}
use Rattle.aff_model.specs.History.{Part, Published}
use Rattle.aff_model.specs.Pieces.{published}
use Rattle.aff_model.specs.Plan.{Planned}
use Rattle.aff_spec.specs.Appends.{applied}
use Rattle.aff_spec.specs.Bevvies.{written}
use Rattle.aff_spec.specs.Names.{stream_urn}
use Rattle.aff_image.specs.Asked.{Asked}
use Rattle.aff_image.specs.Image.{Image}
use Rattle.aff_image.specs.Witnesses.{Witnessed, AreWitnessed, history_of, kept_chunks}
use Rattle.aff_script.specs.Answered.{Answered}
use Rattle.aff_script.specs.declared.script.Request.{Request}
use Rattle.aff_session.specs.Answers.{AreSessions}
use Rattle.aff_session.specs.Shown.{AreAnsweredBy}
use Rattle.aff_store.specs.Written.{Written}
use Rattle.aff_finish.specs.Finished.{IsFinished, IsStopped}
use Rattle.aff_finish.specs.declared.hashes.Hashes.{Hashes}
use Rattle.aff_run.specs.declared.ending.Acquired.{Acquired}
use Rattle.aff_run.specs.declared.ending.RunEnd.{RunEnd}
use Rattle.aff_run.specs.declared.ending.RunEnd.TheVariants.{Done, Failed, Damaged, Memory}

-- what so many workers are asked for, with so many examiners beside them
abbrev pub asked : List ℕ → Planned → ℕ → ℕ → Asked
asked uuid plan workers examiners = record { uuid = uuid; plan = plan; workers = workers; examiners = examiners }

-- the plan was acquired: the folder is the finished volume, with these hashes, of an image with this history, and each session of
-- the script was answered by the history
pub record IsAcquired (case : Option Content) (tells : Bool) (ask : Asked) (script : List (List Request)) (held : Held) (history : List Published) (sessions : List (List Answered)) (hashes : Hashes) : Type 0 where
  pub image : Image
  pub history_is : image.history ≡ history
  pub finished : IsFinished case tells ask image held hashes
  pub answers : AreSessions case tells ask.plan history script sessions

-- each session's answers are by the pieces, with digests of what was fetched of their chunks
abbrev pub AreAnsweredAll : Planned → Bool → {R : Type 0} → (R → List ℕ) → List (Part R) → List (List Request) → List (List Answered) → Type 0
AreAnsweredAll plan tells told pieces script sessions = AllZip (AreAnsweredBy plan tells told pieces) script sessions

-- the order of appends of an image of the plan had got so far
pub record IsCutOff (case : Option Content) (tells : Bool) (ask : Asked) (held : Held) : Type 0 where
  pub image : Image
  pub stopped : IsStopped case tells ask image held

-- the folder is the finished volume, with these hashes, of an image with this history
pub record IsWhole (case : Option Content) (tells : Bool) (ask : Asked) (held : Held) (history : List Published) (hashes : Hashes) : Type 0 where
  pub image : Image
  pub history_is : image.history ≡ history
  pub finished : IsFinished case tells ask image held hashes

-- the folder is the finished volume of an image of the plan, and a session was not answered or an examiner not shown all
pub record IsLeftWhole (case : Option Content) (tells : Bool) (ask : Asked) (held : Held) : Type 0 where
  pub image : Image
  pub hashes : Hashes
  pub finished : IsFinished case tells ask image held hashes

-- a peek has failed
pub record HasFailed {P : Type 0} (faults : P → ℕ) (peeks : List P) : Type 0 where
  pub peek : P
  pub there : Contains peeks peek
  pub failed : 0 < faults peek

-- some fetched bytes have another digest than was recorded of a chunk; over a folder that tells there are none
pub record IsDamage (tells : Bool) (recorded found : List ℕ) : Type 0 where
  pub untold : ¬ (IsTrue tells)
  pub differs : found ≢ recorded

-- what holds of what was acquired, where a run came to that
abbrev pub IfDone : {R : Type 0} → RunEnd R → (Acquired R → Type 0) → Type 0
IfDone (Done a) Holds = Holds a
IfDone Failed Holds = Unit {0}
IfDone (Damaged chunk recorded found) Holds = Unit {0}
IfDone Memory Holds = Unit {0}

-- what each end leaves in a folder in which nothing stood; `folder` says that the folder failed in the run, and `peek` that a peek did
abbrev pub Leaves : {R : Type 0} → Option Content → Bool → (R → List ℕ) → Asked → List (List Request) → Held → Type 0 → Type 0 → RunEnd R → Type 0
Leaves case tells told ask script held folder peek (Done a) = IsAcquired case tells ask script held (map published a.pieces.items) (map (λ s. s.items) a.sessions.items) a.hashes
    × AreAnsweredAll ask.plan tells told (map arc_value a.pieces.items) script (map (λ s. s.items) a.sessions.items)
Leaves case tells told ask script held folder peek Failed = (folder × IsCutOff case tells ask held) ⊎ (peek × IsLeftWhole case tells ask held)
Leaves case tells told ask script held folder peek (Damaged chunk recorded found) = IsDamage tells recorded found × IsLeftWhole case tells ask held
Leaves case tells told ask script held folder peek Memory = IsCutOff case tells ask held ⊎ IsLeftWhole case tells ask held

-- readings of the plan by the workers are those of a history; the stream has their chunks and no other, and so has the folder,
-- where it tells
pub record AreStored (case : Option Content) (tells : Bool) (ask : Asked) (held : Held) (stream : Written) (history : List Published) : Type 0 where
  pub readings : List Witnessed
  pub are : AreWitnessed case ask.plan ask.workers readings
  pub history_is : history_of readings ≡ history
  pub chunks : stream ≡ record { urn = stream_urn ask.uuid; chunks = kept_chunks readings; ended = false }
  pub appended : IsTrue tells → held ≡ applied empty (written (stream_urn ask.uuid) (kept_chunks readings))
