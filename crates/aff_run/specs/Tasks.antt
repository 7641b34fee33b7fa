-- What a task needs, and what it leaves.
use Rattle.std.specs.Prelude.{◌≡◌, ℕ, ◌<◌, Bool, List, [], ◌∷◌, ◌++◌, Option}
use Rattle.std.specs.declared.dyn_box.DynBox.{DynBox}
use Rattle.std.specs.declared.alloc.Global.{Global}
use Rattle.aff_model.specs.Content.{Content}
use Rattle.aff_model.specs.Plan.{Planned}
use Rattle.aff_claim.specs.Values.{Claiming}
use Rattle.aff_examine.specs.declared.examination.Examination.{Examination}
use Rattle.aff_examine.specs.Folds.{Rule}
use Rattle.aff_outside.specs.Kept.{IsSameDevice}
use Rattle.aff_session.specs.Sittings.{Sitting}
use Rattle.aff_snapshot.specs.Lists.{ListName}
use Rattle.aff_run.specs.Devices.{Fits}
use Rattle.aff_run.specs.Examinations.{HasWatched, IsUnshown}
use Rattle.aff_run.specs.Sessions.{HasLived, IsFresh}
use Rattle.aff_run.specs.declared.tasks.Job.{Job}
use Rattle.aff_run.specs.declared.tasks.Job.TheVariants.{Ready, Ended, Taken}
use Rattle.aff_run.specs.declared.tasks.Task.{Task}
use Rattle.aff_run.specs.declared.tasks.Task.TheVariants.{Work, Look, Watch}

module _ {X : Type 0} {G : X → Type 0} where
  -- a worker that has not begun, with a pass of the table whose number is a worker's and a device that fits
  abbrev pub CanWork : Claiming → ℕ → Option Content → Planned → (DynBox X Global G → Option Content) → (DynBox X Global G → ℕ) → (DynBox X Global G → ℕ) → Job X G → Type 0
  CanWork claims workers case plan content block size (Ready worker) = (worker.pass.claims ≡ claims) × (worker.pass.view.number < workers) × Fits case plan content block size worker.device
  CanWork claims workers case plan content block size (Ended end) = ⊥
  CanWork claims workers case plan content block size Taken = ⊥

  -- the worker has ended, and its device is kept
  abbrev pub HasWorked : (DynBox X Global G → Option Content) → (DynBox X Global G → ℕ) → (DynBox X Global G → ℕ) → (DynBox X Global G → ℕ) → Job X G → Job X G → Type 0
  HasWorked content block size faults (Ready worker) (Ended end) = IsSameDevice content block size faults worker.device end.device
  HasWorked content block size faults (Ready worker) (Ready other) = ⊥
  HasWorked content block size faults (Ready worker) Taken = ⊥
  HasWorked content block size faults (Ended end) job = ⊥
  HasWorked content block size faults Taken job = ⊥

  -- the device of a worker, unless it works
  abbrev pub device_in : Job X G → List (DynBox X Global G)
  device_in (Ready worker) = worker.device ∷ []
  device_in (Ended end) = end.device ∷ []
  device_in Taken = []

  module _ {Y Z R P V : Type 0} {H : V → Type 0} where
    -- a worker or a session that has not begun, or an examiner that was shown nothing
    abbrev pub CanRun : ListName → Claiming → ℕ → Option Content → Planned → (DynBox X Global G → Option Content) → (DynBox X Global G → ℕ) → (DynBox X Global G → ℕ) → Task (Job X G) (Sitting R P) (Examination Y Z R P V H) → Type 0
    CanRun list claims workers case plan content block size (Work job) = CanWork claims workers case plan content block size job
    CanRun list claims workers case plan content block size (Look number session) = IsFresh plan claims list session
    CanRun list claims workers case plan content block size (Watch x) = IsUnshown plan list x

    -- a worker has ended, a session has lived, or an examiner was shown what its follower saw
    abbrev pub HasRun : ListName → Planned → Bool → (R → List ℕ) → (P → ℕ) → (DynBox X Global G → Option Content) → (DynBox X Global G → ℕ) → (DynBox X Global G → ℕ) → (DynBox X Global G → ℕ)
        → (DynBox V Global H → Rule) → (DynBox V Global H → List ℕ → List ℕ) → (DynBox V Global H → List ℕ) → Task (Job X G) (Sitting R P) (Examination Y Z R P V H) → Task (Job X G) (Sitting R P) (Examination Y Z R P V H) → Type 0
    HasRun list plan tells told peeks content block size faults rule text state (Work job) (Work after) = HasWorked content block size faults job after
    HasRun list plan tells told peeks content block size faults rule text state (Look number session) (Look again after) = HasLived plan list tells told peeks after × (after.requests ≡ session.requests)
    HasRun list plan tells told peeks content block size faults rule text state (Watch x) (Watch after) = HasWatched plan list tells told peeks rule text state x.examiner after
    HasRun list plan tells told peeks content block size faults rule text state (Work job) (Look number session) = ⊥
    HasRun list plan tells told peeks content block size faults rule text state (Work job) (Watch x) = ⊥
    HasRun list plan tells told peeks content block size faults rule text state (Look number session) (Work job) = ⊥
    HasRun list plan tells told peeks content block size faults rule text state (Look number session) (Watch x) = ⊥
    HasRun list plan tells told peeks content block size faults rule text state (Watch x) (Work job) = ⊥
    HasRun list plan tells told peeks content block size faults rule text state (Watch x) (Look number session) = ⊥

    -- the devices of tasks, in their order
    abbrev pub devices_of : List (Task (Job X G) (Sitting R P) (Examination Y Z R P V H)) → List (DynBox X Global G)
    devices_of [] = []
    devices_of (Work job ∷ tasks) = device_in job ++ devices_of tasks
    devices_of (Look number session ∷ tasks) = devices_of tasks
    devices_of (Watch x ∷ tasks) = devices_of tasks

    -- their sessions
    abbrev pub sessions_of : List (Task (Job X G) (Sitting R P) (Examination Y Z R P V H)) → List (Sitting R P)
    sessions_of [] = []
    sessions_of (Work job ∷ tasks) = sessions_of tasks
    sessions_of (Look number session ∷ tasks) = session ∷ sessions_of tasks
    sessions_of (Watch x ∷ tasks) = sessions_of tasks

    -- and their examinations
    abbrev pub examinations_of : List (Task (Job X G) (Sitting R P) (Examination Y Z R P V H)) → List (Examination Y Z R P V H)
    examinations_of [] = []
    examinations_of (Work job ∷ tasks) = examinations_of tasks
    examinations_of (Look number session ∷ tasks) = examinations_of tasks
    examinations_of (Watch x ∷ tasks) = x ∷ examinations_of tasks
