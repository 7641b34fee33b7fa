-- Tasks, and the devices that they have.
use Rattle.std.proofs.Common.{◌≡◌, ℕ, zero, suc, ◌+◌, ◌<◌, ◌≤◌, List, [], ◌∷◌, ◌++◌, append-nil, append_assoc, length, map, take, refl, sym, ap, subst, ◌∙◌, arith}
use Rattle.std.specs.Prelude.{All, Bool, None, Option, Some, slice_index_or}
use Rattle.std.specs.List.{AllZip}
use Rattle.std.proofs.lemmas.List.{map-append, take_at}
use Rattle.std.proofs.lemmas.List.Elements.{All-cons, All-nil, All-pop, All-push}
use Rattle.std.specs.declared.dyn_box.DynBox.{DynBox}
use Rattle.std.specs.declared.alloc.Global.{Global}
use Rattle.aff_model.specs.Content.{Content}
use Rattle.aff_model.specs.Plan.{Planned}
use Rattle.aff_claim.specs.Values.{Claiming}
use Rattle.aff_session.specs.Sittings.{Sitting}
use Rattle.aff_snapshot.specs.Lists.{ListName}
use Rattle.aff_run.specs.declared.tasks.Job.{Job}
use Rattle.aff_run.specs.declared.tasks.Job.TheVariants.{Ready, Ended, Taken}
use Rattle.aff_run.specs.declared.tasks.Task.{Task}
use Rattle.aff_run.specs.declared.tasks.Task.TheVariants.{Work, Look, Watch}
use Rattle.aff_worker.specs.declared.worker.Worker.{Worker}
use Rattle.aff_outside.specs.Kept.{IsSameDevice}
use Rattle.aff_examine.specs.declared.examination.Examination.{Examination}
use Rattle.aff_examine.specs.Folds.{Rule}
use Rattle.aff_run.specs.Devices.{AreKept, Fits}
use Rattle.aff_run.specs.Examinations.{HasWatched, IsNew, IsUnshown}
use Rattle.aff_run.specs.Sessions.{HasLived, IsFresh}
use Rattle.aff_run.specs.Tasks.{CanRun, HasRun, device_in, devices_of, examinations_of, sessions_of}
use Rattle.aff_run.proofs.Keeping.{Along, kept_along}

module _ {X : Type 0} {G : X → Type 0} {Y Z R P V : Type 0} {H : V → Type 0} (content : DynBox X Global G → Option Content) (block size faults : DynBox X Global G → ℕ) where
  -- what is needed of a task of a list
  pub can_at : (list : ListName) (claims : Claiming) (workers : ℕ) (case : Option Content) (plan : Planned) (tasks : List (Task (Job X G) (Sitting R P) (Examination Y Z R P V H))) (k : ℕ) (task : Task (Job X G) (Sitting R P) (Examination Y Z R P V H)) → k < length tasks → task ≡ slice_index_or tasks k task
      → All (CanRun list claims workers case plan content block size) tasks → CanRun list claims workers case plan content block size task
  can_at list claims workers case plan tasks k task below is all = subst (CanRun list claims workers case plan content block size) (sym is) (all k task below)

  pub same_can : (list : ListName) (claims : Claiming) (workers : ℕ) (case : Option Content) (plan : Planned) (tasks slice : List (Task (Job X G) (Sitting R P) (Examination Y Z R P V H))) → slice ≡ tasks → All (CanRun list claims workers case plan content block size) tasks
      → All (CanRun list claims workers case plan content block size) slice
  same_can list claims workers case plan tasks slice is all = subst (All (CanRun list claims workers case plan content block size)) (sym is) all

  module _ (list : ListName) (plan : Planned) (tells : Bool) (told : R → List ℕ) (peeks : P → ℕ) (rule : DynBox V Global H → Rule) (text : DynBox V Global H → List ℕ → List ℕ) (state : DynBox V Global H → List ℕ) where
    -- tasks have run
    abbrev pub Ran : List (Task (Job X G) (Sitting R P) (Examination Y Z R P V H)) → List (Task (Job X G) (Sitting R P) (Examination Y Z R P V H)) → Type 0
    Ran olds news = (k : ℕ) (d : Task (Job X G) (Sitting R P) (Examination Y Z R P V H)) → k < length olds → HasRun list plan tells told peeks content block size faults rule text state (slice_index_or olds k d) (slice_index_or news k d)

    -- their devices are kept
    ran_along : (olds news : List (Task (Job X G) (Sitting R P) (Examination Y Z R P V H))) → length news ≡ length olds → Ran olds news → Along (λ d e. IsSameDevice content block size faults d e) (devices_of olds) (devices_of news)
    ran_along [] [] len each = tt
    ran_along [] (y ∷ news) len each = absurd (omega (arith, len))
    ran_along (x ∷ olds) [] len each = absurd (omega (arith, len))
    ran_along (Work (Ready w) ∷ olds) (Work (Ended e) ∷ news) len each = (each zero (Work Taken) (omega arith), ran_along olds news (omega (arith, len)) (λ k d below. each (suc k) d (omega (arith, below))))
    ran_along (Work (Ready w) ∷ olds) (Work (Ready v) ∷ news) len each = absurd (each zero (Work Taken) (omega arith))
    ran_along (Work (Ready w) ∷ olds) (Work Taken ∷ news) len each = absurd (each zero (Work Taken) (omega arith))
    ran_along (Work (Ready w) ∷ olds) (Look n s ∷ news) len each = absurd (each zero (Work Taken) (omega arith))
    ran_along (Work (Ended e) ∷ olds) (Work job ∷ news) len each = absurd (each zero (Work Taken) (omega arith))
    ran_along (Work (Ended e) ∷ olds) (Look n s ∷ news) len each = absurd (each zero (Work Taken) (omega arith))
    ran_along (Work Taken ∷ olds) (Work job ∷ news) len each = absurd (each zero (Work Taken) (omega arith))
    ran_along (Work Taken ∷ olds) (Look n s ∷ news) len each = absurd (each zero (Work Taken) (omega arith))
    ran_along (Look n s ∷ olds) (Work job ∷ news) len each = absurd (each zero (Work Taken) (omega arith))
    ran_along (Look n s ∷ olds) (Look m t ∷ news) len each = ran_along olds news (omega (arith, len)) (λ k d below. each (suc k) d (omega (arith, below)))
    ran_along (Work (Ready w) ∷ olds) (Watch x ∷ news) len each = absurd (each zero (Work Taken) (omega arith))
    ran_along (Work (Ended e) ∷ olds) (Watch x ∷ news) len each = absurd (each zero (Work Taken) (omega arith))
    ran_along (Work Taken ∷ olds) (Watch x ∷ news) len each = absurd (each zero (Work Taken) (omega arith))
    ran_along (Look n s ∷ olds) (Watch x ∷ news) len each = absurd (each zero (Work Taken) (omega arith))
    ran_along (Watch x ∷ olds) (Work job ∷ news) len each = absurd (each zero (Work Taken) (omega arith))
    ran_along (Watch x ∷ olds) (Look n s ∷ news) len each = absurd (each zero (Work Taken) (omega arith))
    ran_along (Watch x ∷ olds) (Watch y ∷ news) len each = ran_along olds news (omega (arith, len)) (λ k d below. each (suc k) d (omega (arith, below)))

    -- their sessions have lived
    pub ran_lived : (olds news : List (Task (Job X G) (Sitting R P) (Examination Y Z R P V H))) → length news ≡ length olds → Ran olds news → All (λ s. HasLived plan list tells told peeks s) (sessions_of news)
    ran_lived [] [] len each = All-nil _
    ran_lived [] (y ∷ news) len each = absurd (omega (arith, len))
    ran_lived (x ∷ olds) [] len each = absurd (omega (arith, len))
    ran_lived (Work job ∷ olds) (Work after ∷ news) len each = ran_lived olds news (omega (arith, len)) (λ k d below. each (suc k) d (omega (arith, below)))
    ran_lived (Work job ∷ olds) (Look n s ∷ news) len each = absurd (each zero (Work Taken) (omega arith))
    ran_lived (Look n s ∷ olds) (Work job ∷ news) len each = absurd (each zero (Work Taken) (omega arith))
    ran_lived (Look n s ∷ olds) (Look m t ∷ news) len each =
        All-cons (λ s. HasLived plan list tells told peeks s) t (sessions_of news) (each zero (Work Taken) (omega arith)).0 (ran_lived olds news (omega (arith, len)) (λ k d below. each (suc k) d (omega (arith, below))))
    ran_lived (Work job ∷ olds) (Watch x ∷ news) len each = absurd (each zero (Work Taken) (omega arith))
    ran_lived (Look n s ∷ olds) (Watch x ∷ news) len each = absurd (each zero (Work Taken) (omega arith))
    ran_lived (Watch x ∷ olds) (Work job ∷ news) len each = absurd (each zero (Work Taken) (omega arith))
    ran_lived (Watch x ∷ olds) (Look n s ∷ news) len each = absurd (each zero (Work Taken) (omega arith))
    ran_lived (Watch x ∷ olds) (Watch y ∷ news) len each = ran_lived olds news (omega (arith, len)) (λ k d below. each (suc k) d (omega (arith, below)))

    -- of the same requests
    pub ran_asked : (olds news : List (Task (Job X G) (Sitting R P) (Examination Y Z R P V H))) → length news ≡ length olds → Ran olds news → map (λ s. s.requests) (sessions_of news) ≡ map (λ s. s.requests) (sessions_of olds)
    ran_asked [] [] len each = refl
    ran_asked [] (y ∷ news) len each = absurd (omega (arith, len))
    ran_asked (x ∷ olds) [] len each = absurd (omega (arith, len))
    ran_asked (Work job ∷ olds) (Work after ∷ news) len each = ran_asked olds news (omega (arith, len)) (λ k d below. each (suc k) d (omega (arith, below)))
    ran_asked (Work job ∷ olds) (Look n s ∷ news) len each = absurd (each zero (Work Taken) (omega arith))
    ran_asked (Look n s ∷ olds) (Work job ∷ news) len each = absurd (each zero (Work Taken) (omega arith))
    ran_asked (Look n s ∷ olds) (Look m t ∷ news) len each = λ i. (each zero (Work Taken) (omega arith)).1 i ∷ ran_asked olds news (omega (arith, len)) (λ k d below. each (suc k) d (omega (arith, below))) i
    ran_asked (Work job ∷ olds) (Watch x ∷ news) len each = absurd (each zero (Work Taken) (omega arith))
    ran_asked (Look n s ∷ olds) (Watch x ∷ news) len each = absurd (each zero (Work Taken) (omega arith))
    ran_asked (Watch x ∷ olds) (Work job ∷ news) len each = absurd (each zero (Work Taken) (omega arith))
    ran_asked (Watch x ∷ olds) (Look n s ∷ news) len each = absurd (each zero (Work Taken) (omega arith))
    ran_asked (Watch x ∷ olds) (Watch y ∷ news) len each = ran_asked olds news (omega (arith, len)) (λ k d below. each (suc k) d (omega (arith, below)))

    -- their examiners were shown what their followers saw
    pub ran_watched : (olds news : List (Task (Job X G) (Sitting R P) (Examination Y Z R P V H))) → length news ≡ length olds → Ran olds news
        → AllZip (λ from x. HasWatched plan list tells told peeks rule text state from x) (map (λ x. x.examiner) (examinations_of olds)) (examinations_of news)
    ran_watched [] [] len each = tt
    ran_watched [] (y ∷ news) len each = absurd (omega (arith, len))
    ran_watched (x ∷ olds) [] len each = absurd (omega (arith, len))
    ran_watched (Work job ∷ olds) (Work after ∷ news) len each = ran_watched olds news (omega (arith, len)) (λ k d below. each (suc k) d (omega (arith, below)))
    ran_watched (Work job ∷ olds) (Look n s ∷ news) len each = absurd (each zero (Work Taken) (omega arith))
    ran_watched (Work job ∷ olds) (Watch x ∷ news) len each = absurd (each zero (Work Taken) (omega arith))
    ran_watched (Look n s ∷ olds) (Work job ∷ news) len each = absurd (each zero (Work Taken) (omega arith))
    ran_watched (Look n s ∷ olds) (Look m t ∷ news) len each = ran_watched olds news (omega (arith, len)) (λ k d below. each (suc k) d (omega (arith, below)))
    ran_watched (Look n s ∷ olds) (Watch x ∷ news) len each = absurd (each zero (Work Taken) (omega arith))
    ran_watched (Watch x ∷ olds) (Work job ∷ news) len each = absurd (each zero (Work Taken) (omega arith))
    ran_watched (Watch x ∷ olds) (Look n s ∷ news) len each = absurd (each zero (Work Taken) (omega arith))
    ran_watched (Watch x ∷ olds) (Watch y ∷ news) len each = (each zero (Work Taken) (omega arith), ran_watched olds news (omega (arith, len)) (λ k d below. each (suc k) d (omega (arith, below))))

    pub ran_kept : (olds news : List (Task (Job X G) (Sitting R P) (Examination Y Z R P V H))) → length news ≡ length olds → Ran olds news → AreKept content block size faults (devices_of olds) (devices_of news)
    ran_kept olds news len each = kept_along content block size faults (devices_of olds) (devices_of news) (ran_along olds news len each)

    -- what comes back of tasks that have run
    pub back_kept : (olds slice news rest : List (Task (Job X G) (Sitting R P) (Examination Y Z R P V H))) (n : ℕ) (devices back : List (DynBox X Global G)) → slice ≡ olds → length slice ≡ n → length news ≡ length slice
        → Ran slice news → devices_of olds ≡ devices → back ≡ devices_of (take n (news ++ rest)) → AreKept content block size faults devices back
    back_kept olds slice news rest n devices back same len count each was is =
        let now : back ≡ devices_of news = is ∙ ap devices_of (take_at news rest n (count ∙ len)) in
        subst (λ l. AreKept content block size faults devices l) (sym now)
        (subst (λ l. AreKept content block size faults l (devices_of news)) (ap devices_of same ∙ was) (ran_kept slice news count each))

    pub back_lived : (slice news rest : List (Task (Job X G) (Sitting R P) (Examination Y Z R P V H))) (n : ℕ) (back : List (Sitting R P)) → length slice ≡ n → length news ≡ length slice → Ran slice news
        → back ≡ sessions_of (take n (news ++ rest)) → All (λ s. HasLived plan list tells told peeks s) back
    back_lived slice news rest n back len count each is =
        let now : back ≡ sessions_of news = is ∙ ap sessions_of (take_at news rest n (count ∙ len)) in
        subst (All (λ s. HasLived plan list tells told peeks s)) (sym now) (ran_lived slice news count each)

    pub back_asked : (olds slice news rest : List (Task (Job X G) (Sitting R P) (Examination Y Z R P V H))) (n : ℕ) (sessions back : List (Sitting R P)) → slice ≡ olds → length slice ≡ n → length news ≡ length slice
        → Ran slice news → sessions_of olds ≡ sessions → back ≡ sessions_of (take n (news ++ rest)) → map (λ s. s.requests) back ≡ map (λ s. s.requests) sessions
    back_asked olds slice news rest n sessions back same len count each was is =
        let now : back ≡ sessions_of news = is ∙ ap sessions_of (take_at news rest n (count ∙ len)) in
        ap (map (λ s. s.requests)) now ∙ (ran_asked slice news count each ∙ ap (map (λ s. s.requests)) (ap sessions_of same ∙ was))

    pub back_watched : (olds slice news rest : List (Task (Job X G) (Sitting R P) (Examination Y Z R P V H))) (n : ℕ) (examiners : List (DynBox V Global H)) (back : List (Examination Y Z R P V H)) → slice ≡ olds → length slice ≡ n → length news ≡ length slice
        → Ran slice news → map (λ x. x.examiner) (examinations_of olds) ≡ examiners → back ≡ examinations_of (take n (news ++ rest)) → AllZip (λ from x. HasWatched plan list tells told peeks rule text state from x) examiners back
    back_watched olds slice news rest n examiners back same len count each was is =
        let now : back ≡ examinations_of news = is ∙ ap examinations_of (take_at news rest n (count ∙ len)) in
        subst (λ l. AllZip (λ from x. HasWatched plan list tells told peeks rule text state from x) examiners l) (sym now)
        (subst (λ l. AllZip (λ from x. HasWatched plan list tells told peeks rule text state from x) l (examinations_of news)) (ap (λ l. map (λ x. x.examiner) (examinations_of l)) same ∙ was) (ran_watched slice news count each))

module _ {X : Type 0} {G : X → Type 0} {Y Z R P V : Type 0} {H : V → Type 0} where
  -- the devices with those of a task more
  pub devices_push : (tasks : List (Task (Job X G) (Sitting R P) (Examination Y Z R P V H))) (task : Task (Job X G) (Sitting R P) (Examination Y Z R P V H)) → devices_of (tasks ++ task ∷ []) ≡ devices_of tasks ++ devices_of (task ∷ [])
  devices_push [] task = refl
  devices_push (Work job ∷ tasks) task = ap (λ l. device_in job ++ l) (devices_push tasks task) ∙ sym (append_assoc (device_in job) (devices_of tasks) (devices_of (task ∷ [])))
  devices_push (Look n s ∷ tasks) task = devices_push tasks task
  devices_push (Watch x ∷ tasks) task = devices_push tasks task

  -- and the sessions
  pub sessions_push : (tasks : List (Task (Job X G) (Sitting R P) (Examination Y Z R P V H))) (task : Task (Job X G) (Sitting R P) (Examination Y Z R P V H)) → sessions_of (tasks ++ task ∷ []) ≡ sessions_of tasks ++ sessions_of (task ∷ [])
  sessions_push [] task = refl
  sessions_push (Work job ∷ tasks) task = sessions_push tasks task
  sessions_push (Look n s ∷ tasks) task = ap (λ l. s ∷ l) (sessions_push tasks task)
  sessions_push (Watch x ∷ tasks) task = sessions_push tasks task

  -- and the examinations
  pub examinations_push : (tasks : List (Task (Job X G) (Sitting R P) (Examination Y Z R P V H))) (task : Task (Job X G) (Sitting R P) (Examination Y Z R P V H)) → examinations_of (tasks ++ task ∷ []) ≡ examinations_of tasks ++ examinations_of (task ∷ [])
  examinations_push [] task = refl
  examinations_push (Work job ∷ tasks) task = examinations_push tasks task
  examinations_push (Look n s ∷ tasks) task = examinations_push tasks task
  examinations_push (Watch x ∷ tasks) task = ap (λ l. x ∷ l) (examinations_push tasks task)

  -- and with those of a worker more
  pub staffed : (tasks news : List (Task (Job X G) (Sitting R P) (Examination Y Z R P V H))) (w : Worker X G) (devices : List (DynBox X Global G)) → news ≡ tasks ++ Work (Ready w) ∷ [] → devices_of tasks ≡ devices → devices_of news ≡ devices ++ w.device ∷ []
  staffed tasks news w devices more is = ap devices_of more ∙ (devices_push tasks (Work (Ready w)) ∙ ap (λ l. l ++ w.device ∷ []) is)

  -- with no session more
  pub staffed_sessions : (tasks news : List (Task (Job X G) (Sitting R P) (Examination Y Z R P V H))) (w : Worker X G) → news ≡ tasks ++ Work (Ready w) ∷ [] → sessions_of tasks ≡ [] → sessions_of news ≡ []
  staffed_sessions tasks news w more is = ap sessions_of more ∙ (sessions_push tasks (Work (Ready w)) ∙ ap (λ l. l ++ []) is)

  -- and no examination more
  pub staffed_examinations : (tasks news : List (Task (Job X G) (Sitting R P) (Examination Y Z R P V H))) (w : Worker X G) → news ≡ tasks ++ Work (Ready w) ∷ [] → examinations_of tasks ≡ [] → examinations_of news ≡ []
  staffed_examinations tasks news w more is = ap examinations_of more ∙ (examinations_push tasks (Work (Ready w)) ∙ ap (λ l. l ++ []) is)

  -- who can run as before, where its device fits
  pub staffed_can : (content : DynBox X Global G → Option Content) (block size : DynBox X Global G → ℕ) (list : ListName) (claims : Claiming) (workers : ℕ) (case : Option Content) (plan : Planned) (tasks news : List (Task (Job X G) (Sitting R P) (Examination Y Z R P V H))) (w : Worker X G)
      → news ≡ tasks ++ Work (Ready w) ∷ [] → w.pass.claims ≡ claims → w.pass.view.number < workers
      → (All (λ d. Fits case plan content block size d) (devices_of tasks) → All (CanRun list claims workers case plan content block size) tasks)
      → All (λ d. Fits case plan content block size d) (devices_of news) → All (CanRun list claims workers case plan content block size) news
  staffed_can content block size list claims workers case plan tasks news w more same number before fit =
      let both = All-pop (λ d. Fits case plan content block size d) (devices_of news) (devices_of tasks) (Some w.device) (staffed tasks news w (devices_of tasks) more refl) fit in
      subst (All (CanRun list claims workers case plan content block size)) (sym more) (All-push (CanRun list claims workers case plan content block size) tasks (Work (Ready w)) (before both.0) (same, number, both.1))

  -- a session more
  pub seated : (tasks news : List (Task (Job X G) (Sitting R P) (Examination Y Z R P V H))) (n : ℕ) (s : Sitting R P) (sessions : List (Sitting R P)) → news ≡ tasks ++ Look n s ∷ [] → sessions_of tasks ≡ sessions → sessions_of news ≡ sessions ++ s ∷ []
  seated tasks news n s sessions more is = ap sessions_of more ∙ (sessions_push tasks (Look n s) ∙ ap (λ l. l ++ s ∷ []) is)

  pub seated_devices : (tasks news : List (Task (Job X G) (Sitting R P) (Examination Y Z R P V H))) (n : ℕ) (s : Sitting R P) (devices : List (DynBox X Global G)) → news ≡ tasks ++ Look n s ∷ [] → devices_of tasks ≡ devices → devices_of news ≡ devices
  seated_devices tasks news n s devices more is = ap devices_of more ∙ (devices_push tasks (Look n s) ∙ (append-nil (devices_of tasks) ∙ is))

  pub seated_examinations : (tasks news : List (Task (Job X G) (Sitting R P) (Examination Y Z R P V H))) (n : ℕ) (s : Sitting R P) (xs : List (Examination Y Z R P V H)) → news ≡ tasks ++ Look n s ∷ [] → examinations_of tasks ≡ xs → examinations_of news ≡ xs
  seated_examinations tasks news n s xs more is = ap examinations_of more ∙ (examinations_push tasks (Look n s) ∙ (append-nil (examinations_of tasks) ∙ is))

  -- an examination more
  pub posted : (tasks news : List (Task (Job X G) (Sitting R P) (Examination Y Z R P V H))) (x : Examination Y Z R P V H) (examiners : List (DynBox V Global H)) → news ≡ tasks ++ Watch x ∷ [] → map (λ x. x.examiner) (examinations_of tasks) ≡ examiners
      → map (λ x. x.examiner) (examinations_of news) ≡ examiners ++ x.examiner ∷ []
  posted tasks news x examiners more is =
      ap (λ l. map (λ x. x.examiner) (examinations_of l)) more ∙ (ap (map (λ x. x.examiner)) (examinations_push tasks (Watch x))
      ∙ (map-append (λ (x : Examination Y Z R P V H). x.examiner) (examinations_of tasks) (x ∷ []) ∙ ap (λ l. l ++ x.examiner ∷ []) is))

  pub posted_devices : (tasks news : List (Task (Job X G) (Sitting R P) (Examination Y Z R P V H))) (x : Examination Y Z R P V H) (devices : List (DynBox X Global G)) → news ≡ tasks ++ Watch x ∷ [] → devices_of tasks ≡ devices → devices_of news ≡ devices
  posted_devices tasks news x devices more is = ap devices_of more ∙ (devices_push tasks (Watch x) ∙ (append-nil (devices_of tasks) ∙ is))

  pub posted_sessions : (tasks news : List (Task (Job X G) (Sitting R P) (Examination Y Z R P V H))) (x : Examination Y Z R P V H) (sessions : List (Sitting R P)) → news ≡ tasks ++ Watch x ∷ [] → sessions_of tasks ≡ sessions → sessions_of news ≡ sessions
  posted_sessions tasks news x sessions more is = ap sessions_of more ∙ (sessions_push tasks (Watch x) ∙ (append-nil (sessions_of tasks) ∙ is))

  pub posted_can : (content : DynBox X Global G → Option Content) (block size : DynBox X Global G → ℕ) (list : ListName) (claims : Claiming) (workers : ℕ) (case : Option Content) (plan : Planned) (tasks news : List (Task (Job X G) (Sitting R P) (Examination Y Z R P V H))) (x : Examination Y Z R P V H)
      → news ≡ tasks ++ Watch x ∷ [] → IsNew plan list x.follower → x.fault ≡ None → All (CanRun list claims workers case plan content block size) tasks → All (CanRun list claims workers case plan content block size) news
  posted_can content block size list claims workers case plan tasks news x more new well before =
      subst (All (CanRun list claims workers case plan content block size)) (sym more) (All-push (CanRun list claims workers case plan content block size) tasks (Watch x) before (record { follower = new; well = well }))

  -- what comes back of a task more
  pub devices_more : (tasks : List (Task (Job X G) (Sitting R P) (Examination Y Z R P V H))) (task : Task (Job X G) (Sitting R P) (Examination Y Z R P V H)) (job : Job X G) → task ≡ Work job → devices_of (tasks ++ task ∷ []) ≡ devices_of tasks ++ device_in job
  devices_more tasks task job is = devices_push tasks task ∙ ap (λ l. devices_of tasks ++ l) (ap (λ (t : Task (Job X G) (Sitting R P) (Examination Y Z R P V H)). devices_of (t ∷ [])) is ∙ append-nil (device_in job))

  pub devices_same : (tasks : List (Task (Job X G) (Sitting R P) (Examination Y Z R P V H))) (task : Task (Job X G) (Sitting R P) (Examination Y Z R P V H)) (n : ℕ) (s : Sitting R P) → task ≡ Look n s → devices_of (tasks ++ task ∷ []) ≡ devices_of tasks
  devices_same tasks task n s is = devices_push tasks task ∙ (ap (λ l. devices_of tasks ++ l) (ap (λ (t : Task (Job X G) (Sitting R P) (Examination Y Z R P V H)). devices_of (t ∷ [])) is) ∙ append-nil (devices_of tasks))

  pub sessions_more : (tasks : List (Task (Job X G) (Sitting R P) (Examination Y Z R P V H))) (task : Task (Job X G) (Sitting R P) (Examination Y Z R P V H)) (n : ℕ) (s : Sitting R P) → task ≡ Look n s → sessions_of (tasks ++ task ∷ []) ≡ sessions_of tasks ++ s ∷ []
  sessions_more tasks task n s is = sessions_push tasks task ∙ ap (λ l. sessions_of tasks ++ l) (ap (λ (t : Task (Job X G) (Sitting R P) (Examination Y Z R P V H)). sessions_of (t ∷ [])) is)

  pub sessions_same : (tasks : List (Task (Job X G) (Sitting R P) (Examination Y Z R P V H))) (task : Task (Job X G) (Sitting R P) (Examination Y Z R P V H)) (job : Job X G) → task ≡ Work job → sessions_of (tasks ++ task ∷ []) ≡ sessions_of tasks
  sessions_same tasks task job is = sessions_push tasks task ∙ (ap (λ l. sessions_of tasks ++ l) (ap (λ (t : Task (Job X G) (Sitting R P) (Examination Y Z R P V H)). sessions_of (t ∷ [])) is) ∙ append-nil (sessions_of tasks))

  pub examinations_more : (tasks : List (Task (Job X G) (Sitting R P) (Examination Y Z R P V H))) (task : Task (Job X G) (Sitting R P) (Examination Y Z R P V H)) (x : Examination Y Z R P V H) → task ≡ Watch x → examinations_of (tasks ++ task ∷ []) ≡ examinations_of tasks ++ x ∷ []
  examinations_more tasks task x is = examinations_push tasks task ∙ ap (λ l. examinations_of tasks ++ l) (ap (λ (t : Task (Job X G) (Sitting R P) (Examination Y Z R P V H)). examinations_of (t ∷ [])) is)

  pub examinations_work : (tasks : List (Task (Job X G) (Sitting R P) (Examination Y Z R P V H))) (task : Task (Job X G) (Sitting R P) (Examination Y Z R P V H)) (job : Job X G) → task ≡ Work job → examinations_of (tasks ++ task ∷ []) ≡ examinations_of tasks
  examinations_work tasks task job is = examinations_push tasks task ∙ (ap (λ l. examinations_of tasks ++ l) (ap (λ (t : Task (Job X G) (Sitting R P) (Examination Y Z R P V H)). examinations_of (t ∷ [])) is) ∙ append-nil (examinations_of tasks))

  pub examinations_look : (tasks : List (Task (Job X G) (Sitting R P) (Examination Y Z R P V H))) (task : Task (Job X G) (Sitting R P) (Examination Y Z R P V H)) (n : ℕ) (s : Sitting R P) → task ≡ Look n s → examinations_of (tasks ++ task ∷ []) ≡ examinations_of tasks
  examinations_look tasks task n s is = examinations_push tasks task ∙ (ap (λ l. examinations_of tasks ++ l) (ap (λ (t : Task (Job X G) (Sitting R P) (Examination Y Z R P V H)). examinations_of (t ∷ [])) is) ∙ append-nil (examinations_of tasks))

  pub devices_watch : (tasks : List (Task (Job X G) (Sitting R P) (Examination Y Z R P V H))) (task : Task (Job X G) (Sitting R P) (Examination Y Z R P V H)) (x : Examination Y Z R P V H) → task ≡ Watch x → devices_of (tasks ++ task ∷ []) ≡ devices_of tasks
  devices_watch tasks task x is = devices_push tasks task ∙ (ap (λ l. devices_of tasks ++ l) (ap (λ (t : Task (Job X G) (Sitting R P) (Examination Y Z R P V H)). devices_of (t ∷ [])) is) ∙ append-nil (devices_of tasks))

  pub sessions_watch : (tasks : List (Task (Job X G) (Sitting R P) (Examination Y Z R P V H))) (task : Task (Job X G) (Sitting R P) (Examination Y Z R P V H)) (x : Examination Y Z R P V H) → task ≡ Watch x → sessions_of (tasks ++ task ∷ []) ≡ sessions_of tasks
  sessions_watch tasks task x is = sessions_push tasks task ∙ (ap (λ l. sessions_of tasks ++ l) (ap (λ (t : Task (Job X G) (Sitting R P) (Examination Y Z R P V H)). sessions_of (t ∷ [])) is) ∙ append-nil (sessions_of tasks))

  pub seated_can : (content : DynBox X Global G → Option Content) (block size : DynBox X Global G → ℕ) (list : ListName) (claims : Claiming) (workers : ℕ) (case : Option Content) (plan : Planned) (tasks news : List (Task (Job X G) (Sitting R P) (Examination Y Z R P V H))) (n : ℕ) (s : Sitting R P)
      → news ≡ tasks ++ Look n s ∷ [] → (All (λ s. IsFresh plan claims list s) (sessions_of tasks) → All (CanRun list claims workers case plan content block size) tasks)
      → All (λ s. IsFresh plan claims list s) (sessions_of news) → All (CanRun list claims workers case plan content block size) news
  seated_can content block size list claims workers case plan tasks news n s more before fresh =
      let both = All-pop (λ (s : Sitting R P). IsFresh plan claims list s) (sessions_of news) (sessions_of tasks) (Some s) (seated tasks news n s (sessions_of tasks) more refl) fresh in
      subst (All (CanRun list claims workers case plan content block size)) (sym more) (All-push (CanRun list claims workers case plan content block size) tasks (Look n s) (before both.0) both.1)

-- a kit more, with the next number
pub kits_push : {K : Type 0} (claims_of : K → Claiming) (number_of : K → ℕ) (claims : Claiming) (n : ℕ) (kits : List K) (kit : K) → All (λ k. (claims_of k ≡ claims) × (number_of k < n)) kits
    → claims_of kit ≡ claims → number_of kit ≡ n → All (λ k. (claims_of k ≡ claims) × (number_of k < n + 1)) (kits ++ kit ∷ [])
kits_push claims_of number_of claims n kits kit all same number =
    All-push (λ k. (claims_of k ≡ claims) × (number_of k < n + 1)) kits kit (λ k d below. ((all k d below).0, omega (arith, (all k d below).1))) (same, omega (arith, number))
