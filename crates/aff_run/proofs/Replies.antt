-- How a run ends, of what its sessions leave.
use Rattle.std.proofs.Common.{◌≡◌, ℕ, zero, suc, ◌<◌, List, [], ◌∷◌, ◌++◌, append_assoc, length, map, take, refl, sym, ap, subst, ◌∙◌, arith, inl, inr}
use Rattle.std.specs.Prelude.{◌⊎◌, All, Bool, Contains, Err, IfErr, Ok, Option, Result, Some, None, IfSome, slice_index_or}
use Rattle.std.specs.Arc.{arc_value}
use Rattle.std.specs.List.{AllZip}
use Rattle.std.specs.declared.sync.Arc.{Arc}
use Rattle.std.proofs.lemmas.List.{map-append, take_at}
use Rattle.std.proofs.lemmas.List.Elements.{All-cons, All-head, All-nil, All-tail, Contains-append_right, Contains-append_left}
use Rattle.aff_model.specs.Content.{Content}
use Rattle.aff_model.specs.Held.{Held}
use Rattle.aff_model.specs.History.{Part, publication_of}
use Rattle.aff_model.specs.Pieces.{published}
use Rattle.aff_model.specs.Plan.{Planned}
use Rattle.aff_image.specs.Asked.{Asked}
use Rattle.aff_image.specs.Sound.{AreSound}
use Rattle.aff_finish.specs.declared.hashes.Hashes.{Hashes}
use Rattle.aff_script.specs.Answered.{Answered}
use Rattle.aff_script.specs.declared.script.Request.{Request}
use Rattle.aff_session.specs.declared.fault.SessionFault.{SessionFault}
use Rattle.aff_session.specs.declared.fault.SessionFault.TheVariants.{Failed, Damaged, Memory}
use Rattle.aff_session.specs.Answers.{AreAnswered, AreSessions}
use Rattle.aff_session.specs.Shown.{AreAnsweredBy}
use Rattle.aff_session.specs.Sittings.{Sitting}
use Rattle.aff_session.proofs.Histories.{answers_by_history}
use Rattle.aff_run.specs.Ends.{AreAnsweredAll, HasFailed, IsAcquired, IsDamage, IsLeftWhole, IsWhole}
use Rattle.aff_run.specs.Sessions.{HasClosed, IsCaused, first_fault, first_of}
use Rattle.aff_run.proofs.Ends.{published_all}

-- one more of each of two lists
pub pushed_map : {X Y S : Type 0} (f : X → Y) (h : S → Y) (xs news : List X) (x : X) (done : List S) (s : S) → news ≡ xs ++ x ∷ [] → map f xs ≡ map h done → f x ≡ h s → map f news ≡ map h (done ++ s ∷ [])
pushed_map f h xs news x done s is same one = ap (map f) is ∙ (map-append f xs (x ∷ []) ∙ (ap (λ l. l ++ f x ∷ []) same ∙ (ap (λ y. map h done ++ y ∷ []) one ∙ sym (map-append h done (s ∷ [])))))

pub pushed_behind : {Y S : Type 0} (h : S → Y) (before xs news : List Y) (y : Y) (done : List S) (s : S) → news ≡ xs ++ y ∷ [] → xs ≡ before ++ map h done → y ≡ h s → news ≡ before ++ map h (done ++ s ∷ [])
pushed_behind h before xs news y done s is same one =
    is ∙ (ap (λ l. l ++ y ∷ []) same ∙ (append_assoc before (map h done) (y ∷ []) ∙ ap (λ l. before ++ l) (ap (λ z. map h done ++ z ∷ []) one ∙ sym (map-append h done (s ∷ [])))))

first_again : (a b c : Option SessionFault) → first_of a (first_of b c) ≡ first_of (first_of a b) c
first_again None b c = refl
first_again (Some f) b c = refl

first_none : (a : Option SessionFault) → first_of a None ≡ a
first_none None = refl
first_none (Some f) = refl

none_first : (was later : Option SessionFault) → first_of was later ≡ None → (was ≡ None) × (later ≡ None)
none_first None later is = (refl, is)
none_first (Some f) later is = absurd (cc is)

some_first : (was later : Option SessionFault) (f : SessionFault) → first_of was later ≡ Some f → (was ≡ Some f) ⊎ (later ≡ Some f)
some_first None later f is = inr is
some_first (Some g) later f is = inl is

module _ {R P : Type 0} where
  -- the first fault, with a session more
  pub first_push : (sessions : List (Sitting R P)) (s : Sitting R P) → first_fault (sessions ++ s ∷ []) ≡ first_of (first_fault sessions) s.fault
  first_push [] s = first_none s.fault
  first_push (x ∷ sessions) s = ap (first_of x.fault) (first_push sessions s) ∙ first_again x.fault (first_fault sessions) s.fault

  -- where there is none, no session has one
  pub no_fault : (sessions : List (Sitting R P)) → first_fault sessions ≡ None → All (λ s. s.fault ≡ None) sessions
  no_fault [] is = All-nil _
  no_fault (s ∷ sessions) is =
      let both = none_first s.fault (first_fault sessions) is in
      All-cons (λ (s : Sitting R P). s.fault ≡ None) s sessions both.0 (no_fault sessions both.1)

  -- else one of them has it
  the_caused : (tells : Bool) (faults : P → ℕ) (sessions : List (Sitting R P)) (f : SessionFault) → first_fault sessions ≡ Some f
      → All (λ s. IfSome s.fault (IsCaused tells (0 < faults s.peek))) sessions → (s : Sitting R P) × Contains sessions s × IsCaused tells (0 < faults s.peek) f
  the_caused tells faults [] f is all = absurd (cc is)
  the_caused tells faults (s ∷ sessions) f is all =
      elim (some_first s.fault (first_fault sessions) f is) [
        | inl here ↦ (
          s,
          (zero, omega arith, refl),
          subst (λ (o : Option SessionFault). IfSome o (IsCaused tells (0 < faults s.peek))) here (All-head (λ (s : Sitting R P). IfSome s.fault (IsCaused tells (0 < faults s.peek))) s sessions all),
        )
        | inr there ↦ let rest = the_caused tells faults sessions f there (All-tail (λ (s : Sitting R P). IfSome s.fault (IsCaused tells (0 < faults s.peek))) s sessions all) in
            (rest.0, Contains-append_right (s ∷ []) sessions rest.0 rest.1, rest.2)
      ]

  -- a peek of a session is among the peeks
  has_peek : (sessions : List (Sitting R P)) (s : Sitting R P) → Contains sessions s → Contains (map (λ s. s.peek) sessions) s.peek
  has_peek sessions s there = has sessions there.0 there.1 there.2
    where
      has : (sessions : List (Sitting R P)) (k : ℕ) → k < length sessions → slice_index_or sessions k s ≡ s → Contains (map (λ s. s.peek) sessions) s.peek
      has [] k below is = absurd (omega (arith, below))
      has (x ∷ sessions) zero below is = (zero, omega arith, ap (λ (s : Sitting R P). s.peek) is)
      has (x ∷ sessions) (suc k) below is = Contains-append_right (x.peek ∷ []) (map (λ s. s.peek) sessions) s.peek (has sessions k (omega (arith, below)) is)

  -- a peek that failed
  pub failed : (tells : Bool) (faults : P → ℕ) (sessions : List (Sitting R P)) (peeks before : List P) → first_fault sessions ≡ Some Failed → All (λ s. IfSome s.fault (IsCaused tells (0 < faults s.peek))) sessions
      → peeks ≡ before ++ map (λ s. s.peek) sessions → HasFailed faults peeks
  failed tells faults sessions peeks before is all are =
      let s = the_caused tells faults sessions Failed is all in
      record {
        peek = s.0.peek;
        there = subst (λ (l : List P). Contains l s.0.peek) (sym are) (Contains-append_right before (map (λ s. s.peek) sessions) s.0.peek (has_peek sessions s.0 s.1));
        failed = s.2;
      }

  -- a chunk that is damaged
  pub damaged : (tells : Bool) (faults : P → ℕ) (sessions : List (Sitting R P)) (chunk : ℕ) (recorded found : List ℕ) → first_fault sessions ≡ Some (Damaged chunk recorded found)
      → All (λ s. IfSome s.fault (IsCaused tells (0 < faults s.peek))) sessions → IsDamage tells recorded found
  damaged tells faults sessions chunk recorded found is all = (the_caused tells faults sessions (Damaged chunk recorded found) is all).2

  module _ (tells : Bool) (told : R → List ℕ) (faults : P → ℕ) (pieces : List (Part R)) where
    abbrev pub AreClosed : List (Sitting R P) → List (Sitting R P) → Type 0
    AreClosed olds news = (k : ℕ) (d : Sitting R P) → k < length olds → HasClosed tells told faults pieces (slice_index_or olds k d) (slice_index_or news k d)

    -- the faults have their causes
    pub all_caused : (olds news : List (Sitting R P)) → length news ≡ length olds → AreClosed olds news → All (λ s. IfSome s.fault (IsCaused tells (0 < faults s.peek))) news
    all_caused olds news len each k d below = (each k d (omega (arith, len, below))).caused

    -- without one all is answered
    pub all_answered : (plan : Planned) (olds news : List (Sitting R P)) → length news ≡ length olds → AreClosed olds news → All (λ s. s.plan ≡ plan) olds → All (λ s. s.fault ≡ None) news
        → AreAnsweredAll plan tells told pieces (map (λ s. s.requests) olds) (map (λ s. s.answers) news)
    all_answered plan [] [] len each planned well = tt
    all_answered plan [] (y ∷ news) len each planned well = absurd (omega (arith, len))
    all_answered plan (x ∷ olds) [] len each planned well = absurd (omega (arith, len))
    all_answered plan (x ∷ olds) (y ∷ news) len each planned well = (
      subst (λ (p : Planned). AreAnsweredBy p tells told pieces x.requests y.answers) (planned zero x (omega arith)) ((each zero x (omega arith)).answers (well zero y (omega arith))),
      all_answered plan olds news (omega (arith, len)) (λ k d below. each (suc k) d (omega (arith, below))) (λ k d below. planned (suc k) d (omega (arith, below))) (λ k d below. well (suc k) d (omega (arith, below))),
    )

-- by the history, too
pub by_history : (case : Option Content) (tells : Bool) {R : Type 0} (told : R → List ℕ) (plan : Planned) (pieces : List (Part R)) → AreSound case plan tells told pieces → (script : List (List Request)) (sessions : List (List Answered)) → AreAnsweredAll plan tells told pieces script sessions
    → AreSessions case tells plan (map publication_of pieces) script sessions
by_history case tells told plan pieces sound [] [] all = tt
by_history case tells told plan pieces sound [] (a ∷ sessions) all = absurd all
by_history case tells told plan pieces sound (r ∷ script) [] all = absurd all
by_history case tells told plan pieces sound (r ∷ script) (a ∷ sessions) all = (answers_by_history case plan tells told pieces r a sound all.0, by_history case tells told plan pieces sound script sessions all.1)

-- all was acquired
pub acquired : {R Z : Type 0} (case : Option Content) (tells : Bool) (told : R → List ℕ) (ask : Asked) (held : Held) (pieces : List (Arc (Part R) Z)) (hashes : Hashes) (script : List (List Request)) (sessions : List (List Answered))
    → IsWhole case tells ask held (map published pieces) hashes → AreSound case ask.plan tells told (map arc_value pieces) → AreAnsweredAll ask.plan tells told (map arc_value pieces) script sessions
    → IsAcquired case tells ask script held (map published pieces) sessions hashes × AreAnsweredAll ask.plan tells told (map arc_value pieces) script sessions
acquired case tells told ask held pieces hashes script sessions whole sound all = (
  record {
    image = whole.image;
    history_is = whole.history_is;
    finished = whole.finished;
    answers = subst (λ h. AreSessions case tells ask.plan h script sessions) (sym (published_all pieces)) (by_history case tells told ask.plan (map arc_value pieces) sound script sessions all);
  },
  all,
)

-- or the volume alone is whole
pub left_whole : {R Z : Type 0} (case : Option Content) (tells : Bool) (ask : Asked) (held : Held) (pieces : List (Arc (Part R) Z)) (hashes : Hashes) → IsWhole case tells ask held (map published pieces) hashes → IsLeftWhole case tells ask held
left_whole case tells ask held pieces hashes whole = record { image = whole.image; hashes = hashes; finished = whole.finished }

-- what a list of taken elements is
pub taken : {S : Type 0} (news rest : List S) (n : ℕ) → length news ≡ n → (Q : List S → Type 0) → Q (take n (news ++ rest)) → Q news
taken news rest n len Q is = subst Q (take_at news rest n len) is

module _ {R P : Type 0} (tells : Bool) (told : R → List ℕ) (faults : P → ℕ) (pieces : List (Part R)) (olds slice news : List (Sitting R P)) (is : slice ≡ olds) (len : length news ≡ length slice) (each : AreClosed tells told faults pieces slice news) where
  -- without a fault all is answered
  pub answered : first_fault news ≡ None → (plan : Planned) → All (λ (s : Sitting R P). s.plan ≡ plan) olds → (answers : List (List Answered)) → answers ≡ map (λ s. s.answers) news
      → AreAnsweredAll plan tells told pieces (map (λ s. s.requests) olds) answers
  answered none plan planned answers are =
      let closed = subst (λ (l : List (Sitting R P)). AreClosed tells told faults pieces l news) is each in
      subst (λ (l : List (List Answered)). AreAnsweredAll plan tells told pieces (map (λ (s : Sitting R P). s.requests) olds) l) (sym are)
      (all_answered tells told faults pieces plan olds news (len ∙ ap length is) closed planned (no_fault news none))

  -- and a fault has its cause
  pub faulty : (fault : SessionFault) → first_fault news ≡ Some fault → (peeks before : List P) → peeks ≡ before ++ map (λ s. s.peek) news → IsCaused tells (HasFailed faults peeks) fault
  faulty Failed first peeks before are = failed tells faults news peeks before first (all_caused tells told faults pieces slice news len each) are
  faulty Memory first peeks before are = tt
  faulty (Damaged chunk recorded found) first peeks before are = damaged tells faults news chunk recorded found first (all_caused tells told faults pieces slice news len each)

-- a peek that failed is among more of them
pub more_peeks : {P : Type 0} (faults : P → ℕ) (peeks more all : List P) → all ≡ peeks ++ more → HasFailed faults peeks → HasFailed faults all
more_peeks faults peeks more all are is = record { peek = is.peek; there = subst (λ (l : List _). Contains l is.peek) (sym are) (Contains-append_left peeks more is.peek is.there); failed = is.failed }

-- and so a fault has its cause there
pub cause_more : {P : Type 0} (tells shown : Bool) (same : shown ≡ tells) (faults : P → ℕ) (peeks more all : List P) → all ≡ peeks ++ more → (fault : SessionFault) → IsCaused shown (HasFailed faults peeks) fault → IsCaused tells (HasFailed faults all) fault
cause_more tells shown same faults peeks more all are Failed is = more_peeks faults peeks more all are is
cause_more tells shown same faults peeks more all are Memory is = tt
cause_more tells shown same faults peeks more all are (Damaged chunk recorded found) is = subst (λ (b : Bool). IsDamage b recorded found) same is

pub cause_if : {A P : Type 0} (tells shown : Bool) (same : shown ≡ tells) (faults : P → ℕ) (peeks more all : List P) → all ≡ peeks ++ more → (r : Result A SessionFault) → IfErr r (IsCaused shown (HasFailed faults peeks)) → IfErr r (IsCaused tells (HasFailed faults all))
cause_if tells shown same faults peeks more all are (Ok a) is = tt
cause_if tells shown same faults peeks more all are (Err fault) is = cause_more tells shown same faults peeks more all are fault is
