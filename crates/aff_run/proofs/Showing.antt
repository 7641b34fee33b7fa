-- Examiners of a run, from what was handed in to what comes back.
use Rattle.std.proofs.Common.{◌≡◌, ℕ, zero, suc, ◌+◌, ◌<◌, ◌≤◌, List, [], ◌∷◌, ◌++◌, length, map, take, get_or, refl, sym, ap, subst, ◌∙◌, arith, inl, inr}
use Rattle.std.specs.Prelude.{◌⊎◌, All, Bool, Contains, Option, Some, None, IfSome}
use Rattle.std.specs.Arc.{arc_value}
use Rattle.std.specs.List.{AllZip}
use Rattle.std.specs.declared.alloc.Global.{Global}
use Rattle.std.specs.declared.dyn_box.DynBox.{DynBox}
use Rattle.std.specs.declared.sync.Arc.{Arc}
use Rattle.std.specs.declared.vec.Vec.{Vec}
use Rattle.std.proofs.lemmas.List.{get_or-map, length-map, map-append, take_more}
use Rattle.std.proofs.lemmas.List.Elements.{All-cons, All-head, All-nil, All-tail, Contains-append_right}
use Rattle.aff_model.specs.Content.{Content}
use Rattle.aff_model.specs.History.{Part, Published, publication_of}
use Rattle.aff_model.specs.Pieces.{published}
use Rattle.aff_model.specs.Plan.{Planned}
use Rattle.aff_image.specs.Sound.{AreSound}
use Rattle.aff_examine.specs.declared.error.FollowError.{FollowError}
use Rattle.aff_examine.specs.declared.error.FollowError.TheVariants.{Failed, Damaged, Memory}
use Rattle.aff_examine.specs.declared.examination.Examination.{Examination}
use Rattle.aff_examine.specs.Folds.{HasSameRule, Rule}
use Rattle.aff_examine.specs.Following.{Following, seen_by, shown_by}
use Rattle.aff_examine.specs.Histories.{HasExamined}
use Rattle.aff_examine.specs.Sights.{IsFold}
use Rattle.aff_examine.proofs.Histories.{has_examined}
use Rattle.aff_snapshot.specs.Lists.{HasEvery, ListName}
use Rattle.aff_run.specs.declared.ending.RunEnd.{RunEnd}
use Rattle.aff_run.specs.declared.ending.RunEnd.TheVariants as run
use Rattle.aff_run.specs.Ends.{HasFailed, IfDone}
use Rattle.aff_run.specs.Examinations.{CanBeShown, CanGoOn, HasBeenShown, HasBeenTold, HasWatched, HaveGoneOn, IsFollowCaused, first_fault, first_of}
use Rattle.aff_run.specs.Examiners.{AreExamined, AreTheirOwn}
use Rattle.aff_run.proofs.Ends.{published_all}
use Rattle.aff_run.proofs.Replies.{pushed_behind, pushed_map}
use Rattle.aff_run.proofs.Watches.{goes_on, inside_told, may_be_shown}

-- two lists that are related element by element
zip_count : {A B : Type 0} (Rel : A → B → Type 0) (xs : List A) (ys : List B) → AllZip Rel xs ys → length ys ≡ length xs
zip_count Rel [] [] all = refl
zip_count Rel [] (y ∷ ys) all = absurd all
zip_count Rel (x ∷ xs) [] all = absurd all
zip_count Rel (x ∷ xs) (y ∷ ys) all = let rest = zip_count Rel xs ys all.1 in omega (arith, rest)

zip_at : {A B : Type 0} (Rel : A → B → Type 0) (xs : List A) (ys : List B) → AllZip Rel xs ys → (k : ℕ) (a : A) (b : B) → k < length xs → Rel (get_or xs k a) (get_or ys k b)
zip_at Rel [] [] all k a b below = absurd (omega (arith, below))
zip_at Rel [] (y ∷ ys) all k a b below = absurd all
zip_at Rel (x ∷ xs) [] all k a b below = absurd all
zip_at Rel (x ∷ xs) (y ∷ ys) all zero a b below = all.0
zip_at Rel (x ∷ xs) (y ∷ ys) all (suc k) a b below = zip_at Rel xs ys all.1 k a b (omega (arith, below))

-- the examiners as they were handed in are their own
own_same : {E : Type 0} (rule : E → Rule) (text : E → List ℕ → List ℕ) (e : E) → HasSameRule rule text e e
own_same rule text e = record { ruled = refl; printed = refl }

pub all_own : {E : Type 0} (rule : E → Rule) (text : E → List ℕ → List ℕ) (xs : List E) → AreTheirOwn rule text xs xs
all_own rule text xs = record { count = refl; each = λ k e below. own_same rule text (get_or xs k e) }

own_both : {E : Type 0} (rule : E → Rule) (text : E → List ℕ → List ℕ) (x y z : E) → HasSameRule rule text x y → HasSameRule rule text y z → HasSameRule rule text x z
own_both rule text x y z first second = record { ruled = second.ruled ∙ first.ruled; printed = second.printed ∙ first.printed }

-- a text more of what was found
pub found_push : {E V : Type 0} (items : V → List ℕ) (said : E → List ℕ) (examiners : List E) (n : ℕ) (e : E) (olds news : List V) (v : V) → n < length examiners → e ≡ get_or examiners n e → news ≡ olds ++ v ∷ []
    → map items olds ≡ map said (take n examiners) → items v ≡ said e → map items news ≡ map said (take (n + 1) examiners)
found_push items said examiners n e olds news v below is more same one =
    pushed_map items said olds news v (take n examiners) (get_or examiners n e) more same (one ∙ ap said is) ∙ ap (map said) (sym (take_more examiners n e below))

-- the first of faults
first_again : (a b c : Option FollowError) → first_of a (first_of b c) ≡ first_of (first_of a b) c
first_again None b c = refl
first_again (Some f) b c = refl

first_none : (a : Option FollowError) → first_of a None ≡ a
first_none None = refl
first_none (Some f) = refl

none_first : (was later : Option FollowError) → first_of was later ≡ None → (was ≡ None) × (later ≡ None)
none_first None later is = (refl, is)
none_first (Some f) later is = absurd (cc is)

some_first : (was later : Option FollowError) (f : FollowError) → first_of was later ≡ Some f → (was ≡ Some f) ⊎ (later ≡ Some f)
some_first None later f is = inr is
some_first (Some g) later f is = inl is

-- a fault of one of them has its cause among the peeks
cause_of : (tells : Bool) {P : Type 0} (faults : P → ℕ) (peeks : List P) (p : P) → Contains peeks p → (f : FollowError) → IsFollowCaused tells (0 < faults p) f → IsFollowCaused tells (HasFailed faults peeks) f
cause_of tells faults peeks p there Failed is = record { peek = p; there = there; failed = is }
cause_of tells faults peeks p there Memory is = tt
cause_of tells faults peeks p there (Damaged chunk recorded found) is = is

module _ {Y Z R P X : Type 0} {G : X → Type 0} where
  -- the examiners of examinations, and the peeks
  abbrev pub the_examiners : List (Examination Y Z R P X G) → List (DynBox X Global G)
  the_examiners xs = map (λ x. x.examiner) xs

  abbrev pub the_peeks : List (Examination Y Z R P X G) → List P
  the_peeks xs = map (λ x. x.follower.peek) xs

  -- with those of an examination more
  pub examiners_push : (before news : List (DynBox X Global G)) (done : List (Examination Y Z R P X G)) (x : Examination Y Z R P X G) → news ≡ before ++ x.examiner ∷ [] → before ≡ the_examiners done → news ≡ the_examiners (done ++ x ∷ [])
  examiners_push before news done x is same = is ∙ (ap (λ l. l ++ x.examiner ∷ []) same ∙ sym (map-append (λ (x : Examination Y Z R P X G). x.examiner) done (x ∷ [])))

  pub peeks_push : (was before news : List P) (done : List (Examination Y Z R P X G)) (x : Examination Y Z R P X G) (p : P) → news ≡ before ++ p ∷ [] → before ≡ was ++ the_peeks done → p ≡ x.follower.peek → news ≡ was ++ the_peeks (done ++ x ∷ [])
  peeks_push was before news done x p is same one = pushed_behind (λ (x : Examination Y Z R P X G). x.follower.peek) was before news p done x is same one

  -- the first fault, with an examination more
  pub first_push : (xs : List (Examination Y Z R P X G)) (x : Examination Y Z R P X G) → first_fault (xs ++ x ∷ []) ≡ first_of (first_fault xs) x.fault
  first_push [] x = first_none x.fault
  first_push (y ∷ xs) x = ap (first_of y.fault) (first_push xs x) ∙ first_again y.fault (first_fault xs) x.fault

  -- where there is none, no examination has one
  pub no_fault : (xs : List (Examination Y Z R P X G)) → first_fault xs ≡ None → All (λ x. x.fault ≡ None) xs
  no_fault [] is = All-nil _
  no_fault (x ∷ xs) is =
      let both = none_first x.fault (first_fault xs) is in
      All-cons (λ (x : Examination Y Z R P X G). x.fault ≡ None) x xs both.0 (no_fault xs both.1)

  -- else one of them has it
  the_caused : (tells : Bool) (faults : P → ℕ) (xs : List (Examination Y Z R P X G)) (f : FollowError) → first_fault xs ≡ Some f
      → All (λ x. IfSome x.fault (IsFollowCaused tells (0 < faults x.follower.peek))) xs → (x : Examination Y Z R P X G) × Contains xs x × IsFollowCaused tells (0 < faults x.follower.peek) f
  the_caused tells faults [] f is all = absurd (cc is)
  the_caused tells faults (x ∷ xs) f is all =
      elim (some_first x.fault (first_fault xs) f is) [
        | inl here ↦ (
          x,
          (zero, omega arith, refl),
          subst (λ (o : Option FollowError). IfSome o (IsFollowCaused tells (0 < faults x.follower.peek))) here (All-head (λ (x : Examination Y Z R P X G). IfSome x.fault (IsFollowCaused tells (0 < faults x.follower.peek))) x xs all),
        )
        | inr there ↦ let rest = the_caused tells faults xs f there (All-tail (λ (x : Examination Y Z R P X G). IfSome x.fault (IsFollowCaused tells (0 < faults x.follower.peek))) x xs all) in
            (rest.0, Contains-append_right (x ∷ []) xs rest.0 rest.1, rest.2)
      ]

  has_peek : (xs : List (Examination Y Z R P X G)) (x : Examination Y Z R P X G) → Contains xs x → Contains (map (λ x. x.follower.peek) xs) x.follower.peek
  has_peek xs x there = has xs there.0 there.1 there.2
    where
      has : (xs : List (Examination Y Z R P X G)) (k : ℕ) → k < length xs → get_or xs k x ≡ x → Contains (map (λ x. x.follower.peek) xs) x.follower.peek
      has [] k below is = absurd (omega (arith, below))
      has (y ∷ xs) zero below is = (zero, omega arith, ap (λ (x : Examination Y Z R P X G). x.follower.peek) is)
      has (y ∷ xs) (suc k) below is = Contains-append_right (y.follower.peek ∷ []) (map (λ x. x.follower.peek) xs) x.follower.peek (has xs k (omega (arith, below)) is)

  pub caused_at : (tells : Bool) (faults : P → ℕ) (xs : List (Examination Y Z R P X G)) (peeks before : List P) → All (λ x. IfSome x.fault (IsFollowCaused tells (0 < faults x.follower.peek))) xs
      → peeks ≡ before ++ map (λ x. x.follower.peek) xs → (o : Option FollowError) → first_fault xs ≡ o → IfSome o (IsFollowCaused tells (HasFailed faults peeks))
  caused_at tells faults xs peeks before all are None is = tt
  caused_at tells faults xs peeks before all are (Some f) is =
      let x = the_caused tells faults xs f is all in
      cause_of tells faults peeks x.0.follower.peek (subst (λ (l : List P). Contains l x.0.follower.peek) (sym are) (Contains-append_right before (map (λ x. x.follower.peek) xs) x.0.follower.peek (has_peek xs x.0 x.1))) f x.2

  module _ (tells : Bool) (told : R → List ℕ) (faults : P → ℕ) (rule : DynBox X Global G → Rule) (text : DynBox X Global G → List ℕ → List ℕ) (state : DynBox X Global G → List ℕ) (plan : Planned) (list : ListName) where
    -- examiners as they were handed in, and as they have watched
    abbrev pub HaveWatched : List (DynBox X Global G) → List (Examination Y Z R P X G) → Type 0
    HaveWatched froms xs = AllZip (λ from x. HasWatched plan list tells told faults rule text state from x) froms xs

    pub watched_count : (froms : List (DynBox X Global G)) (xs : List (Examination Y Z R P X G)) → HaveWatched froms xs → length xs ≡ length froms
    watched_count froms xs all = zip_count _ froms xs all

    pub all_go_on : (froms : List (DynBox X Global G)) (xs : List (Examination Y Z R P X G)) → HaveWatched froms xs → All (CanGoOn plan list tells faults) xs
    all_go_on [] [] all = All-nil _
    all_go_on [] (y ∷ xs) all = absurd all
    all_go_on (e ∷ froms) [] all = absurd all
    all_go_on (e ∷ froms) (y ∷ xs) all = All-cons (CanGoOn plan list tells faults) y xs (goes_on tells told faults rule text state plan list e y all.0) (all_go_on froms xs all.1)

    -- they come back with their rules
    pub back_own : (froms news : List (DynBox X Global G)) (xs : List (Examination Y Z R P X G)) → HaveWatched froms xs → AreTheirOwn rule text (map (λ x. x.examiner) xs) news → AreTheirOwn rule text froms news
    back_own froms news xs all own =
        let count = zip_count _ froms xs all in
        let len = length-map xs (λ (x : Examination Y Z R P X G). x.examiner) in
        record {
          count = own.count ∙ (len ∙ count);
          each = λ k e below.
              let there : k < length xs = omega (arith, below, count) in
              back_own_at froms xs news all own k e below there;
        }
      where
        back_own_at : (froms : List (DynBox X Global G)) (xs : List (Examination Y Z R P X G)) (news : List (DynBox X Global G)) → HaveWatched froms xs → AreTheirOwn rule text (map (λ x. x.examiner) xs) news → (k : ℕ) (e : DynBox X Global G) → k < length froms → k < length xs
            → HasSameRule rule text (get_or froms k e) (get_or news k e)
        back_own_at froms [] news all own k e below there = absurd (omega (arith, there))
        back_own_at froms (d ∷ xs) news all own k e below there =
            let one = zip_at _ froms (d ∷ xs) all k e d below in
            let is : get_or (map (λ (x : Examination Y Z R P X G). x.examiner) (d ∷ xs)) k e ≡ (get_or (d ∷ xs) k d).examiner = get_or-map (λ (x : Examination Y Z R P X G). x.examiner) (d ∷ xs) k d e there in
            let inside : k < length (map (λ (x : Examination Y Z R P X G). x.examiner) (d ∷ xs)) = omega (arith, there, length-map (d ∷ xs) (λ (x : Examination Y Z R P X G). x.examiner)) in
            own_both rule text _ _ _ one.kept (subst (λ (x : DynBox X Global G). HasSameRule rule text x (get_or news k e)) is (own.each k e inside))

    -- and they went through the history
    pub back_examined : (case : Option Content) (shown : Bool) (same : tells ≡ shown) (history : List Published) (froms news : List (DynBox X Global G)) (xs : List (Examination Y Z R P X G)) (findings : List (List ℕ)) → HaveWatched froms xs
        → length news ≡ length froms → HaveGoneOn case tells told plan history rule text state xs news findings → AreExamined case shown plan history rule text state froms news findings
    back_examined case shown same history froms news xs findings all back gone =
        let count = zip_count _ froms xs all in
        record {
          count = back;
          each = λ k e below.
              let there : k < length xs = omega (arith, below, count) in
              subst (λ (t : Bool). HasExamined case t plan history (rule (get_or froms k e)) (state (get_or froms k e)) (state (get_or news k e))) same (back_at froms xs all gone k e below there);
          findings_are = gone.findings_are;
        }
      where
        back_at : (froms : List (DynBox X Global G)) (xs : List (Examination Y Z R P X G)) → HaveWatched froms xs → HaveGoneOn case tells told plan history rule text state xs news findings → (k : ℕ) (e : DynBox X Global G) → k < length froms → k < length xs
            → HasExamined case tells plan history (rule (get_or froms k e)) (state (get_or froms k e)) (state (get_or news k e))
        back_at froms [] all gone k e below there = absurd (omega (arith, there))
        back_at froms (d ∷ xs) all gone k e below there =
            let one = zip_at _ froms (d ∷ xs) all k e d below in
            let from = get_or froms k e in
            let x = get_or (d ∷ xs) k d in
            let on = gone.each k d e (state from) there (subst (λ (r : Rule). IsFold plan tells told r 0 (shown_by x.follower) (state from) (state x.examiner)) (sym one.kept.ruled) one.fold) in
            subst (λ (r : Rule). HasExamined case tells plan history r (state from) (state (get_or news k e))) one.kept.ruled on

    -- how a run ends whose examiners went through the history
    pub done_examined : (case : Option Content) (shown : Bool) → tells ≡ shown → (froms news : List (DynBox X Global G)) (xs : List (Examination Y Z R P X G)) → HaveWatched froms xs → length news ≡ length froms
        → (end : RunEnd R) → IfDone end (λ a. HaveGoneOn case tells told plan (map published a.pieces.items) rule text state xs news (map (λ (f : Vec ℕ Global). f.items) a.findings.items))
        → IfDone end (λ a. AreExamined case shown plan (map published a.pieces.items) rule text state froms news (map (λ (f : Vec ℕ Global). f.items) a.findings.items))
    done_examined case shown same froms news xs all back (run.Done a) gone =
        back_examined case shown same (map published a.pieces.items) froms news xs (map (λ (f : Vec ℕ Global). f.items) a.findings.items) all back gone
    done_examined case shown same froms news xs all back run.Failed gone = tt
    done_examined case shown same froms news xs all back (run.Damaged chunk recorded found) gone = tt
    done_examined case shown same froms news xs all back run.Memory gone = tt

    module _ (pieces : List (Part R)) (olds mids : List (Examination Y Z R P X G)) (count : length mids ≡ length olds) (each : (k : ℕ) (d : Examination Y Z R P X G) → k < length olds → HasBeenTold pieces (get_or olds k d) (get_or mids k d))
        (may : All (CanGoOn plan list tells faults) olds) where
      -- those that were told the list
      pub all_inside : All (λ (x : Examination Y Z R P X G). x.follower.shown ≤ length (seen_by x.follower)) mids
      all_inside k d below =
          let here : k < length olds = omega (arith, count, below) in
          inside_told tells told faults rule text state plan list pieces (get_or olds k d) (get_or mids k d) (may k d here) (each k d here)

      pub all_ready : (case : Option Content) → HasEvery plan pieces → AreSound case plan tells told pieces → All (CanBeShown case tells told faults pieces) mids
      all_ready case every sound k d below =
          let here : k < length olds = omega (arith, count, below) in
          may_be_shown tells told faults rule text state case plan list pieces (get_or olds k d) (get_or mids k d) (may k d here) (each k d here) every sound

      module _ (news : List (Examination Y Z R P X G)) (same : length news ≡ length mids) where
        -- and those that were shown what was left
        pub kept_all : ((k : ℕ) (d : Examination Y Z R P X G) → k < length mids → HasSameRule rule text (get_or mids k d).examiner (get_or news k d).examiner)
            → AreTheirOwn rule text (map (λ (x : Examination Y Z R P X G). x.examiner) olds) (map (λ (x : Examination Y Z R P X G). x.examiner) news)
        kept_all kept =
            let len_olds = length-map olds (λ (x : Examination Y Z R P X G). x.examiner) in
            let len_news = length-map news (λ (x : Examination Y Z R P X G). x.examiner) in
            record {
              count = omega (arith, len_olds, len_news, count, same);
              each = λ k e below. kept_at olds refl k e (omega (arith, below, len_olds));
            }
          where
            kept_at : (xs : List (Examination Y Z R P X G)) → xs ≡ olds → (k : ℕ) (e : DynBox X Global G) → k < length xs
                → HasSameRule rule text (get_or (map (λ (x : Examination Y Z R P X G). x.examiner) olds) k e) (get_or (map (λ (x : Examination Y Z R P X G). x.examiner) news) k e)
            kept_at [] is k e below = absurd (omega (arith, below))
            kept_at (d ∷ xs) is k e below =
                let there : k < length olds = omega (arith, below, ap length is) in
                let mid : k < length mids = omega (arith, there, count) in
                let new : k < length news = omega (arith, mid, same) in
                let old_is = get_or-map (λ (x : Examination Y Z R P X G). x.examiner) olds k d e there in
                let new_is = get_or-map (λ (x : Examination Y Z R P X G). x.examiner) news k d e new in
                let one = subst (λ (x : DynBox X Global G). HasSameRule rule text x (get_or news k d).examiner) (each k d there).same.1 (kept k d mid) in
                subst (λ (x : DynBox X Global G). HasSameRule rule text x (get_or (map (λ (x : Examination Y Z R P X G). x.examiner) news) k e)) (sym old_is)
                (subst (λ (x : DynBox X Global G). HasSameRule rule text (get_or olds k d).examiner x) (sym new_is) one)

        module _ (seen : List (Part R)) (are : seen ≡ pieces) (shown_so : (k : ℕ) (d : Examination Y Z R P X G) → k < length mids → HasBeenShown tells told faults rule text state seen (get_or mids k d) (get_or news k d)) where
          shown : (k : ℕ) (d : Examination Y Z R P X G) → k < length mids → HasBeenShown tells told faults rule text state pieces (get_or mids k d) (get_or news k d)
          shown k d below = subst (λ (ps : List (Part R)). HasBeenShown tells told faults rule text state ps (get_or mids k d) (get_or news k d)) are (shown_so k d below)

          pub all_caused : All (λ (x : Examination Y Z R P X G). IfSome x.fault (IsFollowCaused tells (0 < faults x.follower.peek))) news
          all_caused k d below = (shown k d (omega (arith, same, below))).caused

          pub gone_on : (case : Option Content) → AreSound case plan tells told pieces → first_fault news ≡ None → (findings : List (List ℕ)) → findings ≡ map (λ e. text e (state e)) (map (λ (x : Examination Y Z R P X G). x.examiner) news)
              → HaveGoneOn case tells told plan (map publication_of pieces) rule text state olds (map (λ (x : Examination Y Z R P X G). x.examiner) news) findings
          gone_on case sound none findings texts = record {
            each = λ k x e from below fold.
                let mid : k < length mids = omega (arith, below, count) in
                let new : k < length news = omega (arith, mid, same) in
                let old_x = get_or olds k x in
                let mid_x = get_or mids k x in
                let new_x = get_or news k x in
                let learned = (each k x below).same in
                let planned : mid_x.follower.plan ≡ plan = ap (λ (f : Following R P). f.plan) learned.0 ∙ (may k x below).plan_is in
                let before = subst (λ (f : Following R P). IsFold plan tells told (rule old_x.examiner) 0 (shown_by f) from (state old_x.examiner)) (sym learned.0) fold in
                let before_e = subst (λ (d : DynBox X Global G). IsFold plan tells told (rule d) 0 (shown_by mid_x.follower) from (state d)) (sym learned.1) before in
                let before_p = subst (λ (p : Planned). IsFold p tells told (rule mid_x.examiner) 0 (shown_by mid_x.follower) from (state mid_x.examiner)) (sym planned) before_e in
                let after = subst (λ (p : Planned). IsFold p tells told (rule mid_x.examiner) 0 pieces from (state new_x.examiner)) planned ((shown k x mid).fold (no_fault news none k x new) from before_p) in
                let history = has_examined case plan tells told pieces (rule mid_x.examiner) from (state new_x.examiner) sound after in
                let ruled = subst (λ (d : DynBox X Global G). HasExamined case tells plan (map publication_of pieces) (rule d) from (state new_x.examiner)) learned.1 history in
                subst (λ (d : DynBox X Global G). HasExamined case tells plan (map publication_of pieces) (rule old_x.examiner) from (state d)) (sym (get_or-map (λ (x : Examination Y Z R P X G). x.examiner) news k x e new)) ruled;
            findings_are = texts;
          }

          -- how a run ends whose examiners went on so
          pub done_gone_on : (case : Option Content) → AreSound case plan tells told pieces → (given : Vec (Arc (Part R) Global) Global) → map arc_value given.items ≡ pieces → (back : List (DynBox X Global G)) → back ≡ the_examiners news → (lent : List (DynBox X Global G)) → lent ≡ back
              → (fault : Option FollowError) → fault ≡ first_fault news → (end : RunEnd R) → IfDone end (λ a. (a.pieces ≡ given) × (fault ≡ None) × (map (λ (f : Vec ℕ Global). f.items) a.findings.items ≡ map (λ e. text e (state e)) lent))
              → IfDone end (λ a. HaveGoneOn case tells told plan (map published a.pieces.items) rule text state olds back (map (λ (f : Vec ℕ Global). f.items) a.findings.items))
          done_gone_on case sound given given_are back is lent lent_is fault first (run.Done a) done =
              let findings = map (λ (f : Vec ℕ Global). f.items) a.findings.items in
              let history : map published a.pieces.items ≡ map publication_of pieces = ap (λ (v : Vec (Arc (Part R) Global) Global). map published v.items) done.0 ∙ (published_all given.items ∙ ap (map publication_of) given_are) in
              let on = gone_on case sound (sym first ∙ done.1) findings (done.2 ∙ ap (λ (l : List (DynBox X Global G)). map (λ e. text e (state e)) l) (lent_is ∙ is)) in
              subst (λ (h : List Published). HaveGoneOn case tells told plan h rule text state olds back findings) (sym history)
              (subst (λ (l : List (DynBox X Global G)). HaveGoneOn case tells told plan (map publication_of pieces) rule text state olds l findings) (sym is) on)
          done_gone_on case sound given given_are back is lent lent_is fault first run.Failed done = tt
          done_gone_on case sound given given_are back is lent lent_is fault first (run.Damaged chunk recorded found) done = tt
          done_gone_on case sound given given_are back is lent lent_is fault first run.Memory done = tt
