-- The events of a run are a run of the core.
use Rattle.std.proofs.Common.{◌≡◌, ◌≢◌, ◌⊎◌, ℕ, zero, suc, ◌+◌, ◌<◌, ◌≤◌, Bool, true, false, List, [], ◌∷◌, ◌++◌, length, replicate, refl, sym, ap, ◌∙◌, subst, arith, append_assoc, length-append, None, Some, Option, slice_get, slice_set, inl, inr, ⊎_elim, nat_eq, All, Contains}
use Rattle.std.specs.Prelude.{MatchOption, IsSomeAnd}
use Rattle.std.specs.List.{AllByRecursion}
use Rattle.std.proofs.lemmas.Bool.Decides.{nat_tests}
use Rattle.std.proofs.lemmas.List.{map-append, append-nil, length-replicate}
use Rattle.std.proofs.lemmas.List.Elements.{All-cons, All-head, All-nil, All-tail, Contains-push, Contains-push_cases, Contains-append_left}
use Rattle.std.proofs.lemmas.Map.Keys.{IsDistinct-head, IsDistinct-tail}
use Rattle.aff_model.specs.declared.extent.Extent.{Extent}
use Rattle.aff_model.specs.Content.{Content}
use Rattle.aff_model.specs.Held.{Held}
use Rattle.aff_model.specs.History.{Published}
use Rattle.aff_model.specs.Legal.{IsClaimant, IsComplete, IsLegal, IsPublished}
use Rattle.aff_model.specs.Plan.{Planned}
use Rattle.aff_model.proofs.Once.{AreOnce, extents_of, once-from_readings}
use Rattle.aff_core.specs.declared.event.Event.{Event}
use Rattle.aff_core.specs.declared.event.Event.TheVariants.{Claim, Publish, Read, Finish}
use Rattle.aff_core.specs.Steps.{CoreState, IsRun, IsShaped, MayClaim, MayPublish}
use Rattle.aff_image.specs.Asked.{Asked}
use Rattle.aff_finish.specs.declared.hashes.Hashes.{Hashes}
use Rattle.aff_script.specs.Answered.{Answered}
use Rattle.aff_script.specs.declared.script.Request.{Request}
use Rattle.aff_script.specs.declared.script.Request.TheVariants as request
use Rattle.aff_script.specs.Script.{IsRequest, IsScript, IsSession}
use Rattle.aff_session.specs.Answers.{AreAnswers, AreSessions, IsAnswered}
use Rattle.aff_run.specs.Ends.{IsAcquired}
use Rattle.aff_run.specs.Core.{IsCoreRun, all_reads_at, events_from, reads_at}

-- what was answered lies on the device
abbrev pub IsInside : ℕ → Answered → Type 0
IsInside size a = a.at + a.len ≤ size

abbrev pub AreInside : ℕ → List (List Answered) → Type 0
AreInside size sessions = All (All (IsInside size)) sessions

abbrev nobody : Option ℕ
nobody = None

-- a state that goes on
abbrev going_on : Planned → ℕ → ℕ → List (Option ℕ) → List Published → CoreState
going_on plan passes sessions claims history = record { plan = plan; passes = passes; sessions = sessions; claims = claims; history = history; finished = false }

get_same : (xs : List (Option ℕ)) (i : ℕ) (v : Option ℕ) → i < length xs → slice_get (slice_set xs i v) i ≡ Some v
get_same [] i v h = absurd (omega arith)
get_same (x ∷ xs) zero v h = refl
get_same (x ∷ xs) (suc i) v h = get_same xs i v (omega arith)

get_other : (xs : List (Option ℕ)) (i j : ℕ) (v : Option ℕ) → i ≢ j → slice_get (slice_set xs i v) j ≡ slice_get xs j
get_other [] i j v ne = refl
get_other (x ∷ xs) zero zero v ne = absurd (ne refl)
get_other (x ∷ xs) zero (suc j) v ne = refl
get_other (x ∷ xs) (suc i) zero v ne = refl
get_other (x ∷ xs) (suc i) (suc j) v ne = get_other xs i j v (λ (e : i ≡ j). ne (ap suc e))

length_set : (xs : List (Option ℕ)) (i : ℕ) (v : Option ℕ) → length (slice_set xs i v) ≡ length xs
length_set [] i v = refl
length_set (x ∷ xs) zero v = refl
length_set (x ∷ xs) (suc i) v = ap suc (length_set xs i v)

get_none : (n e : ℕ) → e < n → slice_get (replicate n nobody) e ≡ Some None
get_none zero e h = absurd (omega arith)
get_none (suc n) zero h = refl
get_none (suc n) (suc e) h = get_none n e (omega arith)

-- a read is a step that changes nothing
read_step : (c : CoreState) (s : ℕ) (a : Answered) (answers : List Answered) (tail : List Event) (d : CoreState) (n : ℕ) (b : Bool) → nat_eq a.front n ≡ b
    → s < c.sessions → IsInside c.plan.size a → n ≡ length c.history → IsRun c (reads_at n s answers ++ tail) d → IsRun c (reads_at n s (a ∷ answers) ++ tail) d
read_step c s a answers tail d n true is seat inside here rest =
    let same : a.front ≡ length c.history = grind (arith, nat_tests) in
    rw is (c, (record { seated = seat; range = inside; present = same }, refl), rest)
read_step c s a answers tail d n false is seat inside here rest = rw is rest

reads_run : (c : CoreState) (s : ℕ) (answers : List Answered) (tail : List Event) (d : CoreState) (n : ℕ) → s < c.sessions → All (IsInside c.plan.size) answers
    → n ≡ length c.history → IsRun c tail d → IsRun c (reads_at n s answers ++ tail) d
reads_run c s [] tail d n seat inside here rest = rest
reads_run c s (a ∷ answers) tail d n seat inside here rest =
    read_step c s a answers tail d n (nat_eq a.front n) refl seat (All-head (IsInside c.plan.size) a answers inside) here
    (reads_run c s answers tail d n seat (All-tail (IsInside c.plan.size) a answers inside) here rest)

all_reads_run : (c : CoreState) (s : ℕ) (sessions : List (List Answered)) (tail : List Event) (d : CoreState) (n : ℕ) → s + length sessions ≤ c.sessions
    → AreInside c.plan.size sessions → n ≡ length c.history → IsRun c tail d → IsRun c (all_reads_at n s sessions ++ tail) d
all_reads_run c s [] tail d n seats inside here rest = rest
all_reads_run c s (answers ∷ sessions) tail d n seats inside here rest =
    subst (λ (l : List Event). IsRun c l d) (sym (append_assoc (reads_at n s answers) (all_reads_at n (s + 1) sessions) tail))
    (reads_run c s answers (all_reads_at n (s + 1) sessions ++ tail) d n (omega arith) (All-head (All (IsInside c.plan.size)) answers sessions inside) here
    (all_reads_run c (s + 1) sessions tail d n (omega arith) (All-tail (All (IsInside c.plan.size)) answers sessions inside) here rest))

shaped : (case : Option Content) (block : ℕ) (o : Option Extent) (p : Published) → MatchOption o ⊥ (λ e. IsPublished case block e p) → IsSomeAnd o (λ e. IsShaped e p)
shaped case block None p h = absurd h
shaped case block (Some e) p h = record { rising = h.fits.rising; inside = h.fits.inside; places = h.count }

inside_plan : (plan : List Extent) (k : ℕ) (e : Extent) → slice_get plan k ≡ Some e → k < length plan
inside_plan [] k e is = cc is
inside_plan (x ∷ plan) zero e is = omega arith
inside_plan (x ∷ plan) (suc k) e is = let h = inside_plan plan k e is in omega (arith, h)

planned : (case : Option Content) (block : ℕ) (plan : List Extent) (k : ℕ) (o : Option Extent) (p : Published) → slice_get plan k ≡ o
    → MatchOption o ⊥ (λ e. IsPublished case block e p) → k < length plan
planned case block plan k None p is h = absurd h
planned case block plan k (Some e) p is h = inside_plan plan k e is

passes_on : (workers : ℕ) (p : Published) → IsClaimant workers p → p.claimant < workers + 1
passes_on workers p (inl h) = omega arith
passes_on workers p (inr h) = let e = h.0 in omega (arith, e)

-- no publication of a list is of an extent that stands before it
abbrev AreNew : List Published → List Published → Type 0
AreNew before [] = Unit {0}
AreNew before (p ∷ history) = (¬ (Contains (extents_of before) p.extent)) × AreNew before history

new_at_first : (history : List Published) → AreNew [] history
new_at_first [] = tt
new_at_first (p ∷ history) = ((λ there. absurd (omega (arith, there.1))), new_at_first history)

pushed : (before : List Published) (p : Published) → extents_of (before ++ p ∷ []) ≡ extents_of before ++ p.extent ∷ []
pushed before p = map-append (λ q. q.extent) before (p ∷ [])

-- what is new is new behind one more, of another extent
new_behind : (before : List Published) (p : Published) (history : List Published) → AllByRecursion (λ y. nat_eq p.extent y ≡ false) (extents_of history)
    → AreNew before history → AreNew (before ++ p ∷ []) history
new_behind before p [] apart new = tt
new_behind before p (q ∷ history) apart new = (away, new_behind before p history apart.1 new.1)
  where
    away : ¬ (Contains (extents_of (before ++ p ∷ [])) q.extent)
    away there = ⊎_elim new.0 (λ same. absurd (grind (arith, nat_tests, same, apart.0)))
        (Contains-push_cases (extents_of before) p.extent q.extent (subst (λ (l : List ℕ). Contains l q.extent) (pushed before p) there))

-- nothing is claimed but what stands
abbrev AreFree : List Extent → List Published → List (Option ℕ) → Type 0
AreFree plan before claims = (e : ℕ) → e < length plan → ¬ (Contains (extents_of before) e) → slice_get claims e ≡ Some None

free_behind : (plan : List Extent) (before : List Published) (claims : List (Option ℕ)) (p : Published) → AreFree plan before claims
    → AreFree plan (before ++ p ∷ []) (slice_set claims p.extent (Some p.claimant))
free_behind plan before claims p free e low away =
    let at_end : Contains (extents_of (before ++ p ∷ [])) p.extent = subst (λ (l : List ℕ). Contains l p.extent) (sym (pushed before p)) (Contains-push (extents_of before) p.extent) in
    get_other claims p.extent e (Some p.claimant) (λ (same : p.extent ≡ e). away (subst (λ (x : ℕ). Contains (extents_of (before ++ p ∷ [])) x) same at_end))
    ∙ free e low (λ there. away (subst (λ (l : List ℕ). Contains l e) (sym (pushed before p)) (Contains-append_left (extents_of before) (p.extent ∷ []) e there)))

-- from a beginning of the history on
run_on : (case : Option Content) (plan : Planned) (workers : ℕ) (sessions : List (List Answered)) (claims : List (Option ℕ)) (before rest : List Published) (n : ℕ)
    → n ≡ length before → length claims ≡ length plan.extents → AreFree plan.extents before claims → AreInside plan.size sessions → AreNew before rest → AreOnce rest
    → All (IsClaimant workers) rest → All (λ p. MatchOption (slice_get plan.extents p.extent) ⊥ (λ e. IsPublished case plan.block e p)) rest
    → IsComplete plan.extents (before ++ rest)
    → (d : CoreState) × IsRun (going_on plan (workers + 1) (length sessions) claims before) (events_from n sessions rest) d
run_on case plan workers sessions claims before [] n len size free inside new once claimants published complete =
    let s = going_on plan (workers + 1) (length sessions) claims before in
    let d : CoreState = record s { finished = true } in
    let whole : IsComplete plan.extents before = subst (IsComplete plan.extents) (append-nil before) complete in
    (d, all_reads_run s 0 sessions (Finish ∷ []) d n (omega arith) inside len (d, (record { going = refl; complete = whole }, refl), refl))
run_on case plan workers sessions claims before (p ∷ rest) n len size free inside new once claimants published complete =
    let s = going_on plan (workers + 1) (length sessions) claims before in
    let taken = slice_set claims p.extent (Some p.claimant) in
    let claimed = going_on plan (workers + 1) (length sessions) taken before in
    let longer = before ++ p ∷ [] in
    let here = All-head (λ (p : Published). MatchOption (slice_get plan.extents p.extent) ⊥ (λ e. IsPublished case plan.block e p)) p rest published in
    let low : p.extent < length plan.extents = planned case plan.block plan.extents p.extent (slice_get plan.extents p.extent) p refl here in
    let more = run_on case plan workers sessions taken longer rest (n + 1) (omega (arith, len, length-append before (p ∷ [])))
    (length_set claims p.extent (Some p.claimant) ∙ size) (free_behind plan.extents before claims p free) inside
    (new_behind before p rest (IsDistinct-head nat_eq p.extent (extents_of rest) once) new.1) (IsDistinct-tail nat_eq p.extent (extents_of rest) once)
    (All-tail (IsClaimant workers) p rest claimants)
    (All-tail (λ (p : Published). MatchOption (slice_get plan.extents p.extent) ⊥ (λ e. IsPublished case plan.block e p)) p rest published)
    (subst (IsComplete plan.extents) (sym (append_assoc before (p ∷ []) rest)) complete) in
    let claim : MayClaim s p.claimant p.extent = record { going = refl; pass = passes_on workers p (All-head (IsClaimant workers) p rest claimants); planned = low; free = free p.extent low new.0 } in
    let publish : MayPublish claimed p = record { going = refl; claimed = get_same claims p.extent (Some p.claimant) (omega (arith, size, low)); unpublished = new.0; shaped = shaped case plan.block (slice_get plan.extents p.extent) p here } in (
      more.0,
      all_reads_run s 0 sessions (Claim p.claimant p.extent ∷ Publish p ∷ events_from (n + 1) sessions rest) more.0 n (omega arith) inside len
          (claimed, (claim, refl), (going_on plan (workers + 1) (length sessions) taken longer, (publish, refl), more.1)),
    )

-- a legal history that is complete, with any answers to reads on the device, is a run
pub core_run : (case : Option Content) (plan : Planned) (workers : ℕ) (history : List Published) (sessions : List (List Answered)) → IsLegal case plan workers history
    → IsComplete plan.extents history → AreInside plan.size sessions → IsCoreRun plan workers history sessions
core_run case plan workers history sessions legal complete inside =
    let r = run_on case plan workers sessions (replicate (length plan.extents) nobody) [] history 0 refl (length-replicate (length plan.extents) nobody)
    (λ e low away. get_none (length plan.extents) e low) inside (new_at_first history) (once-from_readings history legal.readings) legal.claimants legal.published complete in
    record { end = r.0; run = r.1 }

-- what a session is answered lies on the device, where its requests do
answers_inside : (case : Option Content) (tells : Bool) (plan : Planned) (history : List Published) (whole seen : ℕ) (requests : List Request) (answers : List Answered)
    → All (IsRequest plan.size) requests → AreAnswers (IsAnswered case tells plan history) whole seen requests answers → All (IsInside plan.size) answers
answers_inside case tells plan history whole seen [] [] fit are = All-nil (IsInside plan.size)
answers_inside case tells plan history whole seen [] (a ∷ answers) fit are = absurd are
answers_inside case tells plan history whole seen (request.Read at len ∷ requests) [] fit are = absurd are
answers_inside case tells plan history whole seen (request.Read at len ∷ requests) (a ∷ answers) fit are =
    let within = (All-head (IsRequest plan.size) (request.Read at len) requests fit).1 in
    let at_is = are.0.at_is in
    let len_is = are.0.len_is in
    All-cons (IsInside plan.size) a answers (omega (arith, within, at_is, len_is))
    (answers_inside case tells plan history whole a.front requests answers (All-tail (IsRequest plan.size) (request.Read at len) requests fit) are.2)
answers_inside case tells plan history whole seen (request.Raise at len ∷ requests) answers fit are =
    answers_inside case tells plan history whole seen requests answers (All-tail (IsRequest plan.size) (request.Raise at len) requests fit) are
answers_inside case tells plan history whole seen (request.Await count ∷ requests) answers fit are =
    answers_inside case tells plan history whole seen requests answers (All-tail (IsRequest plan.size) (request.Await count) requests fit) are
answers_inside case tells plan history whole seen (request.After ∷ requests) answers fit are =
    answers_inside case tells plan history whole whole requests answers (All-tail (IsRequest plan.size) request.After requests fit) are

sessions_inside : (case : Option Content) (tells : Bool) (plan : Planned) (history : List Published) (script : List (List Request)) (sessions : List (List Answered))
    → All (IsSession plan.size) script → AreSessions case tells plan history script sessions → AreInside plan.size sessions
sessions_inside case tells plan history [] [] fit are = All-nil (All (IsInside plan.size))
sessions_inside case tells plan history [] (answers ∷ sessions) fit are = absurd are
sessions_inside case tells plan history (requests ∷ script) [] fit are = absurd are
sessions_inside case tells plan history (requests ∷ script) (answers ∷ sessions) fit are =
    All-cons (All (IsInside plan.size)) answers sessions
    (answers_inside case tells plan history (length history) 0 requests answers (All-head (IsSession plan.size) requests script fit).each are.0)
    (sessions_inside case tells plan history script sessions (All-tail (IsSession plan.size) requests script fit) are.1)

pub acquired_run : (case : Option Content) (tells : Bool) (ask : Asked) (script : List (List Request)) (held : Held) (history : List Published) (sessions : List (List Answered)) (hashes : Hashes)
    → IsScript ask.plan.size script → IsAcquired case tells ask script held history sessions hashes → IsCoreRun ask.plan ask.workers history sessions
acquired_run case tells ask script held history sessions hashes fit a =
    let m = a.image in
    let legal = subst (λ (h : List Published). IsLegal (Some m.content) m.plan ask.workers h) a.history_is a.finished.image.legal in
    let complete = subst (λ (h : List Published). IsComplete m.plan.extents h) a.history_is a.finished.complete in
    core_run (Some m.content) ask.plan ask.workers history sessions
    (subst (λ (p : Planned). IsLegal (Some m.content) p ask.workers history) a.finished.plan legal)
    (subst (λ (p : Planned). IsComplete p.extents history) a.finished.plan complete)
    (sessions_inside case tells ask.plan history script sessions fit.each a.answers)
