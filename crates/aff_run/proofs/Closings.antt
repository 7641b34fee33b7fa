-- How a run is closed, of what its book, its sessions and its examiners leave.
use Rattle.std.proofs.Common.{◌≡◌, ℕ, List, map, refl, sym, ap, subst, ◌∙◌, inl}
use Rattle.std.specs.Prelude.{Bool, Err, IfOk, IfSome, Ok, Option, Result}
use Rattle.aff_model.specs.Content.{Content}
use Rattle.aff_model.specs.Held.{Held}
use Rattle.aff_model.specs.History.{Part}
use Rattle.aff_model.specs.Plan.{Planned}
use Rattle.aff_image.specs.Asked.{Asked}
use Rattle.aff_image.specs.Sound.{AreSound}
use Rattle.aff_outside.specs.declared.folder.FolderError.{FolderError}
use Rattle.aff_outside.specs.declared.folder.FolderError.TheVariants as folder
use Rattle.aff_script.specs.Answered.{Answered}
use Rattle.aff_script.specs.declared.script.Request.{Request}
use Rattle.aff_book.specs.Pages.{Pages, Run}
use Rattle.aff_book.specs.Rule.{BookRule}
use Rattle.aff_examine.specs.declared.error.FollowError.{FollowError}
use Rattle.aff_examine.specs.declared.error.FollowError.TheVariants.{Failed, Damaged, Memory}
use Rattle.aff_run.specs.declared.ending.Acquired.{Acquired}
use Rattle.aff_run.specs.declared.ending.RunEnd.{RunEnd}
use Rattle.aff_run.specs.declared.ending.RunEnd.TheVariants as run
use Rattle.aff_run.specs.Ends.{AreAnsweredAll, IfDone, IsCutOff, IsDamage, Leaves}
use Rattle.aff_run.specs.Examinations.{IsFollowCaused}
use Rattle.aff_run.proofs.Ends.{sound_book}

-- the pieces of a book are sound, as receipts tell, for the plan that is its own
pub sound_here : (r : Run) (tells shown : Bool) → shown ≡ tells → {R : Type 0} (told : R → List ℕ) (b : Pages R) → BookRule r tells told b → (plan : Planned) → plan ≡ r.plan → (pieces : List (Part R)) → pieces ≡ b.pieces → AreSound r.case plan shown told pieces
sound_here r tells shown same {R} told b rule plan is pieces are =
    subst (λ (p : Planned). AreSound r.case p shown told pieces) (sym is)
    (subst (λ (t : Bool). AreSound r.case r.plan t told pieces) (sym same) (subst (λ (ps : List (Part R)). AreSound r.case r.plan tells told ps) (sym are) (sound_book r tells told b rule)))

-- answers for the plan of their sessions, as the folder tells
pub answers_for : {A E R : Type 0} (said : A → List (List Answered)) (shown tells : Bool) → shown ≡ tells → (told : R → List ℕ) (given pieces : List (Part R)) → given ≡ pieces → (asks : List (List Request)) (Of : Planned → Type 0) (plan : Planned) → Of plan → (r : Result A E)
    → IfOk r (λ a. (p : Planned) → Of p → AreAnsweredAll p shown told given asks (said a)) → IfOk r (λ a. AreAnsweredAll plan tells told pieces asks (said a))
answers_for said shown tells same told given pieces is asks Of plan of (Err e) all = tt
answers_for {A} {E} {R} said shown tells same told given pieces is asks Of plan of (Ok a) all =
    subst (λ (ps : List (Part R)). AreAnsweredAll plan tells told ps asks (said a)) is (subst (λ (t : Bool). AreAnsweredAll plan t told given asks (said a)) same (all plan of))

-- the cause of an examiner's fault, as the folder tells
pub follow_for : (shown tells : Bool) → shown ≡ tells → (peek : Type 0) (fault : Option FollowError) → IfSome fault (IsFollowCaused shown peek) → IfSome fault (IsFollowCaused tells peek)
follow_for shown tells same peek fault caused = subst (λ (t : Bool). IfSome fault (IsFollowCaused t peek)) same caused

-- what a run leaves whose volume is not finished
pub unfinished_leaves : {R : Type 0} (case : Option Content) (tells : Bool) (told : R → List ℕ) (ask : Asked) (script : List (List Request)) (held : Held) (failed peek : Type 0) (error : FolderError) (end : RunEnd R)
    → (error ≡ folder.Failed → end ≡ run.Failed) → (error ≡ folder.Memory → end ≡ run.Memory) → (error ≡ folder.Failed → failed) → IsCutOff case tells ask held → Leaves case tells told ask script held failed peek end
unfinished_leaves {R} case tells told ask script held failed peek folder.Failed end first second cause cut =
    subst (λ (e : RunEnd R). Leaves case tells told ask script held failed peek e) (sym (first refl)) (inl (cause refl, cut))
unfinished_leaves {R} case tells told ask script held failed peek folder.Memory end first second cause cut =
    subst (λ (e : RunEnd R). Leaves case tells told ask script held failed peek e) (sym (second refl)) (inl cut)

-- it did not come to its end
pub unfinished_done : {R : Type 0} (Holds : Acquired R → Type 0) (error : FolderError) (end : RunEnd R) → (error ≡ folder.Failed → end ≡ run.Failed) → (error ≡ folder.Memory → end ≡ run.Memory) → IfDone end Holds
unfinished_done {R} Holds folder.Failed end first second = subst (λ (e : RunEnd R). IfDone e Holds) (sym (first refl)) tt
unfinished_done {R} Holds folder.Memory end first second = subst (λ (e : RunEnd R). IfDone e Holds) (sym (second refl)) tt
