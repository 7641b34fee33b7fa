-- Passes later on.
use Rattle.std.proofs.Common.{◌≡◌, ℕ, ◌<◌, List, [], ◌∷◌, ◌++◌, length, refl, sym, ap, subst, ◌∙◌, append_assoc, append-nil, Contains}
use Rattle.std.proofs.lemmas.List.Elements.{Contains-append_left}
use Rattle.aff_claim.specs.declared.view.PassView.{PassView}
use Rattle.aff_claim.specs.declared.word.Word.{Word}
use Rattle.aff_claim.specs.declared.word.Word.TheVariants.{Free, Claimed, Published}
use Rattle.aff_claim.specs.Next.{IsLater, HasClaimed, HasServed, IsDue}
use Rattle.aff_claim.specs.Steps.{tried}

pub later_same : (p : PassView) → IsLater p p
later_same p = record { number = refl; known = λ e c. c; raised = refl; found = ([], sym (append-nil p.found)) }

pub later_after : (p q r : PassView) → IsLater p q → IsLater q r → IsLater p r
later_after p q r a b = record {
  number = b.number ∙ a.number;
  known = λ e c. b.known e (a.known e c);
  raised = b.raised ∙ a.raised;
  found = (a.found.0 ++ b.found.0, b.found.1 ∙ (ap (λ l. l ++ b.found.0) a.found.1 ∙ append_assoc p.found a.found.0 b.found.0));
}

-- an exchange leaves a pass later
pub tried_later : (p : PassView) (e : ℕ) (w : Word) → IsLater p (tried p e w)
tried_later p e Free = record { number = refl; known = λ f c. Contains-append_left p.known (e ∷ []) f c; raised = refl; found = ((e, Free) ∷ [], refl) }
tried_later p e (Claimed k) = record { number = refl; known = λ f c. Contains-append_left p.known (e ∷ []) f c; raised = refl; found = ((e, Claimed k) ∷ [], refl) }
tried_later p e (Published k) = record { number = refl; known = λ f c. Contains-append_left p.known (e ∷ []) f c; raised = refl; found = ((e, Published k) ∷ [], refl) }

-- a claim by a pass that has claimed nothing since
pub claimed_since : (priorities : List ℕ) (e : ℕ) (old q r : PassView) → q.mine ≡ old.mine → HasClaimed priorities e q r → HasClaimed priorities e old r
claimed_since priorities e old q r same ok = record {
  planned = ok.planned;
  mine = ok.mine ∙ ap (λ l. l ++ e ∷ []) same;
  exchange = ok.exchange;
  due = ok.due;
}

-- a claim by an exchange that found the word free
pub claimed_now : (priorities : List ℕ) (e : ℕ) (old new : PassView) → e < length priorities → IsDue priorities e (record { looked = old.looked; known = old.known }) → new ≡ tried old e Free → HasClaimed priorities e old new
claimed_now priorities e old new inside due is = subst (HasClaimed priorities e old) (sym is) record {
  planned = inside;
  mine = refl;
  exchange = (old.found, refl);
  due = due;
}

-- demands that were served are so later, for as long as no more are looked at
pub served_later : (extents : ℕ) (old new : PassView) → new.looked ≡ old.looked → ((e : ℕ) → Contains old.known e → Contains new.known e) → HasServed extents old.looked old.known → HasServed extents new.looked new.known
served_later extents old new same known ok = subst (λ l. HasServed extents l new.known) (sym same) record {
  all = ok.all;
  served = λ e l asked. known e (ok.served e l asked);
}
