-- What a pass remembers beside its seat, after a step.
use Rattle.std.proofs.Common.{◌≡◌, ◌≢◌, ◌↔◌, ℕ, ◌+◌, ◌*◌, ◌<◌, Bool, true, false, List, [], ◌∷◌, ◌++◌, length, get_or, set, refl, sym, ap, ◌∙◌, subst, ⊎_elim, arith, Contains, slice_index, slice_index_or, length-set, get_or-set_other, get_or-set_same, ◌||◌, not, ◌==◌, eq-eqb, ne_eqb}
use Rattle.std.proofs.lemmas.List.{set-get_or}
use Rattle.std.proofs.Math.Bool.{or-true, or-false}
use mathlib.Core.Logic.{dite}
use native.Mathlib.Decide.{ℕ_discrete}
use Rattle.std.proofs.lemmas.List.Elements.{Contains-push, Contains-push_cases, Contains-append_left}
use Rattle.aff_claim.specs.declared.view.PassView.{PassView}
use Rattle.aff_claim.specs.declared.view.View.{View}
use Rattle.aff_claim.specs.declared.word.Word.{Word}
use Rattle.aff_claim.specs.declared.word.Word.TheVariants.{Free, Claimed, Published}
use Rattle.aff_claim.specs.Demands.{Has}
use Rattle.aff_claim.specs.Ranking.{Ranked}
use Rattle.aff_claim.specs.Steps.{knowing, tried}
use Rattle.aff_claim.specs.Values.{Remembers}
use Rattle.aff_claim.specs.Words.{word_of}
use Rattle.aff_claim.proofs.WordLaws.{word_is}

pub knowing_free : (known : List ℕ) (e n : ℕ) → n ≡ 0 → knowing known e (word_of n) ≡ known
knowing_free known e n is = ap (λ m. knowing known e (word_of m)) is

pub knowing_taken : (known : List ℕ) (e n : ℕ) → n ≢ 0 → knowing known e (word_of n) ≡ known ++ e ∷ []
knowing_taken known e n ne = by_cases (word_of n) refl
  where
    by_cases : (w : Word) → word_of n ≡ w → knowing known e (word_of n) ≡ known ++ e ∷ []
    by_cases Free is = absurd (ne (word_is n Free is))
    by_cases (Claimed k) is = ap (knowing known e) is
    by_cases (Published k) is = ap (knowing known e) is

pub tried_number : (p : PassView) (e : ℕ) (w : Word) → (tried p e w).number ≡ p.number
tried_number p e Free = refl
tried_number p e (Claimed k) = refl
tried_number p e (Published k) = refl

pub tried_known : (p : PassView) (e : ℕ) (w : Word) → (tried p e w).known ≡ p.known ++ e ∷ []
tried_known p e Free = refl
tried_known p e (Claimed k) = refl
tried_known p e (Published k) = refl

module _ (ranking : Ranked) (seen : List Bool) (served : List ℕ) (front number : ℕ) (v w : View) (seat : w.is_book ≡ v.is_book) (same : w.pass.number ≡ v.pass.number) (ok : Remembers ranking seen served front number v) where
  -- a step by which the pass knows what it knew
  pub remembers_same : w.pass.known ≡ v.pass.known → Remembers ranking seen served front number w
  remembers_same known = record {
    seat = seat ∙ ok.seat;
    numbered = same ∙ ok.numbered;
    count = ok.count;
    marks = subst (λ l. (e : ℕ) → e < length seen → (slice_index_or seen e false ≡ true) ↔ Contains l e) (sym known) ok.marks;
    words = ok.words;
    taken = subst (λ l. (d i : ℕ) → d < length served → Has (slice_index served d) i → Contains l (64 * d + i)) (sym known) ok.taken;
    within = ok.within;
    behind = subst (λ l. (i : ℕ) → i < front → Contains l (slice_index ranking.falling i)) (sym known) ok.behind;
  }

  -- a step by which the pass knows one extent more, which it marks
  pub remembers_more : (e : ℕ) → e < length seen → w.pass.known ≡ v.pass.known ++ e ∷ [] → Remembers ranking (set seen e true) served front number w
  remembers_more e inside known = record {
    seat = seat ∙ ok.seat;
    numbered = same ∙ ok.numbered;
    count = length-set seen e true ∙ ok.count;
    marks = λ f l. let within : f < length seen = omega (arith, length-set seen e true) in subst (λ known. (slice_index_or (set seen e true) f false ≡ true) ↔ Contains known f) (sym known) (marked f within);
    words = ok.words;
    taken = λ d i l h. subst (λ known. Contains known (64 * d + i)) (sym known) (Contains-append_left v.pass.known (e ∷ []) (64 * d + i) (ok.taken d i l h));
    within = ok.within;
    behind = λ i l. subst (λ known. Contains known (slice_index ranking.falling i)) (sym known) (Contains-append_left v.pass.known (e ∷ []) (slice_index ranking.falling i) (ok.behind i l));
  }
    where
      marked : (f : ℕ) → f < length seen → (slice_index_or (set seen e true) f false ≡ true) ↔ Contains (v.pass.known ++ e ∷ []) f
      marked f l = dite (ℕ_discrete f e)
          (λ (is : f ≡ e). (
            (λ _. subst (λ g. Contains (v.pass.known ++ e ∷ []) g) (sym is) (Contains-push v.pass.known e)),
            (λ _. subst (λ g. slice_index_or (set seen e true) g false ≡ true) (sym is) (get_or-set_same seen e true false inside)),
          ))
          (λ (ne : f ≢ e). let other = get_or-set_other seen e f true false ne in (
            (λ h. Contains-append_left v.pass.known (e ∷ []) f ((ok.marks f l).0 (sym other ∙ h))),
            (λ c. other ∙ (ok.marks f l).1 (⊎_elim (λ h. h) (λ (is : e ≡ f). absurd (ne (sym is))) (Contains-push_cases v.pass.known e f c))),
          ))

  -- a load of the claim word of e, which found n: e is marked where it was, and where it is taken
  pub remembers_looked : (e n : ℕ) (b : Bool) → e < length seen → b ≡ get_or seen e b → w.pass.known ≡ knowing v.pass.known e (word_of n) → Remembers ranking (set seen e (b || not (n == 0))) served front number w
  remembers_looked e n b inside is known = dite (ℕ_discrete n 0)
      (λ (z : n ≡ 0).
      let mark : (b || not (n == 0)) ≡ b = ap (λ t. b || not t) (eq-eqb n 0 z) ∙ or-false b in
      let same_marks : set seen e (b || not (n == 0)) ≡ seen = ap (λ m. set seen e m) (mark ∙ is) ∙ set-get_or seen e b in
      subst (λ marks. Remembers ranking marks served front number w) (sym same_marks) (remembers_same (known ∙ knowing_free v.pass.known e n z)))
      (λ (ne : n ≢ 0).
      let mark : (b || not (n == 0)) ≡ true = ap (λ t. b || not t) (ne_eqb n 0 ne) ∙ or-true b in
      subst (λ m. Remembers ranking (set seen e m) served front number w) (sym mark) (remembers_more e inside (known ∙ knowing_taken v.pass.known e n ne)))
