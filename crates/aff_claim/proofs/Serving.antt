-- How demand words are served, one after another.
use Rattle.std.proofs.Common.{◌≡◌, ◌≢◌, ℕ, ◌+◌, ◌*◌, ◌/◌, ◌%◌, ◌<◌, [], ◌∷◌, ◌++◌, refl, sym, ap, subst, ⊎_elim, arith, below_more, Contains, append-nil}
use mathlib.Core.Logic.{dite}
use native.Mathlib.Decide.{ℕ_discrete}
use Rattle.std.proofs.lemmas.List.Elements.{Contains-push, Contains-push_cases, Contains-append_left}
use Rattle.aff_claim.specs.declared.view.PassView.{PassView}
use Rattle.aff_claim.specs.Demands.{Has, IsAskedIn}
use Rattle.aff_claim.specs.Next.{IsLater, IsServed}
use Rattle.aff_claim.specs.Steps.{demands_looked}

pub demands_later : (p : PassView) (d bits : ℕ) → IsLater p (demands_looked p d bits)
demands_later p d bits = record { number = refl; known = λ e c. c; raised = refl; found = ([], sym (append-nil p.found)) }

-- a word is served where the extents of the bits that were found are known: what was found before is among them
pub served_word : (d bits : ℕ) (old now : PassView) → now.looked ≡ old.looked ++ (d, bits) ∷ [] → ((b i : ℕ) → Contains old.looked (d, b) → Has b i → Has bits i)
    → ((i : ℕ) → Has bits i → Contains now.known (64 * d + i)) → IsServed d old now
served_word d bits old now looked before known = record {
  bits = bits;
  found = subst (λ l. Contains l (d, bits)) (sym looked) (Contains-push old.looked (d, bits));
  known = λ e in_word asked.
      let place : 64 * d + e % 64 ≡ e = omega arith in
      let found : Contains (old.looked ++ (d, bits) ∷ []) (d, asked.bits) = subst (λ l. Contains l (d, asked.bits)) looked (subst (λ x. Contains now.looked (x, asked.bits)) in_word asked.found) in
      let has : Has bits (e % 64) = ⊎_elim (λ h. before asked.bits (e % 64) h asked.has)
      (λ (is : (d, bits) ≡ (d, asked.bits)). subst (λ (z : ℕ × ℕ). Has z.1 (e % 64)) (sym is) asked.has) (Contains-push_cases old.looked (d, bits) (d, asked.bits) found) in
      subst (λ x. Contains now.known x) place (known (e % 64) has);
  others = λ c b ne has. ⊎_elim (λ h. h) (λ (is : (d, bits) ≡ (c, b)). absurd (ne (sym (ap (λ (z : ℕ × ℕ). z.0) is)))) (Contains-push_cases old.looked (d, bits) (c, b) (subst (λ l. Contains l (c, b)) looked has));
  kept = λ c b has. subst (λ l. Contains l (c, b)) (sym looked) (Contains-append_left old.looked ((d, bits) ∷ []) (c, b) has);
}

-- the words before n were looked at, and of their extents those that were asked for are known
abbrev pub AreServed : ℕ → PassView → Type 0
AreServed n p = ((d : ℕ) → d < n → (bits : ℕ) × Contains p.looked (d, bits)) × ((e : ℕ) → e / 64 < n → IsAskedIn p.looked e → Contains p.known e)

pub served_more : (n : ℕ) (p q : PassView) → IsServed n p q → ((e : ℕ) → Contains p.known e → Contains q.known e) → AreServed n p → AreServed (n + 1) q
served_more n p q one known ok = (
  below_more (λ d. (bits : ℕ) × Contains q.looked (d, bits)) n (λ d l. let was = ok.0 d l in (was.0, one.kept d was.0 was.1)) (one.bits, one.found),
  λ e l asked. dite (ℕ_discrete (e / 64) n) (λ (is : e / 64 ≡ n). one.known e is asked)
      (λ (ne : e / 64 ≢ n). known e (ok.1 e (omega arith) record { bits = asked.bits; found = one.others (e / 64) asked.bits ne asked.found; has = asked.has })),
)
