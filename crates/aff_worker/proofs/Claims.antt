-- The claims of a pass, and what it found of them.
use Rattle.std.proofs.Common.{◌≡◌, ◌≢◌, ℕ, List, [], ◌∷◌, ◌++◌, sym, ap, subst, ◌∙◌, inl, inr, ⊎_elim}
use Rattle.std.specs.Prelude.{◌⊎◌, Contains}
use Rattle.std.proofs.lemmas.List.Elements.{Contains-append_left, Contains-push, Contains-push_cases}
use Rattle.aff_claim.specs.declared.view.PassView.{PassView}
use Rattle.aff_claim.specs.declared.word.Word.{Word}
use Rattle.aff_claim.specs.declared.word.Word.TheVariants.{Free, Claimed, Published}
use Rattle.aff_claim.specs.Next.{HasClaimed, IsLater}
use Rattle.aff_claim.specs.Words.{Names}
use Rattle.aff_claim.specs.Steps.{looked}
use Rattle.aff_worker.specs.Working.{HasFound}

-- what was found stays found
pub found_later : (old new : List (ℕ × Word)) (x : ℕ × Word) → (more : List (ℕ × Word)) × (new ≡ old ++ more) → Contains old x → Contains new x
found_later old new x longer has = subst (λ l. Contains l x) (sym longer.1) (Contains-append_left old longer.0 x has)

-- every claim of a pass was there before, or is found
abbrev pub AreFound : PassView → PassView → Type 0
AreFound old new = (e : ℕ) → Contains new.mine e → HasFound old new e

-- none is added
pub found_same : (old mid new : PassView) → AreFound old mid → new.mine ≡ mid.mine → ((x : ℕ × Word) → Contains mid.found x → Contains new.found x) → AreFound old new
found_same old mid new are same more e has =
    ⊎_elim (λ before. inl before) (λ found. inr (more (e, Published old.number) found)) (are e (subst (λ l. Contains l e) same has))

-- one is added, and is found
pub found_push : (old mid new : PassView) (extent : ℕ) → AreFound old mid → new.mine ≡ mid.mine ++ extent ∷ [] → ((x : ℕ × Word) → Contains mid.found x → Contains new.found x)
    → Contains new.found (extent, Published old.number) → AreFound old new
found_push old mid new extent are same more found e has =
    ⊎_elim (λ earlier. ⊎_elim (λ before. inl before) (λ there. inr (more (e, Published old.number) there)) (are e earlier))
    (λ (is : extent ≡ e). inr (subst (λ x. Contains new.found (x, Published old.number)) is found))
    (Contains-push_cases mid.mine extent e (subst (λ l. Contains l e) same has))

-- a look at an extent that finds its publication under the pass's number
pub look_finds : (p : PassView) (e k number : ℕ) (w : Word) → w ≡ Published k → Names w number → Contains (looked p e w).found (e, Published number)
look_finds p e k number w is names =
    let same : Published k ≡ Published number = ap Published (subst (λ v. Names v number) is names) in
    subst (λ v. Contains (looked p e w).found (e, v)) (is ∙ same) (Contains-push p.found (e, w))

-- what a pass knew it knows after a look
pub known_more : (p : PassView) (e x : ℕ) (w : Word) → Contains p.known x → Contains (looked p e w).known x
known_more p e x Free has = has
known_more p e x (Claimed k) has = Contains-append_left p.known (e ∷ []) x has
known_more p e x (Published k) has = Contains-append_left p.known (e ∷ []) x has
