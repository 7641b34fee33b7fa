-- What the seat's steps leave of the tie between its publications and the pieces.
use Rattle.std.proofs.Common.{◌≡◌, ◌≤◌, ℕ, List, [], ◌∷◌, ◌++◌, map, refl, sym, ap, subst, ◌∙◌, ⊎_elim}
use Rattle.std.specs.Prelude.{◌≢◌, ◌↔◌, Contains, true}
use Rattle.std.proofs.lemmas.List.{map-append}
use Rattle.std.proofs.lemmas.List.Elements.{Contains-append_left, Contains-push, Contains-push_cases}
use Rattle.aff_model.specs.History.{Part}
use Rattle.aff_claim.specs.declared.view.BookView.{BookView}
use Rattle.aff_claim.specs.declared.word.Word.{Word}
use Rattle.aff_claim.specs.declared.word.Word.TheVariants.{Free, Claimed, Published}
use Rattle.aff_claim.specs.Steps.{book_looked, holding, published_if, swept}
use Rattle.aff_claim.specs.Words.{IsPublished, Names}
use Rattle.aff_store.specs.declared.claim.Claim.{Claim}
use Rattle.aff_book.specs.Answers.{found_claim}
use Rattle.aff_book.specs.Rule.{AreTied}

-- what the seat held it holds after a look
held_more : (held : List (ℕ × ℕ)) (e : ℕ) (w : Word) (x : ℕ × ℕ) → Contains held x → Contains (holding held e w) x
held_more held e Free x has = has
held_more held e (Claimed k) x has = Contains-append_left held ((e, k) ∷ []) x has
held_more held e (Published k) x has = has

-- a seat that published the same and holds no less
tied_more : {R : Type 0} (old now : BookView) (pieces : List (Part R)) → now.out ≡ old.out → ((x : ℕ × ℕ) → Contains old.held x → Contains now.held x) → AreTied old pieces → AreTied now pieces
tied_more old now pieces same more tied = record { out = tied.out ∙ sym same; held = λ p has. more (p.extent, p.claimant) (tied.held p has) }

pub tied_looked : {R : Type 0} (seat : BookView) (pieces : List (Part R)) (e : ℕ) (w : Word) → AreTied seat pieces → AreTied (book_looked seat e w) pieces
tied_looked seat pieces e w tied = tied_more seat (book_looked seat e w) pieces refl (held_more seat.held e w) tied

pub tied_swept : {R : Type 0} (seat : BookView) (pieces : List (Part R)) (e workers : ℕ) (w : Word) → AreTied seat pieces → AreTied (swept seat e workers w) pieces
tied_swept seat pieces e workers Free tied = tied_more seat (swept seat e workers Free) pieces refl (Contains-append_left seat.held ((e, workers) ∷ [])) tied
tied_swept seat pieces e workers (Claimed k) tied = tied_looked seat pieces e (Claimed k) tied
tied_swept seat pieces e workers (Published k) tied = tied_looked seat pieces e (Published k) tied

-- a look that finds a claim holds it
pub held_claim : (seat : BookView) (e k : ℕ) → Contains (book_looked seat e (Claimed k)).held (e, k)
held_claim seat e k = Contains-push seat.held (e, k)

-- the piece of a claim that is held, and its publication
pub tied_push : {R : Type 0} (seat : BookView) (pieces : List (Part R)) (p : Part R) → AreTied seat pieces → Contains seat.held (p.extent, p.claimant)
    → AreTied (published_if true seat p.extent p.claimant) (pieces ++ p ∷ [])
tied_push seat pieces p tied held = record {
  out = map-append (λ q. q.extent) pieces (p ∷ []) ∙ ap (λ l. l ++ p.extent ∷ []) tied.out;
  held = λ q has. ⊎_elim (λ before. tied.held q before) (λ (same : p ≡ q). subst (λ r. Contains seat.held (r.extent, r.claimant)) same held) (Contains-push_cases pieces p q has);
}

-- a word that names a number and is not its claim is its publication
pub named_else : (w : Word) (k : ℕ) → Names w k → w ≢ Claimed k → IsPublished w
named_else Free k names other = absurd names
named_else (Claimed number) k names other = absurd (other (ap Claimed names))
named_else (Published number) k names other = tt

-- a look that found the claim: the seat holds it, and it is not published
pub record HasFound (workers : ℕ) (old now : BookView) (claim : Claim) : Type 0 where
  pub seat : now ≡ found_claim claim old
  pub free : ¬ (Contains old.out claim.extent)
  pub most : claim.claimant ≤ workers

pub has_found : (workers : ℕ) (old now : BookView) (claim : Claim) (w : Word) → now ≡ book_looked old claim.extent w → (Contains old.out claim.extent ↔ IsPublished w)
    → ((k : ℕ) → Names w k → k ≤ workers) → w ≡ Claimed claim.claimant → HasFound workers old now claim
has_found workers old now claim w view out number is = record {
  seat = view ∙ ap (book_looked old claim.extent) is;
  free = λ has. subst IsPublished is (out.0 has);
  most = number claim.claimant (subst (λ v. Names v claim.claimant) (sym is) refl);
}
