-- A range that was read part after part.
use Rattle.std.proofs.Common.{◌≡◌, ℕ, ◌+◌, ◌-◌, ◌<◌, ◌≤◌, Bool, List, [], ◌∷◌, ◌++◌, inl, inr, length, take, get_or, sym, ap, subst, ◌∙◌, arith, length-take}
use Rattle.std.proofs.lemmas.Bool.Decides.{leb_tells}
use Rattle.std.proofs.lemmas.List.{get_or-append_right, get_or-take, get_or_append_left}
use Rattle.std.proofs.lemmas.Slice.{take-put_mid_below}
use borrow.Rule.Slice.PartMut.{post_of, put_mid}
use Rattle.aff_model.specs.declared.cell.Run.{Run}
use Rattle.aff_model.specs.Cells.{cell_of}
use Rattle.aff_model.specs.History.{Part, publication_of}
use Rattle.aff_model.specs.Plan.{Planned}
use Rattle.aff_spec.specs.Symbols.{fill_of}
use Rattle.aff_analyst.specs.Answers.{IsReadBy}
use Rattle.aff_analyst.specs.Bytes.{IsShown}
use Rattle.aff_examine.specs.Reading.{IsGathered}

-- before a part that was put into a list it stays
before_put : {X : Type 0} (a k j : ℕ) (xs ys : List X) (d : X) → j < a → a ≤ length xs → get_or (put_mid a k xs ys) j d ≡ get_or xs j d
before_put a k j xs ys d low inside =
    sym (get_or-take a (put_mid a k xs ys) j d low) ∙ ap (λ l. get_or l j d) (take-put_mid_below a k xs ys a (omega arith) inside) ∙ get_or-take a xs j d low

-- in the part there is what was put
inside_put : {X : Type 0} (a k j : ℕ) (xs ys : List X) (d : X) → a ≤ length xs → j < length ys → get_or (put_mid a k xs ys) (a + j) d ≡ get_or ys j d
inside_put a k j xs ys d inside low =
    let front : length (take a xs) ≡ a = omega (arith, length-take a xs, inside) in
    let behind : a + j - a ≡ j = omega arith in
    get_or-append_right (take a xs) (ys ++ post_of a k xs) a (a + j) d front (omega arith) ∙ ap (λ n. get_or (ys ++ post_of a k xs) n d) behind ∙ get_or_append_left ys (post_of a k xs) d j low

-- what holds of each byte of both parts, holds of each
each_more : (Q : ℕ → ℕ → Type 0) (at done n count : ℕ) (out more : List ℕ) → done ≤ length out → count ≤ length more → ((k : ℕ) → k < done → Q (at + k) (get_or out k 0)) → ((k : ℕ) → k < count → Q (at + done + k) (get_or more k 0))
    → (k : ℕ) → k < done + count → Q (at + k) (get_or (put_mid done n out more) k 0)
each_more Q at done n count out more inside long old new k low = elim (leb_tells done k) [
  | inl x ↦ subst (λ i. Q (at + i) (get_or (put_mid done n out more) i 0)) (back x.1) (subst (Q (at + (done + (k - done)))) (sym (inside_put done n (k - done) out more 0 inside (omega (arith, x.1, low, long)))) (subst (λ i. Q i (get_or more (k - done) 0)) (omega arith) (new (k - done) (omega (arith, x.1, low)))))
  | inr y ↦ subst (Q (at + k)) (sym (before_put done n k out more 0 (omega (arith, y.1)) inside)) (old k (omega (arith, y.1)))
]
  where
    back : done ≤ k → done + (k - done) ≡ k
    back past = omega (arith, past)

pub gathered_none : (plan : Planned) (tells : Bool) {R : Type 0} (told : R → List ℕ) (p : Part R) (at : ℕ) (out : List ℕ) → IsGathered plan tells told p at 0 out
gathered_none plan tells told p at out = record { each = λ k low. absurd (omega (arith, low)); cells = λ t c sound k low. absurd (omega (arith, low)) }

pub gathered_more : (plan : Planned) (tells : Bool) {R : Type 0} (told : R → List ℕ) (p : Part R) (at done n count : ℕ) (out more : List ℕ) (runs : List Run) → done ≤ length out → count ≤ length more → IsGathered plan tells told p at done out
    → IsReadBy plan tells told (p ∷ []) (at + done) count more runs → IsGathered plan tells told p at (done + count) (put_mid done n out more)
gathered_more plan tells told p at done n count out more runs inside long old read = record {
  each = each_more (λ i byte. IsShown tells told plan.extents (p ∷ []) i byte) at done n count out more inside long old.each read.shown;
  cells = λ t c sound. each_more (λ i byte. byte ≡ fill_of i (cell_of c plan.extents (publication_of p ∷ []) i)) at done n count out more inside long (old.cells t c sound) (read.cells t c sound);
}
