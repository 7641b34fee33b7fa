-- Pieces and the readings of which they were made.
use Rattle.std.proofs.Common.{◌≡◌, ℕ, List, [], ◌∷◌, ◌++◌, map, refl, sym, ap, ◌∙◌}
use Rattle.std.specs.Prelude.{Bool}
use Rattle.aff_model.specs.History.{Part, publication_of}
use Rattle.aff_model.proofs.Once.{extents_of}
use Rattle.aff_image.specs.Witnesses.{Witnessed, history_of}
use Rattle.aff_book.specs.Rule.{IsMadeOf, AreMadeOf}

module _ (tells : Bool) {R : Type 0} (told : R → List ℕ) where
  -- the readings' publications are the pieces'
  pub made_history : (readings : List Witnessed) (pieces : List (Part R)) → AreMadeOf tells told readings pieces → history_of readings ≡ map publication_of pieces
  made_history [] [] made = refl
  made_history [] (p ∷ pieces) made = absurd made
  made_history (r ∷ readings) [] made = absurd made
  made_history (r ∷ readings) (p ∷ pieces) made = λ i. sym made.0.is i ∷ made_history readings pieces made.1 i

  extents_made : (pieces : List (Part R)) → extents_of (map publication_of pieces) ≡ map (λ p. p.extent) pieces
  extents_made [] = refl
  extents_made (p ∷ pieces) = ap (λ l. p.extent ∷ l) (extents_made pieces)

  -- and their extents
  pub made_extents : (readings : List Witnessed) (pieces : List (Part R)) → AreMadeOf tells told readings pieces → extents_of (history_of readings) ≡ map (λ p. p.extent) pieces
  made_extents readings pieces made = ap extents_of (made_history readings pieces made) ∙ extents_made pieces

  -- one more of each
  pub made_push : (readings : List Witnessed) (pieces : List (Part R)) (r : Witnessed) (p : Part R) → AreMadeOf tells told readings pieces → IsMadeOf tells told r p
      → AreMadeOf tells told (readings ++ r ∷ []) (pieces ++ p ∷ [])
  made_push [] [] r p made one = (one, tt)
  made_push [] (q ∷ pieces) r p made one = absurd made
  made_push (s ∷ readings) [] r p made one = absurd made
  made_push (s ∷ readings) (q ∷ pieces) r p made one = (made.0, made_push readings pieces r p made.1 one)
