-- What an examiner makes of what it is shown.
use Rattle.std.specs.Prelude.{◌≡◌, ℕ, List, [], ◌∷◌}
use Rattle.aff_model.specs.Shown.{Shown}

-- what an examiner is shown of a publication: the piece, and its extent's bytes
pub record Sight : Type 0 where
  pub piece : Shown
  pub bytes : List ℕ

-- an examiner's own rule: the state that a piece and its bytes make of a state
abbrev pub Rule : Type 0
Rule = List ℕ → Shown → List ℕ → List ℕ

-- the state that a rule makes of one, sight after sight
abbrev pub fold_of : Rule → List ℕ → List Sight → List ℕ
fold_of rule state [] = state
fold_of rule state (s ∷ sights) = fold_of rule (rule state s.piece s.bytes) sights

-- an examiner's rule and its text for a state stayed
pub record HasSameRule {E : Type 0} (rule : E → Rule) (text : E → List ℕ → List ℕ) (old new : E) : Type 0 where
  pub ruled : rule new ≡ rule old
  pub printed : text new ≡ text old
