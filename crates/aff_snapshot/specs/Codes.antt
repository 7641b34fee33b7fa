-- Codes of pieces as ghost values, which no type parameter is left in: pieces with one code are one piece.
use mathlib.Core.Path.{refl}
use mathlib.Core.Logic.{inl, inr}
use base.Stored.{Gv, gnil, Coded, coded×, coded⊎, coded_unit, coded_ℕ, coded_bool, coded_list, coded_via}
use Rattle.std.specs.Coded.{code_by}
use Rattle.std.specs.Prelude.{ℕ, ◌≡◌, ◌⊎◌, Bool, List}
use Rattle.aff_model.specs.declared.publication.Place.{Place}
use Rattle.aff_model.specs.declared.publication.Place.TheVariants.{Zero, Chunk, Nothing}
use Rattle.aff_model.specs.History.{Part}

-- a place is one of two words, or a chunk's number
abbrev pub case_of : Place → Unit {0} ⊎ (Unit {0} ⊎ ℕ)
case_of Zero = inl tt
case_of Nothing = inr (inl tt)
case_of (Chunk number) = inr (inr number)

abbrev pub place_of : Unit {0} ⊎ (Unit {0} ⊎ ℕ) → Place
place_of (inl _) = Zero
place_of (inr (inl _)) = Nothing
place_of (inr (inr number)) = Chunk number

abbrev pub place_back : (place : Place) → place_of (case_of place) ≡ place
place_back Zero = refl
place_back Nothing = refl
place_back (Chunk number) = refl

abbrev pub place_code : Coded Place
place_code = code_by (Unit {0} ⊎ (Unit {0} ⊎ ℕ)) (coded⊎ coded_unit (coded⊎ coded_unit coded_ℕ)) case_of place_of place_back

-- a piece is its fields
abbrev pub Fields : Type 0 → Type 0
Fields R = ℕ × (ℕ × (Bool × (List ℕ × (List Place × (List (List ℕ) × List R)))))

abbrev pub fields_code : {R : Type 0} → Coded R → Coded (Fields R)
fields_code c = coded× coded_ℕ (coded× coded_ℕ (coded× coded_bool (coded× (coded_list coded_ℕ) (coded× (coded_list place_code) (coded× (coded_list (coded_list coded_ℕ)) (coded_list c))))))

abbrev pub fields_of : {R : Type 0} → Part R → Fields R
fields_of p = (p.extent, (p.claimant, (p.swept, (p.bad, (p.places, (p.digests, p.receipts))))))

abbrev pub piece_of : {R : Type 0} → Fields R → Part R
piece_of f = record { extent = f.0; claimant = f.1.0; swept = f.1.1.0; bad = f.1.1.1.0; places = f.1.1.1.1.0; digests = f.1.1.1.1.1.0; receipts = f.1.1.1.1.1.1 }

-- the code of a piece, by a code of its receipts
abbrev pub piece_code : {R : Type 0} → Coded R → Coded (Part R)
piece_code {R} c = code_by (Fields R) (fields_code c) fields_of piece_of (λ _. refl)

-- a piece's name: its extent, and its code
pub record Name : Type 0 where
  pub extent : ℕ
  pub code : Gv

abbrev pub name_of : {R : Type 0} → Coded R → Part R → Name
name_of c p = record { extent = p.extent; code = (piece_code c).code p }

abbrev pub no_code : Gv
no_code = gnil

abbrev pub itself : Coded Gv
itself = record { code = λ g. g; inj = λ x y p. p }

-- the code of a name
abbrev pub name_code : Coded Name
name_code = coded_via (coded× coded_ℕ itself) (λ (n : Name). (n.extent, n.code)) (λ x y e i. record { extent = (e i).0; code = (e i).1 })
