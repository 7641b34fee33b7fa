-- A line of a plan's text: `extent AT LEN PRIORITY`.
use Rattle.std.specs.Prelude.{◌≡◌, ◌≢◌, ℕ, ◌<◌, ◌^◌, ◌==◌, ◌⊎◌, List, [], ◌∷◌, codes}
use Rattle.std.specs.List.{slice_split}
use Rattle.std.specs.Fmt.{decimal}
use Rattle.aff_model.specs.declared.extent.Extent.{Extent}

-- the words of a line: its parts between single spaces
abbrev pub words_of : List ℕ → List (List ℕ)
words_of line = slice_split (λ b. b == 32) line

-- the line is `extent` and three fields, with one space between two of them and no other space
pub record HasFields (line at len priority : List ℕ) : Type 0 where
  pub words : words_of line ≡ codes "extent" ∷ at ∷ len ∷ priority ∷ []
  pub at_there : at ≢ []
  pub len_there : len ≢ []
  pub priority_there : priority ≢ []

-- the line has three such fields, whatever they are
abbrev pub HasShape : List ℕ → Type 0
HasShape line = (at : List ℕ) × (len : List ℕ) × (priority : List ℕ) × HasFields line at len priority

-- the field is a number of 64 bits, in decimal and without leading zeros
abbrev pub IsNumber : List ℕ → ℕ → Type 0
IsNumber field n = (n < 2 ^ 64) × (field ≡ decimal n)

-- the field is no number
abbrev pub IsNoNumber : List ℕ → Type 0
IsNoNumber field = (n : ℕ) → ¬ (IsNumber field n)

-- the line has the shape, but a field of it is no number
pub record LacksNumber (line : List ℕ) : Type 0 where
  pub at : List ℕ
  pub len : List ℕ
  pub priority : List ℕ
  pub fields : HasFields line at len priority
  pub lacks : IsNoNumber at ⊎ (IsNoNumber len ⊎ IsNoNumber priority)

-- the words of the line are `extent` and three numbers of 64 bits, those of an extent
pub record IsExtentLine (line : List ℕ) (extent : Extent) : Type 0 where
  pub words : words_of line ≡ codes "extent" ∷ decimal extent.at ∷ decimal extent.len ∷ decimal extent.priority ∷ []
  pub at : extent.at < 2 ^ 64
  pub len : extent.len < 2 ^ 64
  pub priority : extent.priority < 2 ^ 64
