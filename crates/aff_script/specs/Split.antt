-- Where the script of a text begins.
use Rattle.std.specs.Prelude.{◌≡◌, ℕ, ◌+◌, ◌⊎◌, false, List, [], ◌∷◌, ◌++◌, length, drop, codes, All}
use Rattle.std.specs.List.{flat_map}
use Rattle.aff_plan.specs.Text.{is_session}
use Rattle.aff_spec.specs.Lines.{lines_of}

-- lines with the line feed that ends each of them
abbrev pub ended : List (List ℕ) → List ℕ
ended lines = flat_map (λ line. line ++ 10 ∷ []) lines

-- none of the lines is exactly `session`
abbrev pub AreNoSession : List (List ℕ) → Type 0
AreNoSession lines = All (λ line. is_session line ≡ false) lines

-- a line begins at this offset, has this number and is the first one that is exactly `session`
pub record BeginsAt (text : List ℕ) (offset number : ℕ) : Type 0 where
  pub front : List (List ℕ)
  pub others : List (List ℕ)
  pub lines : lines_of text ≡ front ++ codes "session" ∷ others
  pub none : AreNoSession front
  pub offset_is : offset ≡ length (ended front)
  pub number_is : number ≡ length front + 1
  pub script : lines_of (drop offset text) ≡ codes "session" ∷ others

-- how many lines the bytes behind the last line feed are: one, or none where there is no byte
abbrev pub last_count : List ℕ → ℕ
last_count [] = 0
last_count (b ∷ line) = 1

-- no line is exactly `session`; the offset is the text's end, and the number that of a line which would begin there
pub record BeginsNowhere (text : List ℕ) (offset number : ℕ) : Type 0 where
  pub front : List (List ℕ)
  pub last : List ℕ
  pub lines : lines_of text ≡ front ++ last ∷ []
  pub none : AreNoSession (lines_of text)
  pub offset_is : offset ≡ length text
  pub number_is : number ≡ length front + last_count last + 1

-- the offset and the number of the line with which the script begins, or those of the text's end
abbrev pub IsSplit : List ℕ → ℕ → ℕ → Type 0
IsSplit text offset number = BeginsAt text offset number ⊎ BeginsNowhere text offset number
