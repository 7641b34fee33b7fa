-- The words of a line.
use Rattle.std.proofs.Common.{◌≡◌, ◌≢◌, ℕ, ◌+◌, ◌<◌, ◌^◌, ◌==◌, ◌⊎◌, inl, inr, false, true, List, [], ◌∷◌, ◌++◌, length, refl, sym, ap, ◌∙◌, arith, codes, append_assoc, All}
use Rattle.std.specs.Prelude.{Option, None, Some, is_some}
use Rattle.std.specs.Borrow.{Bor}
use Rattle.std.specs.Fmt.{decimal}
use Rattle.std.specs.List.{slice_split}
use Rattle.std.proofs.lemmas.Fmt.{decimal_injective, decimal_nonempty}
use Rattle.std.proofs.lemmas.List.Splits.{length-slice_split}
use Rattle.aff_model.specs.declared.extent.Extent.{Extent}
use Rattle.aff_plan.specs.Reading.{parts_behind}
use Rattle.aff_plan.specs.Line.{HasFields, HasShape, IsExtentLine, IsNumber, IsNoNumber, LacksNumber, words_of}

-- a line of the shape has four words
shape_words : (line : List ℕ) → HasShape line → length (words_of line) ≡ 4
shape_words line (at, len, priority, fields) = ap length fields.words

pub one_word : (line word : List ℕ) → words_of line ≡ word ∷ [] → ¬ (HasShape line)
one_word line word is shape = absurd (omega (arith, shape_words line shape, ap length is))

pub two_words : (line word at : List ℕ) → words_of line ≡ word ∷ at ∷ [] → ¬ (HasShape line)
two_words line word at is shape = absurd (omega (arith, shape_words line shape, ap length is))

pub three_words : (line word at len : List ℕ) → words_of line ≡ word ∷ at ∷ len ∷ [] → ¬ (HasShape line)
three_words line word at len is shape = absurd (omega (arith, shape_words line shape, ap length is))

pub more_words : (line word at len priority rest : List ℕ) → words_of line ≡ word ∷ at ∷ len ∷ priority ∷ words_of rest → ¬ (HasShape line)
more_words line word at len priority rest is shape = absurd (omega (arith, shape_words line shape, ap length is, length-slice_split (λ b. b == 32) rest))

pub more_parts : (line word at len priority : List ℕ) (rest : Option (Bor (List ℕ))) → is_some rest ≡ true → words_of line ≡ word ∷ at ∷ len ∷ priority ∷ parts_behind 32 rest → ¬ (HasShape line)
more_parts line word at len priority None some is = absurd (cc some)
more_parts line word at len priority (Some rest) some is = more_words line word at len priority rest.now is

-- four other words
pub other_word : (line word at len priority : List ℕ) → words_of line ≡ word ∷ at ∷ len ∷ priority ∷ [] → word ≢ codes "extent" → ¬ (HasShape line)
other_word line word at len priority is other (a, l, p, fields) = let same : word ≡ codes "extent" = cc (is, fields.words) in other same

pub no_at : (line word len priority : List ℕ) → words_of line ≡ word ∷ [] ∷ len ∷ priority ∷ [] → ¬ (HasShape line)
no_at line word len priority is (a, l, p, fields) = let none : a ≡ [] = cc (is, fields.words) in fields.at_there none

pub no_len : (line word at priority : List ℕ) → words_of line ≡ word ∷ at ∷ [] ∷ priority ∷ [] → ¬ (HasShape line)
no_len line word at priority is (a, l, p, fields) = let none : l ≡ [] = cc (is, fields.words) in fields.len_there none

pub no_priority : (line word at len : List ℕ) → words_of line ≡ word ∷ at ∷ len ∷ [] ∷ [] → ¬ (HasShape line)
no_priority line word at len is (a, l, p, fields) = let none : p ≡ [] = cc (is, fields.words) in fields.priority_there none

some_number : (n : ℕ) → n < 2 ^ 64 → decimal n ≢ []
some_number n small none = absurd (omega (arith, decimal_nonempty n small, ap length none))

-- the line of an extent has the shape, and its fields are numbers
fields_of : (line : List ℕ) (e : Extent) → IsExtentLine line e → HasFields line (decimal e.at) (decimal e.len) (decimal e.priority)
fields_of line e is = record { words = is.words; at_there = some_number e.at is.at; len_there = some_number e.len is.len; priority_there = some_number e.priority is.priority }

pub has_shape : (line : List ℕ) (e : Extent) → IsExtentLine line e → HasShape line
has_shape line e is = (decimal e.at, decimal e.len, decimal e.priority, fields_of line e is)

pub lacks_none : (line : List ℕ) (e : Extent) → IsExtentLine line e → ¬ (LacksNumber line)
lacks_none line e is lacks =
    let at : lacks.at ≡ decimal e.at = cc (is.words, lacks.fields.words) in
    let len : lacks.len ≡ decimal e.len = cc (is.words, lacks.fields.words) in
    let priority : lacks.priority ≡ decimal e.priority = cc (is.words, lacks.fields.words) in
    elim lacks.lacks [
      | inl none ↦ none e.at (is.at, at)
      | inr more ↦ elim more [
        | inl none ↦ none e.len (is.len, len)
        | inr none ↦ none e.priority (is.priority, priority)
      ]
    ]

-- a line that lacks a number has the shape
pub shape_lacks : (line : List ℕ) → LacksNumber line → HasShape line
shape_lacks line lacks = (lacks.at, lacks.len, lacks.priority, lacks.fields)

-- a line is that of one extent
pub same_extent : (line : List ℕ) (e f : Extent) → IsExtentLine line e → IsExtentLine line f → e ≡ f
same_extent line e f p q =
    let at : decimal e.at ≡ decimal f.at = cc (p.words, q.words) in
    let len : decimal e.len ≡ decimal f.len = cc (p.words, q.words) in
    let priority : decimal e.priority ≡ decimal f.priority = cc (p.words, q.words) in
    let at_is = decimal_injective e.at f.at p.at q.at at in
    let len_is = decimal_injective e.len f.len p.len q.len len in
    let priority_is = decimal_injective e.priority f.priority p.priority q.priority priority in
    λ i. record { at = at_is i; len = len_is i; priority = priority_is i }

-- three fields that are numbers are those of an extent
pub extent_read : (line at len priority : List ℕ) (e : Extent) → HasFields line at len priority → IsNumber at e.at → IsNumber len e.len → IsNumber priority e.priority → IsExtentLine line e
extent_read line at len priority e fields at_is len_is priority_is = record {
  words = cc (fields.words, at_is.1, len_is.1, priority_is.1);
  at = at_is.0;
  len = len_is.0;
  priority = priority_is.0;
}
