-- The statements of a name, as a set.
use Rattle.std.specs.Prelude.{◌≡◌, ◌<◌, ℕ, Bool, List, [], ◌∷◌, length, filter, slice_index_or, Result, Ok, Err, if◌then◌else◌, position, Some}
use Rattle.std.specs.List.{list_all}
use Rattle.aff_turtle.specs.Triples.{Fact}
use Rattle.aff_info.specs.Table.{same}
use Rattle.aff_info.specs.declared.one.Lack.{Lack}
use Rattle.aff_info.specs.declared.one.Lack.TheVariants as lacks

-- how many different statements there are: none, one, or two and more
pub data One : Type 0 where
  Missing : One
  Only : Fact → One
  Twice : One

-- of these statements, each of which may stand more than once
abbrev pub one_of : List Fact → One
one_of [] = Missing
one_of (t ∷ ts) = if list_all (same t) (t ∷ ts) then Only t else Twice

-- what was found among facts by a test: a place, or what lacks
abbrev pub IsOne : (Fact → Bool) → List Fact → Result ℕ Lack → Type 0
IsOne test facts (Ok place) =
    (position test facts ≡ Some place) × (place < length facts) × ((d : Fact) → one_of (filter test facts) ≡ Only (slice_index_or facts place d))
IsOne test facts (Err lacks.Missing) = one_of (filter test facts) ≡ Missing
IsOne test facts (Err lacks.Twice) = one_of (filter test facts) ≡ Twice
