-- The segments of a stream by their lengths.
use Rattle.std.specs.Prelude.{◌≡◌, ℕ, ◌*◌, ◌<◌, ◌^◌, List, length, slice_index, Option, Some, option_map, IsSomeAnd, IsTrue}
use Rattle.std.specs.Ordering.{nat_cmp}
use Rattle.std.specs.Cmp.Lexicographic.{slice_cmp}
use Rattle.std.specs.FinMap.{find, get, is_sorted}
use Rattle.aff_model.specs.Held.{Held}
use Rattle.aff_spec.specs.Bevvies.{bevvy_count}
use Rattle.aff_spec.specs.BlockHashes.{chunks_in}
use Rattle.aff_spec.specs.Names.{bevvy_name, index_name}

-- the length of a segment, by its name, where it is there
abbrev pub Lengths : Type 0
Lengths = List ℕ → Option ℕ

-- in a folder
abbrev pub held_length : Held → Lengths
held_length held name = option_map length (get held name)

-- in a list of segments with their lengths: the first one's of that name
abbrev pub listed_length : List (List ℕ × ℕ) → Lengths
listed_length segments name = find (slice_cmp nat_cmp) name segments

-- the names of listed segments rise, and none stands twice
abbrev pub AreSorted : List (List ℕ × ℕ) → Type 0
AreSorted segments = IsTrue (is_sorted (slice_cmp nat_cmp) segments)

-- bevvy b of a stream of n chunks is there, with a length in 64 bits, and so is its index, which has twelve bytes for each
-- chunk of the bevvy
pub record IsBevvy (len : Lengths) (stream : List ℕ) (n b : ℕ) : Type 0 where
  pub bevvy : IsSomeAnd (len (bevvy_name stream b)) (λ bytes. bytes < 2 ^ 64)
  pub index : len (index_name stream b) ≡ Some (12 * chunks_in n b)

-- all of them
abbrev pub AreBevvies : Lengths → List ℕ → ℕ → Type 0
AreBevvies len stream n = (b : ℕ) → b < bevvy_count n → IsBevvy len stream n b

-- the first bevvies have these lengths
pub record HaveLengths (len : Lengths) (stream : List ℕ) (count : ℕ) (lens : List ℕ) : Type 0 where
  pub all : length lens ≡ count
  pub each : (b : ℕ) → b < count → len (bevvy_name stream b) ≡ Some (slice_index lens b)
