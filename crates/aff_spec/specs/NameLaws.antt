-- What names never share.
use Rattle.std.specs.Prelude.{◌≡◌, ◌<◌, ℕ, List, ◌++◌, Contains}
use Rattle.aff_spec.specs.Names.{folder_name, eight_digits, segment_in}

-- one folder's name is that of one URN only
abbrev pub FoldersDiffer : Type 0
FoldersDiffer = (urn other : List ℕ) → folder_name urn ≡ folder_name other → urn ≡ other

-- no folder's name has a `/`
abbrev pub FoldersHaveNoSlash : Type 0
FoldersHaveNoSlash = (urn : List ℕ) → ¬ Contains (folder_name urn) 47

-- one segment's name is that of one stream, one number and one suffix only
abbrev pub SegmentsDiffer : Type 0
SegmentsDiffer =
    (stream other : List ℕ) (number n : ℕ) (suffix s : List ℕ) → number < 100000000 → n < 100000000
    → segment_in stream (eight_digits number ++ suffix) ≡ segment_in other (eight_digits n ++ s)
    → (stream ≡ other) × (number ≡ n) × (suffix ≡ s)
