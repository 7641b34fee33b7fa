-- Lists of targets: which target each line names.
use Rattle.std.specs.Prelude.{◌≡◌, ℕ, ◌+◌, ◌-◌, ◌<◌, ◌==◌, List, [], ◌∷◌, length, take, slice_index, slice_index_or, All, Option, Some, None, IsSome, if◌then◌else◌}
use Rattle.std.specs.List.{filter_map}
use Rattle.std.specs.Str.{bytes_eq}
use Rattle.aff_spec.specs.Names.{zero_iri, unknown_iri, unreadable_iri}
use Rattle.aff_spec.specs.Lines.{lines_of}
use Rattle.aff_map.specs.declared.target.Target.{Target}
use Rattle.aff_map.specs.declared.target.Target.TheVariants.{Stored, Zero, Unknown, Unreadable}

-- the text without a line feed at its end
abbrev pub without_last_feed : List ℕ → List ℕ
without_last_feed text = if slice_index text (length text - 1) == 10 then take (length text - 1) text else text

-- the lines of a list of targets: what stands between its line feeds, and none behind the last one; no bytes are no line
abbrev pub target_lines : List ℕ → List (List ℕ)
target_lines [] = []
target_lines (b ∷ text) = lines_of (without_last_feed (b ∷ text))

-- the target that a line names: the stream by its URN, or a symbolic stream by its IRI
abbrev pub target_of : List ℕ → List ℕ → Option Target
target_of stream line =
    if bytes_eq line stream then Some Stored
    else (if bytes_eq line zero_iri then Some Zero
    else (if bytes_eq line unknown_iri then Some Unknown
    else (if bytes_eq line unreadable_iri then Some Unreadable else None)))

-- the line names a target
abbrev pub IsNamed : List ℕ → List ℕ → Type 0
IsNamed stream line = IsSome (target_of stream line)

-- the targets that the lines of a list name
abbrev pub targets_of : List ℕ → List ℕ → List Target
targets_of stream idx = filter_map (target_of stream) (target_lines idx)

-- the first of some lines that names no target, by its number from 1
pub record IsFirstUnnamed (stream : List ℕ) (lines : List (List ℕ)) (line : ℕ) : Type 0 where
  pub index : ℕ
  pub from_one : line ≡ index + 1
  pub there : index < length lines
  pub before : All (IsNamed stream) (take index lines)
  pub unnamed : target_of stream (slice_index_or lines index []) ≡ None
