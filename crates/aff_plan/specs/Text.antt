-- The lines of a plan's text, and the numbers that they have in it.
use Rattle.std.specs.Prelude.{ℕ, ◌==◌, Bool, true, not, List, [], ◌∷◌, filter, map, codes, slice_index}
use Rattle.std.specs.List.{before_first, enumerate_from}
use Rattle.std.specs.Str.{bytes_eq}
use Rattle.aff_spec.specs.Lines.{lines_of}

-- the line with which a script begins
abbrev pub is_session : List ℕ → Bool
is_session line = bytes_eq line (codes "session")

-- the lines of the plan: those before the first one that begins a script
abbrev pub plan_lines : List ℕ → List (List ℕ)
plan_lines text = before_first is_session (lines_of text)

-- an empty line, or a comment, which begins with `#`
abbrev pub is_skipped : List ℕ → Bool
is_skipped [] = true
is_skipped (b ∷ line) = b == 35

-- a line with its number in the text
abbrev pub NumberedLine : Type 0
NumberedLine = ℕ × List ℕ

-- those of some lines that are not skipped, where all of them are numbered from n on
abbrev pub kept_lines : ℕ → List (List ℕ) → List NumberedLine
kept_lines n lines = filter (λ (l : NumberedLine). not (is_skipped l.1)) (enumerate_from n lines)

-- the lines of the plan that are not skipped, by their numbers in the text, from 1
abbrev pub numbered_lines : List ℕ → List NumberedLine
numbered_lines text = kept_lines 1 (plan_lines text)

-- the numbers of some lines
abbrev pub numbers_of : List NumberedLine → List ℕ
numbers_of lines = map (λ (l : NumberedLine). l.0) lines

-- the number of the line of the k-th extent
abbrev pub number_at : List NumberedLine → ℕ → ℕ
number_at lines k = slice_index (numbers_of lines) k
