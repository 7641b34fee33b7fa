-- The lines of sessions: what each was answered.
use Rattle.std.specs.Prelude.{ℕ, ◌+◌, List, [], ◌∷◌, ◌++◌, codes}
use Rattle.std.specs.Fmt.{decimal}
use Rattle.std.specs.List.{flat_map}
use Rattle.aff_model.specs.declared.cell.Kind.{Kind}
use Rattle.aff_model.specs.declared.cell.Kind.TheVariants.{Known, Unreadable, Unknown}
use Rattle.aff_spec.specs.Digests.{digest_line}
use Rattle.aff_script.specs.Answered.{Answered}
use Rattle.aff_script.specs.declared.answer.RunLine.{RunLine}

-- `known AT LEN`
abbrev pub known_range : ℕ → ℕ → List ℕ
known_range at len = codes "known " ++ (decimal at ++ (codes " " ++ decimal len))

-- `known AT LEN HEX`, `unreadable AT LEN` or `unknown AT LEN`
abbrev pub kind_line : Kind → ℕ → ℕ → List ℕ → List ℕ
kind_line Known at len sum = digest_line (known_range at len) sum
kind_line Unreadable at len sum = codes "unreadable " ++ (decimal at ++ (codes " " ++ (decimal len ++ codes "\n")))
kind_line Unknown at len sum = codes "unknown " ++ (decimal at ++ (codes " " ++ (decimal len ++ codes "\n")))

abbrev pub run_line : RunLine → List ℕ
run_line l = kind_line l.kind l.at l.len l.sha256

-- `read AT LEN FRONT`
abbrev pub read_line : ℕ → ℕ → ℕ → List ℕ
read_line at len front = codes "read " ++ (decimal at ++ (codes " " ++ (decimal len ++ (codes " " ++ (decimal front ++ codes "\n")))))

-- a read with its runs
abbrev pub answer_lines : Answered → List ℕ
answer_lines a = read_line a.at a.len a.front ++ flat_map run_line a.runs

-- `session NUMBER`
abbrev pub session_line : ℕ → List ℕ
session_line number = codes "session " ++ (decimal number ++ codes "\n")

-- each session with its answers, numbered from the one given
abbrev pub session_lines : ℕ → List (List Answered) → List ℕ
session_lines number [] = []
session_lines number (answers ∷ sessions) = (session_line number ++ flat_map answer_lines answers) ++ session_lines (number + 1) sessions
