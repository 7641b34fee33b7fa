-- Runs of an answer, made of the bytes of its range.
use Rattle.std.specs.Prelude.{◌≡◌, ℕ, ◌-◌, List, take, drop, map, All}
use Rattle.aff_model.specs.declared.cell.Run.{Run}
use Rattle.aff_script.specs.declared.answer.RunLine.{RunLine}
use Rattle.aff_session.specs.Answers.{AreInRow, IsSumOf, run_of}

-- the bytes of a run, among those from an offset on
abbrev pub line_bytes : ℕ → List ℕ → RunLine → List ℕ
line_bytes at bytes l = take l.len (drop (l.at - at) bytes)

-- these are runs, one behind the other from an offset on, each with the digest of its bytes among those from there on
pub record AreLinesOf (at : ℕ) (bytes : List ℕ) (runs : List Run) (lines : List RunLine) : Type 0 where
  pub same : map run_of lines ≡ runs
  pub in_row : AreInRow at lines
  pub sums : All (λ l. IsSumOf (line_bytes at bytes l) l.kind l.sha256) lines
