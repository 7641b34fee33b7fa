-- Answers to reads, as values.
use Rattle.std.specs.Prelude.{ℕ, List}
use Rattle.aff_script.specs.declared.answer.RunLine.{RunLine}

-- the answer to a read: its range, how many publications it was answered by, and its runs
pub record Answered : Type 0 where
  pub at : ℕ
  pub len : ℕ
  pub front : ℕ
  pub runs : List RunLine
