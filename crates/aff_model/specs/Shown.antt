-- A published piece as an examiner sees it: the number of publications up to it, the extent's number, first byte and
-- length, and its unreadable sectors.
use Rattle.std.specs.Prelude.{ℕ, List}

pub record Shown : Type 0 where
  pub front : ℕ
  pub extent : ℕ
  pub at : ℕ
  pub len : ℕ
  pub bad : List ℕ
