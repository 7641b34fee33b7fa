-- A source and a sink in memory.
use Rattle.std.specs.Prelude.{ℕ, List}
use Rattle.aff_memory.specs.Counted.{Counted}

-- the bytes that are left
pub record Reading : Type 0 where
  pub left : List ℕ
  pub calls : Counted

-- the bytes that were written
pub record Writing : Type 0 where
  pub written : List ℕ
  pub calls : Counted
