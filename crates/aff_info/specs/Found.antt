-- Metadata as it was read.
use Rattle.std.specs.Prelude.{ℕ, List}
use Rattle.aff_info.specs.declared.info.Info.{Info}

-- metadata, and the places of the triples that say nothing of it
pub record Found : Type 0 where
  pub info : Info
  pub aside : List ℕ
