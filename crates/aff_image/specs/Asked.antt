-- What a run is asked for.
use Rattle.std.specs.Prelude.{ℕ, List}
use Rattle.aff_model.specs.Plan.{Planned}

-- the volume's uuid, the plan, how many workers read, and how many examiners look on
pub record Asked : Type 0 where
  pub uuid : List ℕ
  pub plan : Planned
  pub workers : ℕ
  pub examiners : ℕ
