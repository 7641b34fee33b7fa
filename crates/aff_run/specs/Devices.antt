-- Devices before a run and behind it.
use Rattle.std.specs.Prelude.{◌≡◌, ℕ, ◌<◌, List, length, slice_index_or, Option, Some, IfSome}
use Rattle.aff_model.specs.Content.{Content}
use Rattle.aff_model.specs.Plan.{Planned}
use Rattle.aff_outside.specs.Kept.{IsSameDevice}

-- the device is of the plan's size and block, and holds what is told of the devices
pub record Fits {D : Type 0} (case : Option Content) (plan : Planned) (content : D → Option Content) (block size : D → ℕ) (d : D) : Type 0 where
  pub is_size : size d ≡ plan.size
  pub is_block : block d ≡ plan.block
  pub told : IfSome case (λ c. content d ≡ Some c)

-- the devices as they come back, in their order, each the same device
pub record AreKept {D : Type 0} (content : D → Option Content) (block size faults : D → ℕ) (old new : List D) : Type 0 where
  pub count : length new ≡ length old
  pub each : (k : ℕ) (d : D) → k < length old → IsSameDevice content block size faults (slice_index_or old k d) (slice_index_or new k d)
