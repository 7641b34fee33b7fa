-- A device that stays what it is.
use Rattle.std.specs.Prelude.{◌≡◌, ℕ, ◌≤◌, Option}
use Rattle.aff_model.specs.Content.{Content}

-- the same device: its content, block and size stayed, and its count of faults did not fall
pub record IsSameDevice {D : Type 0} (content : D → Option Content) (block size faults : D → ℕ) (old new : D) : Type 0 where
  pub holds : content new ≡ content old
  pub blocks : block new ≡ block old
  pub sized : size new ≡ size old
  pub later : faults old ≤ faults new
