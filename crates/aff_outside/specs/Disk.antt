-- A file as a device: the bytes of a block, its size in bytes, and how often a reading failed.
use Rattle.std.specs.Prelude.{ℕ}

pub record Disk : Type 0 where
  pub block : ℕ
  pub size : ℕ
  pub faults : ℕ
