-- The devices of a run.
use Rattle.std.specs.Prelude.{◌≡◌, ℕ, ◌<◌, ◌≤◌, ◌%◌, List, ◌∷◌, All, Option, length}
use Rattle.aff_model.specs.declared.limits.TheConstants.{MAX_DEVICES, MAX_SIZE}
use Rattle.aff_model.specs.Content.{Content, IsBlock}

-- what a device shows
pub record ShownDevice : Type 0 where
  pub content : Option Content
  pub block : ℕ
  pub size : ℕ
  pub faults : ℕ

abbrev pub shown : Option Content → ℕ → ℕ → ℕ → ShownDevice
shown content block size faults = record { content = content; block = block; size = size; faults = faults }

-- a device of such blocks may have this size: some whole blocks, at most 2^44 bytes
pub record IsDeviceSize (block n : ℕ) : Type 0 where
  pub some : 0 < n
  pub whole : n % block ≡ 0
  pub bounded : n ≤ MAX_SIZE

-- two devices have one block and one size
pub record AreAlike (d e : ShownDevice) : Type 0 where
  pub blocks : d.block ≡ e.block
  pub sizes : d.size ≡ e.size

-- One device at least and 16 at most, which can be readers of one card: the first has blocks of 512 or of 4,096 bytes and an
-- accepted size, and each has the block and the size of the first.
pub record IsFit (devices : List ShownDevice) : Type 0 where
  pub device : ShownDevice
  pub others : List ShownDevice
  pub are : devices ≡ device ∷ others
  pub few : length devices ≤ MAX_DEVICES
  pub is_block : IsBlock device.block
  pub accepted : IsDeviceSize device.block device.size
  pub alike : All (λ d. AreAlike d device) devices
