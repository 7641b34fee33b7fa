-- Reading a part of an image.
use Rattle.std.specs.Prelude.{◌≡◌, ⊤, ℕ, ◌+◌, ◌<◌, List, length, slice_index, Some}
use Rattle.aff_model.specs.Held.{Held}
use Rattle.aff_spec.specs.Volumes.{Volume, volume_byte}
use Rattle.aff_map.specs.Mapped.{Mapped}
use Rattle.aff_info.specs.declared.info.Info.{Info}
use Rattle.aff_volume.specs.Image.{IsFirstDamage, IsSoundAt}
use Rattle.aff_volume.specs.Opened.{IsThere, map_in}
use Rattle.aff_volume.specs.declared.error.VolumeReadError.{VolumeReadError}
use Rattle.aff_volume.specs.declared.error.VolumeReadError.TheVariants.{Failed, Damaged, Memory}

-- the bytes are those of the image from an offset on, and each that is stored is of a chunk with the recorded SHA-256
pub record AreBytes (held : Held) (v : Volume) (at : ℕ) (bytes : List ℕ) : Type 0 where
  pub are : (k : ℕ) → k < length bytes → volume_byte held v (at + k) ≡ Some (slice_index bytes k)
  pub sound : (k : ℕ) → k < length bytes → IsSoundAt held v (at + k)

-- why n bytes from an offset on are not read: a call failed, or the first damage that they meet
abbrev pub IsReadError : Held → Volume → ℕ → ℕ → VolumeReadError → Type 0
IsReadError held v at n Failed = ⊤
IsReadError held v at n Memory = ⊤
IsReadError held v at n (Damaged chunk recorded found) = IsFirstDamage held v at n chunk recorded found

-- what metadata name is in a folder, with this map
pub record IsMapped (held : Held) (info : Info) (own : Mapped) : Type 0 where
  pub there : IsThere held info
  pub map : own ≡ map_in held info

-- so many first bytes of a buffer are those of the image from an offset on, as above
pub record AreFirst (held : Held) (v : Volume) (at count : ℕ) (bytes : List ℕ) : Type 0 where
  pub are : (k : ℕ) → k < count → volume_byte held v (at + k) ≡ Some (slice_index bytes k)
  pub sound : (k : ℕ) → k < count → IsSoundAt held v (at + k)
