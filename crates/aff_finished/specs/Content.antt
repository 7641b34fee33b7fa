-- Bytes of a range of an image, as what was acquired there.
use Rattle.std.specs.Prelude.{◌≡◌, ℕ, ◌+◌, ◌<◌, List, length, slice_index}
use Rattle.aff_spec.specs.Symbols.{fill_of}
use Rattle.aff_image.specs.Image.{Image, acquired_content}

-- each byte is that of the acquired content at its place: as the device has it, or as what is unreadable or unknown is printed
abbrev pub AreAcquired : Image → ℕ → List ℕ → Type 0
AreAcquired m at bytes = (k : ℕ) → k < length bytes → slice_index bytes k ≡ fill_of (at + k) (acquired_content m (at + k))
