-- The bytes of sectors that could not be read.
use Rattle.std.proofs.Common.{◌≡◌, ℕ, ◌+◌, ◌*◌, ◌/◌, ◌%◌, ◌<◌, List, length, sym, ap, ◌∙◌, arith}
use Rattle.std.specs.Prelude.{All, Contains, slice_index}
use Rattle.std.proofs.lemmas.List.Elements.{All-contains}
use Rattle.aff_outside.specs.Seen.{IsZeroSector}

-- a byte of an unreadable sector
pub zero_byte : (bytes bad : List ℕ) → All (IsZeroSector bytes) bad → (k : ℕ) → k < length bytes → Contains bad (k / 512) → slice_index bytes k ≡ 0
zero_byte bytes bad zero k below is_bad =
    let parts : 512 * (k / 512) + k % 512 ≡ k = omega arith in
    let low : k % 512 < 512 = omega arith in
    ap (slice_index bytes) (sym parts) ∙ All-contains (IsZeroSector bytes) bad (k / 512) zero is_bad (k % 512) low
