use Rattle.std.proofs.Common.{◌≡◌, ℕ, ◌/◌, ◌<◌, length, take, get_or}
use Rattle.std.specs.Prelude.{Contains}
use Rattle.aff_examine.proofs.seeing.blank.Given as goal

abbrev pub invariant-loop-sector : goal.invariant-loop-sector
invariant-loop-sector l = record {
  len : length l.bytes ≡ length l.initial.bytes;
  zero : (k : ℕ) → k < length l.initial.bytes → Contains (take l.sector-index l.bad) (k / 512) → get_or l.bytes k 0 ≡ 0;
  same : (k : ℕ) → k < length l.initial.bytes → ¬ (Contains (take l.sector-index l.bad) (k / 512)) → get_or l.bytes k 0 ≡ get_or l.initial.bytes k 0;
}
