-- A part of an extent that was read around what cannot be read: as a whole, and a single block.
use Rattle.std.proofs.Common.{◌≡◌, ℕ, ◌+◌, ◌-◌, ◌*◌, ◌/◌, ◌%◌, ◌<◌, ◌≤◌, List, [], length, get_or, replicate, refl, sym, ap, ◌∙◌, subst, IsTrue, arith}
use Rattle.std.proofs.lemmas.List.{get_or-replicate}
use Rattle.std.proofs.lemmas.List.FromFn.{length-range_with_len}
use Rattle.std.specs.Prelude.{Option, None, Some, IfSome, Contains}
use Rattle.std.specs.List.{range_with_len}
use Rattle.aff_model.specs.declared.limits.TheConstants.{SECTOR}
use Rattle.aff_model.specs.Content.{Content, IsBlock, IsRead, Touches, AreTogether}
use Rattle.aff_device.specs.Around.{IsToldPart, IsPart, IsRange}
use Rattle.aff_device.proofs.Blocks.{whole_none, one_block, whole_sectors, same_block, in_row, has_in_row, row_rises}

none_in_empty : (s : ℕ) → Contains {X = ℕ} [] s → ⊥
none_in_empty s h = absurd (omega (arith, h.1))

-- the whole part was read
told_whole : (c : Content) (start first len : ℕ) (bytes : List ℕ) → start % SECTOR ≡ 0 → len % SECTOR ≡ 0 → length bytes ≡ len → IsRead c (start + SECTOR * first) bytes → ¬ (Touches c.bad (start + SECTOR * first) len)
    → IsToldPart c start first bytes []
told_whole c start first len bytes whole whole_len same read good = record {
  weak = λ s h. absurd (none_in_empty s h);
  every_bad = λ s low high bad. absurd (good (start / SECTOR + s, omega (arith, low), omega (arith, high, same, whole, whole_len), bad));
  known = λ k h out. read k h;
}

pub whole_part : (content : Option Content) (block start first len : ℕ) (bytes : List ℕ) → IsBlock block → IsRange block start first len → length bytes ≡ len → IfSome content (λ c. IsRead c (start + SECTOR * first) bytes)
    → IfSome content (λ c. ¬ (Touches c.bad (start + SECTOR * first) len)) → IsPart content block start first bytes []
whole_part content block start first len bytes is range same read good =
    let whole = whole_sectors block start is range.start_whole in
    let whole_len = whole_sectors block len is range.len_whole in
    record {
      rising = λ k h. absurd (omega (arith, h));
      few = omega arith;
      low = λ s h. absurd (none_in_empty s h);
      high = λ s h. absurd (none_in_empty s h);
      together = λ s t h. absurd (none_in_empty s h);
      whole = whole_none block is;
      zero = λ s h. absurd (none_in_empty _ h);
      told = elim content as (λ o. IfSome o (λ c. IsRead c (start + SECTOR * first) bytes) → IfSome o (λ c. ¬ (Touches c.bad (start + SECTOR * first) len)) → IfSome o (λ c. IsToldPart c start first bytes [])) [
        | None ↦ λ r g. tt
        | Some c ↦ λ r g. told_whole c start first len bytes whole whole_len same r g
      ] read good;
    }

-- nothing is left to be read
pub empty_part : (content : Option Content) (block start first : ℕ) (bytes : List ℕ) → IsBlock block → length bytes ≡ 0 → IsPart content block start first bytes []
empty_part content block start first bytes is none = record {
  rising = λ k h. absurd (omega (arith, h));
  few = omega arith;
  low = λ s h. absurd (none_in_empty s h);
  high = λ s h. absurd (none_in_empty s h);
  together = λ s t h. absurd (none_in_empty s h);
  whole = whole_none block is;
  zero = λ s h. absurd (none_in_empty _ h);
  told = elim content as (λ o. IfSome o (λ c. IsToldPart c start first bytes [])) [
    | None ↦ tt
    | Some c ↦ record {
      weak = λ s h. absurd (none_in_empty s h);
      every_bad = λ s low high bad. absurd (omega (arith, low, high, none));
      known = λ k h out. absurd (omega (arith, h, none));
    }
  ];
}

-- a single block could not be read
told_block : (c : Content) (block start first len n : ℕ) (bytes : List ℕ) → IsBlock block → c.block ≡ block → IsRange block start first len → len ≡ block → n ≡ len / SECTOR → length bytes ≡ len
    → Touches c.weak (start + SECTOR * first) len → IsToldPart c start first bytes (range_with_len first n)
told_block c block start first len n bytes is own range one count same touches =
    let whole = whole_sectors block start is range.start_whole in
    let sectors = whole_sectors block len is range.len_whole in
    let weak_together : AreTogether block c.weak = subst (λ b. AreTogether b c.weak) own c.weak_together in
    record {
      weak = λ s h.
          let row = in_row first n s h in
          let t : ℕ = touches.0 - start / SECTOR in
          let at : touches.0 ≡ start / SECTOR + t = omega (arith, touches.1, whole) in
          let low : first ≤ t = omega (arith, touches.1, whole) in
          let high : SECTOR * t < SECTOR * first + block = omega (arith, touches.1, touches.2, whole, one, sectors) in
          let both = same_block block start first t s is range.start_whole range.first_whole low high row.0 (omega (arith, row.1, count, one, sectors)) in
          subst IsTrue (weak_together (start / SECTOR + t) (start / SECTOR + s) both) (subst (λ k. IsTrue (c.weak k)) at touches.3);
      every_bad = λ s low high bad. has_in_row first n s low (omega (arith, high, same, count));
      known = λ k h out. absurd (out (has_in_row first n (first + k / SECTOR) (omega arith) (omega (arith, h, same, count, sectors))));
    }

pub block_part : (content : Option Content) (block start first len n : ℕ) (bytes : List ℕ) → IsBlock block → IfSome content (λ c. c.block ≡ block) → IsRange block start first len → len / block ≡ 1 → n ≡ len / SECTOR
    → bytes ≡ replicate len 0 → length bytes ≡ len → IfSome content (λ c. Touches c.weak (start + SECTOR * first) len) → IsPart content block start first bytes (range_with_len first n)
block_part content block start first len n bytes is own range one count zeros same weak =
    let len_is : len ≡ block = one_block block len is range.len_whole one in
    let sectors = whole_sectors block len is range.len_whole in
    let bad = range_with_len first n in
    let many : length bad ≡ n = length-range_with_len first n in
    record {
      rising = row_rises first n;
      few = omega (arith, many, count, same);
      low = λ s h. (in_row first n s h).0;
      high = λ s h. let row = in_row first n s h in omega (arith, row.1, count, same);
      together = λ s t h low high e. has_in_row first n t low (omega (arith, high, same, count));
      whole =
          let bytes_of : SECTOR * length bad ≡ len = omega (arith, many, count, sectors) in
          subst (λ m. m % block ≡ 0) (sym bytes_of) range.len_whole;
      zero = λ s h k below.
          let row = in_row first n (first + s) h in
          ap (λ b. get_or b (SECTOR * s + k) 0) zeros ∙ get_or-replicate len (SECTOR * s + k) 0 0 (omega (arith, row.1, below, count, sectors));
      told = elim content as (λ o. IfSome o (λ c. c.block ≡ block) → IfSome o (λ c. Touches c.weak (start + SECTOR * first) len) → IfSome o (λ c. IsToldPart c start first bytes bad)) [
        | None ↦ λ e w. tt
        | Some c ↦ λ e w. told_block c block start first len n bytes is e range len_is count same w
      ] own weak;
    }
