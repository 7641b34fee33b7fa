-- A device of given bytes, some of whose sectors fail at first.
use Rattle.std.specs.Prelude.{ℕ, ◌-◌, Bool, false, ◌&&◌, nat_lt, nat_le, List, map, slice_index, T, refl, if◌then◌else◌}
use Rattle.std.proofs.Common.{sym, subst, ap, inl}
use Rattle.std.specs.List.{list_any}
use Rattle.aff_model.specs.declared.limits.TheConstants.{SECTOR}
use Rattle.aff_model.specs.Content.{Content}
use Rattle.aff_memory.specs.declared.flaky.Flaky.{Flaky}
use Rattle.aff_memory.specs.declared.block_size.BlockSize.TheVariants.{Sector}
use Rattle.aff_memory.specs.Fixed.{has_number, is_in_blocks}

pub record Flaked : Type 0 where
  pub bytes : List ℕ
  pub flaky : List Flaky
  pub faults : ℕ

-- bytes as a content of blocks of one sector: the listed sectors are weak, and none is bad
abbrev pub weak_content : List ℕ → List ℕ → Content
weak_content bytes sectors = record {
  block = SECTOR;
  byte = slice_index bytes;
  weak = is_in_blocks Sector sectors;
  bad = λ _. false;
  is_block = inl refl;
  bad_is_weak = λ s h. absurd (subst T (sym h) tt);
  weak_together = λ s t e. ap (has_number sectors) e;
  bad_together = λ s t e. refl;
}

abbrev pub sectors_of : List Flaky → List ℕ
sectors_of flaky = map (λ f. f.sector) flaky

abbrev pub flaky_content : Flaked → Content
flaky_content d = weak_content d.bytes (sectors_of d.flaky)

-- a range of sectors, from the first to before the end, has the sector
abbrev pub in_range : ℕ → ℕ → ℕ → Bool
in_range first end s = nat_le first s && nat_lt s end

-- some sector of the range still fails
abbrev pub still_fails : ℕ → ℕ → List Flaky → Bool
still_fails first end flaky = list_any (λ f. in_range first end f.sector && nat_lt 0 f.times) flaky

-- after a reading of the range: each of its sectors fails once less
abbrev pub worn : ℕ → ℕ → Flaky → Flaky
worn first end f = record { sector = f.sector; times = if in_range first end f.sector then f.times - 1 else f.times }
