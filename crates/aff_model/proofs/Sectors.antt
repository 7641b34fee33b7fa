-- Extents of whole blocks are of whole sectors.
use Rattle.std.proofs.Common.{◌≡◌, ℕ, ◌+◌, ◌%◌, ◌<◌, ◌≤◌, List, length, get_or, subst, sym, arith, inl, inr}
use Rattle.std.specs.Prelude.{◌⊎◌, All, AllPairs}
use Rattle.aff_model.specs.declared.extent.Extent.{Extent}
use Rattle.aff_model.specs.declared.limits.TheConstants.{MAX_EXTENT, MAX_EXTENTS}
use Rattle.aff_model.specs.Content.{IsBlock}
use Rattle.aff_model.specs.Plan.{AreApart, IsExtent, IsPlan}

-- one extent by its sectors
pub record IsSectored (size : ℕ) (e : Extent) : Type 0 where
  pub at_whole : e.at % 512 ≡ 0
  pub len_whole : e.len % 512 ≡ 0
  pub some : 0 < e.len
  pub short : e.len ≤ MAX_EXTENT
  pub inside : e.at + e.len ≤ size

pub whole_sectors : (n block : ℕ) → IsBlock block → n % block ≡ 0 → n % 512 ≡ 0
whole_sectors n block (inl one) whole = subst (λ b. n % b ≡ 0) one whole
whole_sectors n block (inr large) whole = let w : n % 4096 ≡ 0 = subst (λ b. n % b ≡ 0) large whole in omega arith

pub sectored : (size block : ℕ) (e : Extent) → IsBlock block → IsExtent size block e → IsSectored size e
sectored size block e is_block is = record {
  at_whole = whole_sectors e.at block is_block is.at_whole;
  len_whole = whole_sectors e.len block is_block is.len_whole;
  some = is.some;
  short = is.short;
  inside = is.inside;
}

-- a plan by its sectors
pub record IsSectorPlan (size : ℕ) (extents : List Extent) : Type 0 where
  pub each : All (IsSectored size) extents
  pub few : length extents ≤ MAX_EXTENTS
  pub apart : AllPairs AreApart extents

pub sector_plan : (size block : ℕ) (extents : List Extent) → IsPlan size block extents → IsSectorPlan size extents
sector_plan size block extents plan = record {
  each = λ k d below. sectored size block (get_or extents k d) plan.is_block (plan.each k d below);
  few = plan.few;
  apart = plan.apart;
}
