-- Which fault a list of extents has, where it is no plan.
use Rattle.std.specs.Prelude.{◌≡◌, ℕ, ◌+◌, ◌%◌, ◌<◌, ◌≤◌, List, length, take, All, AllPairs}
use Rattle.aff_model.specs.declared.limits.TheConstants.{MAX_EXTENT, MAX_EXTENTS, MAX_TOTAL, MAX_PRIORITY}
use Rattle.aff_model.specs.declared.extent.Extent.{Extent}
use Rattle.aff_model.specs.declared.plan.PlanFault.{PlanFault}
use Rattle.aff_model.specs.declared.plan.PlanFault.TheVariants.{Sector, TooLong, TooMany, PastEnd, Priority, Total, Overlap, Memory}
use Rattle.aff_model.specs.Plan.{IsExtent, AreApart, bytes_in}
use Rattle.aff_model.specs.Index.{extent_at}

-- whole blocks, and some
pub record IsWhole (block : ℕ) (e : Extent) : Type 0 where
  pub at_whole : e.at % block ≡ 0
  pub len_whole : e.len % block ≡ 0
  pub some : 0 < e.len

-- whole blocks, and not too many of them
abbrev pub IsShort : ℕ → Extent → Type 0
IsShort block e = IsWhole block e × (e.len ≤ MAX_EXTENT)

-- such an extent, one of the first 65,536, that ends inside the device
abbrev pub EndsInside : ℕ → ℕ → ℕ → Extent → Type 0
EndsInside size block k e = IsShort block e × (k < MAX_EXTENTS) × (e.at + e.len ≤ size)

-- the extent of a number breaks the rule of a fault, and none that is asked before it: whole blocks, length, count of
-- extents, size, priority, and the bytes of all extents up to this one
abbrev pub Breaks : ℕ → ℕ → List Extent → ℕ → PlanFault → Type 0
Breaks size block extents k (Sector i) = (i ≡ k) × (¬ (IsWhole block (extent_at extents k)))
Breaks size block extents k (TooLong i) = (i ≡ k) × IsWhole block (extent_at extents k) × (MAX_EXTENT < (extent_at extents k).len)
Breaks size block extents k TooMany = IsShort block (extent_at extents k) × (MAX_EXTENTS ≤ k)
Breaks size block extents k (PastEnd i) = (i ≡ k) × IsShort block (extent_at extents k) × (k < MAX_EXTENTS) × (size < (extent_at extents k).at + (extent_at extents k).len)
Breaks size block extents k (Priority i) = (i ≡ k) × EndsInside size block k (extent_at extents k) × (MAX_PRIORITY < (extent_at extents k).priority)
Breaks size block extents k (Total i) = (i ≡ k) × EndsInside size block k (extent_at extents k) × ((extent_at extents k).priority ≤ MAX_PRIORITY) × (MAX_TOTAL < bytes_in (take (k + 1) extents))
Breaks size block extents k (Overlap j i) = ⊥
Breaks size block extents k Memory = ⊥

-- the extent of a number keeps every rule that it can keep by itself and with those before it, but for overlaps
pub record KeepsRules (size block : ℕ) (extents : List Extent) (k : ℕ) : Type 0 where
  pub extent : IsExtent size block (extent_at extents k)
  pub few : k < MAX_EXTENTS
  pub total : bytes_in (take (k + 1) extents) ≤ MAX_TOTAL

-- the fault is that of the first extent that breaks such a rule
pub record IsOwnFault (size block : ℕ) (extents : List Extent) (fault : PlanFault) : Type 0 where
  pub number : ℕ
  pub there : number < length extents
  pub before : (k : ℕ) → k < number → KeepsRules size block extents k
  pub breaks : Breaks size block extents number fault

-- j is the least number whose extent shares a byte with an earlier one, and i is the least such earlier one
pub record IsFirstOverlap (extents : List Extent) (j i : ℕ) : Type 0 where
  pub there : j < length extents
  pub before : AllPairs AreApart (take j extents)
  pub earlier : i < j
  pub shared : ¬ (AreApart (extent_at extents i) (extent_at extents j))
  pub first : (k : ℕ) → k < i → AreApart (extent_at extents k) (extent_at extents j)

-- every extent keeps the rules, but for overlaps, and this is the first overlap
pub record IsOverlapFault (size block : ℕ) (extents : List Extent) (j i : ℕ) : Type 0 where
  pub each : All (IsExtent size block) extents
  pub few : length extents ≤ MAX_EXTENTS
  pub total : bytes_in extents ≤ MAX_TOTAL
  pub overlap : IsFirstOverlap extents j i

-- the fault for which a list of extents is refused: extent by extent from 0, and overlaps after all extents; want of
-- memory is no fault of the list
abbrev pub IsFirstFault : ℕ → ℕ → List Extent → PlanFault → Type 0
IsFirstFault size block extents (Sector i) = IsOwnFault size block extents (Sector i)
IsFirstFault size block extents (TooLong i) = IsOwnFault size block extents (TooLong i)
IsFirstFault size block extents TooMany = IsOwnFault size block extents TooMany
IsFirstFault size block extents (PastEnd i) = IsOwnFault size block extents (PastEnd i)
IsFirstFault size block extents (Priority i) = IsOwnFault size block extents (Priority i)
IsFirstFault size block extents (Total i) = IsOwnFault size block extents (Total i)
IsFirstFault size block extents (Overlap j i) = IsOverlapFault size block extents j i
IsFirstFault size block extents Memory = ⊥
