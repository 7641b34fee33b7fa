-- Publications with the bytes that were read of their extents, by any of the workers and in any order.
use Rattle.std.specs.Prelude.{ℕ, List, Option, All, MatchOption, map, nat_eq, slice_get}
use Rattle.std.specs.List.{IsDistinct, flat_map}
use Rattle.aff_model.specs.Content.{Content}
use Rattle.aff_model.specs.History.{Published}
use Rattle.aff_model.specs.Legal.{AreCounted, IsClaimant, chunk_numbers}
use Rattle.aff_model.specs.Plan.{Planned}
use Rattle.aff_spec.specs.Chunks.{stored_chunks}
use Rattle.aff_image.specs.Sound.{IsReading}

-- a publication and its witness: the bytes of its extent as they were read, 0 in each sector that could not be
pub record Witnessed : Type 0 where
  pub published : Published
  pub bytes : List ℕ

-- the publications alone
abbrev pub history_of : List Witnessed → List Published
history_of readings = map (λ r. r.published) readings

-- the chunks of a reading that are stored, each padded to the length of a chunk
abbrev pub kept_of : Witnessed → List (List ℕ)
kept_of r = stored_chunks r.bytes r.published.places

-- the stored chunks of readings, in the order of publication and then of place
abbrev pub kept_chunks : List Witnessed → List (List ℕ)
kept_chunks readings = flat_map kept_of readings

-- the extent is one of the plan's, and was read so
abbrev pub IsWitnessed : Option Content → Planned → Witnessed → Type 0
IsWitnessed case plan r = MatchOption (slice_get plan.extents r.published.extent) ⊥ (λ e. IsReading case plan.block e r.bytes r.published.bad r.published.places)

-- readings of extents of a plan, each extent once, by workers or by the sweep for one; and the chunk numbers, in the order
-- of publication and then of place, are 0, 1, 2 and so on
pub record AreWitnessed (case : Option Content) (plan : Planned) (workers : ℕ) (readings : List Witnessed) : Type 0 where
  pub each : All (IsWitnessed case plan) readings
  pub claimants : All (λ r. IsClaimant workers r.published) readings
  pub once : IsDistinct nat_eq (map (λ p. p.extent) (history_of readings))
  pub numbered : AreCounted (chunk_numbers (history_of readings))
