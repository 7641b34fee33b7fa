-- What a state keeps beside its lists, so that each event takes a few steps.
use Rattle.std.specs.Prelude.{◌≡◌, ℕ, ◌+◌, ◌<◌, ◌≤◌, Option, None, Some, List, length, map, count_by, slice_get, slice_index}
use Rattle.std.specs.Option.{is_none}
use Rattle.aff_core.specs.declared.standing.Standing.{Standing}
use Rattle.aff_core.specs.declared.standing.Standing.TheVariants.{Free, Claimed, Published}
use Rattle.aff_model.specs.Plan.{Planned, IsPlan}

-- for each extent its place among the published numbers, or none
pub record Tracks (out : List ℕ) (places : List (Option ℕ)) : Type 0 where
  pub each : (q : ℕ) → q < length out → slice_get places (slice_index out q) ≡ Some (Some q)
  pub found : (e q : ℕ) → slice_get places e ≡ Some (Some q) → (q < length out) × (slice_index out q ≡ e)
  pub count : length out + count_by is_none places ≡ length places

-- the claimant of an extent by those of the history, and its place in the history
abbrev pub claim_of : List ℕ → Standing → Option ℕ
claim_of claimants Free = None
claim_of claimants (Claimed by) = Some by
claim_of claimants (Published place) = slice_get claimants place

abbrev pub place_of : Standing → Option ℕ
place_of Free = None
place_of (Claimed by) = None
place_of (Published place) = Some place

-- standings are as many as the extents, and there is room for a publication of each
pub record IsKept (plan : Planned) (standings : List Standing) (out : List ℕ) (room : ℕ) : Type 0 where
  pub plan_valid : IsPlan plan.size plan.block plan.extents
  pub count : length standings ≡ length plan.extents
  pub tracks : Tracks out (map place_of standings)
  pub room_left : length plan.extents ≤ room
