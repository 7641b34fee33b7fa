-- Demands: an extent is asked for where its bit is set, bit `e % 64` of demand word `e / 64`.
use Rattle.std.specs.Prelude.{◌≡◌, ℕ, ◌+◌, ◌*◌, ◌/◌, ◌%◌, ◌<◌, List, Contains}
use Rattle.std.specs.Int.{bit_at}
use Rattle.atomic_table.specs.Table.{State}
use mathlib.Core.Option.{some}
use lib.ListN.{get_elem?}
use Rattle.aff_claim.specs.declared.view.Limits.{Limits}
use Rattle.aff_claim.specs.declared.view.PassView.{PassView}
use Rattle.aff_claim.specs.declared.view.View.{View}
use Rattle.aff_claim.specs.Words.{demand_count, demands_at}

-- a word has a bit
abbrev pub Has : ℕ → ℕ → Type 0
Has bits i = bit_at bits i ≡ 1

-- demand words, by their numbers, ask for an extent
abbrev pub IsAsked : (ℕ → ℕ) → ℕ → Type 0
IsAsked asked e = Has (asked (e / 64)) (e % 64)

-- demands that were found, each a word's number and its bits, ask for an extent
pub record IsAskedIn (looked : List (ℕ × ℕ)) (e : ℕ) : Type 0 where
  pub bits : ℕ
  pub found : Contains looked (e / 64, bits)
  pub has : Has bits (e % 64)

-- a demand word asks for extents of the plan alone
abbrev pub ArePlanned : ℕ → ℕ → ℕ → Type 0
ArePlanned extents d bits = (i : ℕ) → Has bits i → (i < 64) × (64 * d + i < extents)

-- what a pass asked for stands in the demand words, and so does what it found asked for
pub record HasAsked (extents : ℕ) (asked : ℕ → ℕ) (p : PassView) : Type 0 where
  pub raised : (e : ℕ) → Contains p.raised e → (e < extents) × IsAsked asked e
  pub looked : (d bits : ℕ) → Contains p.looked (d, bits) → (d < demand_count extents) × ((i : ℕ) → Has bits i → Has (asked d) i)

-- the rule of the demand words
pub record AreDemands {S : Type 0} (limits : Limits) (s : State S View) : Type 0 where
  pub planned : (d : ℕ) → d < demand_count limits.extents → ArePlanned limits.extents d (demands_at limits.extents s.words d)
  pub seats : (seat : ℕ) (v : View) → get_elem? s.views seat ≡ some v → HasAsked limits.extents (demands_at limits.extents s.words) v.pass
