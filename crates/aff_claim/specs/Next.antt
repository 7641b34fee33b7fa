-- Which extent `next` may claim, and what it leaves of what its pass knew.
use Rattle.std.specs.Prelude.{◌≡◌, ◌≢◌, ℕ, ◌/◌, ◌<◌, ◌⊎◌, List, [], ◌∷◌, ◌++◌, length, Contains, slice_index}
use Rattle.aff_claim.specs.declared.view.Last.{Last}
use Rattle.aff_claim.specs.declared.view.PassView.{PassView}
use Rattle.aff_claim.specs.declared.word.Word.{Word}
use Rattle.aff_claim.specs.declared.word.Word.TheVariants.{Free}
use Rattle.aff_claim.specs.Demands.{IsAskedIn}
use Rattle.aff_claim.specs.Words.{demand_count}

-- the same pass later, which has raised nothing
pub record IsLater (old new : PassView) : Type 0 where
  pub number : new.number ≡ old.number
  pub known : (e : ℕ) → Contains old.known e → Contains new.known e
  pub raised : new.raised ≡ old.raised
  pub found : (more : List (ℕ × Word)) × (new.found ≡ old.found ++ more)

-- the pass knows each extent of so many to be taken
abbrev pub KnowsAll : ℕ → PassView → Type 0
KnowsAll extents p = (e : ℕ) → e < extents → Contains p.known e

-- each extent of greater priority than e is in a list
abbrev pub AreUrgentIn : List ℕ → ℕ → List ℕ → Type 0
AreUrgentIn priorities e known = (f : ℕ) → f < length priorities → slice_index priorities e < slice_index priorities f → Contains known f

-- every demand word was looked at, and each extent that was asked for is known
pub record HasServed (extents : ℕ) (looked : List (ℕ × ℕ)) (known : List ℕ) : Type 0 where
  pub all : (d : ℕ) → d < demand_count extents → (bits : ℕ) × Contains looked (d, bits)
  pub served : (e : ℕ) → e < extents → IsAskedIn looked e → Contains known e

-- one demand word was looked at, of its extents each that was asked for is known, and of the other words no more was seen
pub record IsServed (d : ℕ) (old new : PassView) : Type 0 where
  pub bits : ℕ
  pub found : Contains new.looked (d, bits)
  pub known : (e : ℕ) → e / 64 ≡ d → IsAskedIn new.looked e → Contains new.known e
  pub others : (c b : ℕ) → c ≢ d → Contains new.looked (c, b) → Contains old.looked (c, b)
  pub kept : (c b : ℕ) → Contains old.looked (c, b) → Contains new.looked (c, b)

-- e may be claimed by what was known: it had been asked for, or else the demands were served, and each extent of greater
-- priority was known
abbrev pub IsDue : List ℕ → ℕ → Last → Type 0
IsDue priorities e last = IsAskedIn last.looked e ⊎ (HasServed (length priorities) last.looked last.known × AreUrgentIn priorities e last.known)

-- the pass claimed e by its last exchange, which found the word free, and by what it knew then e was due
pub record HasClaimed (priorities : List ℕ) (e : ℕ) (old new : PassView) : Type 0 where
  pub planned : e < length priorities
  pub mine : new.mine ≡ old.mine ++ e ∷ []
  pub exchange : (before : List (ℕ × Word)) × (new.found ≡ before ++ (e, Free) ∷ [])
  pub due : IsDue priorities e new.last
