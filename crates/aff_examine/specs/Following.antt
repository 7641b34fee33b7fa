-- Followers as values.
use Rattle.std.specs.Prelude.{◌≡◌, ℕ, ◌-◌, ◌≤◌, ◌⊎◌, Bool, List, [], length, take, drop, Option, None, Some, IsTrue, MatchOption}
use Rattle.aff_model.specs.declared.limits.TheConstants.{TURNS}
use Rattle.aff_model.specs.History.{Part}
use Rattle.aff_model.specs.Plan.{Planned}
use Rattle.aff_analyst.specs.Values.{MayHaveGrown}
use Rattle.aff_snapshot.specs.Lists.{Beginning}

-- who follows: the plan, what its viewer has seen, if it has one, its peek, and how many pieces it has shown; how many of its
-- last looks in a row gave nothing new, and whether no worker ran before the last one
pub record Following (R P : Type 0) : Type 0 where
  pub plan : Planned
  pub viewer : Option (Beginning R)
  pub peek : P
  pub shown : ℕ
  pub idle : ℕ
  pub alone : Bool

-- the pieces that a viewer has seen, if there is one
abbrev pub pieces_in : {R : Type 0} → Option (Beginning R) → List (Part R)
pieces_in None = []
pieces_in (Some v) = v.pieces

-- the pieces that its viewer has seen
abbrev pub seen_by : {R P : Type 0} → Following R P → List (Part R)
seen_by f = pieces_in f.viewer

-- what stays of a follower: its plan; its viewer has seen no less, and it has shown no less
pub record HasGoneOn {R P : Type 0} (old new : Following R P) : Type 0 where
  pub plan : new.plan ≡ old.plan
  pub viewer : MayHaveGrown old.viewer new.viewer
  pub shown : old.shown ≤ new.shown

-- the pieces behind the first n of a list, up to its first m
abbrev pub between : ℕ → ℕ → {R : Type 0} → List (Part R) → List (Part R)
between n m pieces = take (m - n) (drop n pieces)

-- A follower may end: it has no viewer; it has shown as many pieces as the plan has extents, and a list has no more; or it has
-- shown all that it saw, and either its last look gave nothing new and no worker ran before it, or as many looks in a row gave
-- nothing new as it has patience for.
abbrev pub MayEnd : {R P : Type 0} → Following R P → Type 0
MayEnd f = MatchOption f.viewer (Unit {0}) (λ v. (length f.plan.extents ≤ f.shown) ⊎ ((f.shown ≡ length v.pieces) × (IsTrue f.alone ⊎ (f.idle ≡ TURNS))))

-- the pieces that it has shown, where it was handed no others
abbrev pub shown_by : {R P : Type 0} → Following R P → List (Part R)
shown_by f = take f.shown (seen_by f)
