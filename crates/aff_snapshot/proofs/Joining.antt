-- Two beginnings of one log are beginnings of one list of pieces.
use Rattle.std.proofs.Common.{◌≡◌, ◌⊎◌, ℕ, zero, suc, ◌<◌, ◌≤◌, List, [], ◌∷◌, ◌++◌, length, map, nat_eq, refl, sym, ◌∙◌, subst, inl, inr, ⊎_elim, arith}
use mathlib.Core.List.{IsPrefix}
use base.Stored.{Coded}
use Rattle.std.specs.Prelude.{Bool, Option, None, Some, All, MatchOption, slice_get, slice_index_or}
use Rattle.std.proofs.lemmas.Option.{slice_get_within}
use Rattle.std.proofs.lemmas.List.{append-nil, map-append}
use Rattle.std.proofs.lemmas.List.Elements.{All-head, All-tail}
use Rattle.std.specs.List.{IsDistinct}
use Rattle.aff_model.specs.Content.{Content}
use Rattle.aff_model.specs.History.{Part}
use Rattle.aff_model.specs.Plan.{Planned}
use Rattle.aff_model.specs.declared.extent.Extent.{Extent}
use Rattle.aff_snapshot.specs.Codes.{Name}
use Rattle.aff_snapshot.specs.Lists.{AreListed, HasEvery, names_of}
use Rattle.aff_snapshot.specs.Log.{AreOnce}
use Rattle.aff_snapshot.specs.Sound.{AreSound}
use Rattle.aff_snapshot.proofs.Beginnings.{prefix_shorter}
use Rattle.aff_snapshot.proofs.Names.{names_prefix, pieces_once}
use Rattle.aff_snapshot.proofs.Once.{once_apart}

-- an extent of which something is said is one of the plan
has_extent : (extents : List Extent) (k : ℕ) (P : Extent → Type 0) (o : Option Extent) → slice_get extents k ≡ o → MatchOption o ⊥ P → k < length extents
has_extent extents k P None is says = absurd says
has_extent extents k P (Some e) is says = slice_get_within extents k e is

-- sound pieces are of the plan's extents
pub sound_planned : {R : Type 0} (case : Option Content) (plan : Planned) (tells : Bool) (told : R → List ℕ) (pieces : List (Part R))
    → AreSound case plan tells told pieces → All (λ p. p.extent < length plan.extents) pieces
sound_planned case plan tells told pieces sound k d within =
    has_extent plan.extents (slice_index_or pieces k d).extent _ (slice_get plan.extents (slice_index_or pieces k d).extent) refl (sound k d within)

-- sound pieces whose names begin a list of extents that stand once
pub sound_listed : {R : Type 0} (c : Coded R) (case : Option Content) (plan : Planned) (tells : Bool) (told : R → List ℕ) (pieces : List (Part R)) (all : List Name)
    → AreSound case plan tells told pieces → IsPrefix (names_of c pieces) all → AreOnce all → AreListed plan pieces
sound_listed c case plan tells told pieces all sound pre once = record { planned = sound_planned case plan tells told pieces sound; once = pieces_once c pieces all pre once }

le_or : (m n : ℕ) → (m ≤ n) ⊎ (n ≤ m)
le_or zero n = inl (omega arith)
le_or (suc m) zero = inr (omega arith)
le_or (suc m) (suc n) = ⊎_elim (λ h. inl (omega arith)) (λ h. inr (omega arith)) (le_or m n)

-- two lists of pieces whose names begin one log begin one list, which is the longer of the two
pub one_list : {R : Type 0} (c : Coded R) (plan : Planned) (ps qs : List (Part R)) (all : List Name)
    → AreListed plan ps → AreListed plan qs → IsPrefix (names_of c ps) all → IsPrefix (names_of c qs) all
    → (both : List (Part R)) × AreListed plan both × IsPrefix ps both × IsPrefix qs both
one_list c plan ps qs all first second p q =
    ⊎_elim
    (λ le. (qs, second, names_prefix c ps qs (prefix_shorter (names_of c ps) (names_of c qs) all p q le), ([], append-nil qs)))
    (λ le. (ps, first, ([], append-nil ps), names_prefix c qs ps (prefix_shorter (names_of c qs) (names_of c ps) all q p le)))
    (le_or (length (names_of c ps)) (length (names_of c qs)))

-- of two beginnings of one list, the one that is not longer begins the other
pub begins : {R : Type 0} (ps qs all : List (Part R)) → IsPrefix ps all → IsPrefix qs all → length ps ≤ length qs → IsPrefix ps qs
begins ps qs all p q le = prefix_shorter ps qs all p q le

all_at : {X : Type 0} (P : X → Type 0) (xs : List X) (y : X) (ys : List X) → All P (xs ++ y ∷ ys) → P y
all_at P [] y ys all = All-head P y ys all
all_at P (x ∷ xs) y ys all = all_at P xs y ys (All-tail P x (xs ++ y ∷ ys) all)

-- a beginning that has every extent is the whole
whole_is : {R : Type 0} (plan : Planned) (qs all rest : List (Part R)) → AreListed plan all → HasEvery plan qs → qs ++ rest ≡ all → qs ≡ all
whole_is plan qs all [] listed every is = sym (append-nil qs) ∙ is
whole_is {R} plan qs all (r ∷ rest) listed every is =
    let extent : Part R → ℕ = λ p. p.extent in
    let once : IsDistinct nat_eq (map extent (qs ++ r ∷ rest)) = subst (λ (l : List (Part R)). IsDistinct nat_eq (map extent l)) (sym is) listed.once in
    let planned : All (λ (p : Part R). p.extent < length plan.extents) (qs ++ r ∷ rest) = subst (All (λ (p : Part R). p.extent < length plan.extents)) (sym is) listed.planned in
    absurd (once_apart (map extent qs) r.extent (map extent rest) (subst (IsDistinct nat_eq) (map-append extent qs (r ∷ rest)) once) (every r.extent (all_at (λ (p : Part R). p.extent < length plan.extents) qs r rest planned)))

-- so all others begin it
pub whole_begins : {R : Type 0} (plan : Planned) (ps qs all : List (Part R)) → AreListed plan all → IsPrefix ps all → IsPrefix qs all → HasEvery plan qs → IsPrefix ps qs
whole_begins {R} plan ps qs all listed p q every = subst (λ (l : List (Part R)). IsPrefix ps l) (sym (whole_is plan qs all q.0 listed every q.1)) p
