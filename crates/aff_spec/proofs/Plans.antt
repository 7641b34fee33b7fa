-- Extents of a plan: their places and sectors, and their numbers.
use Rattle.std.proofs.Common.{◌≡◌, ℕ, suc, ◌+◌, ◌*◌, ◌/◌, ◌%◌, ◌<◌, ◌≤◌, true, false, List, ◌∷◌, length, take, get_or, sym, subst, arith, length-take, inl, inr}
use Rattle.std.proofs.lemmas.List.{get_or-take}
use Rattle.std.proofs.lemmas.List.Elements.{All-take}
use Rattle.aff_model.specs.declared.extent.Extent.{Extent}
use Rattle.aff_model.specs.Cells.{sector_in}
use Rattle.aff_model.specs.Plan.{AreApart, has_place}
use Rattle.aff_model.proofs.Sectors.{IsSectored, IsSectorPlan}

-- the sector of a byte of an extent
pub sector_of_byte : (e : Extent) (k : ℕ) → e.at % 512 ≡ 0 → sector_in e (e.at + k) ≡ k / 512
sector_of_byte e k whole = omega (arith, whole)

-- a place of an extent, and a place of one that is apart
pub own_place : (e : Extent) (i : ℕ) → e.at ≤ i → i < e.at + e.len → has_place i e ≡ true
own_place e i from to = grind (arith, from, to)

pub other_place : (e f : Extent) (i : ℕ) → f.at ≤ i → i < f.at + f.len → AreApart e f → has_place i e ≡ false
other_place e f i from to (inl h) = grind (arith, from, to, h)
other_place e f i from to (inr h) = grind (arith, from, to, h)

-- the first byte of a sector of an extent lies in it
pub sector_from : (size : ℕ) (e : Extent) (s : ℕ) → IsSectored size e → e.at ≤ 512 * (e.at / 512 + s)
sector_from size e s is = omega (arith, is.at_whole)

pub sector_to : (size : ℕ) (e : Extent) (s : ℕ) → IsSectored size e → s < e.len / 512 → 512 * (e.at / 512 + s) < e.at + e.len
sector_to size e s is low = omega (arith, is.at_whole, is.len_whole, low)

-- the extents behind the first one of a plan are a plan
pub IsPlan-tail : (size : ℕ) (e : Extent) (extents : List Extent) → IsSectorPlan size (e ∷ extents) → IsSectorPlan size extents
IsPlan-tail size e extents plan = record {
  each = λ k d below. plan.each (suc k) d (omega (arith, below));
  few = omega (arith, plan.few);
  apart = λ i j d low below. plan.apart (suc i) (suc j) d (omega (arith, low)) (omega (arith, below));
}

-- some first extents of a plan are a plan
pub IsPlan-take : (size : ℕ) (extents : List Extent) (n : ℕ) → IsSectorPlan size extents → IsSectorPlan size (take n extents)
IsPlan-take size extents n plan = record {
  each = All-take (IsSectored size) n extents plan.each;
  few = omega (arith, plan.few, length-take n extents);
  apart = λ i j d low below.
      let high : j < n = omega (arith, below, length-take n extents) in
      let there : j < length extents = omega (arith, below, length-take n extents) in
      subst (λ v. AreApart v (get_or (take n extents) j d)) (sym (get_or-take n extents i d (omega (arith, low, high))))
      (subst (λ v. AreApart (get_or extents i d) v) (sym (get_or-take n extents j d high)) (plan.apart i j d low there));
}
