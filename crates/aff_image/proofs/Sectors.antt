-- Which sectors of a device were not read, by the extent that has them.
use Rattle.std.proofs.Common.{◌≡◌, ℕ, ◌+◌, ◌-◌, ◌/◌, ◌<◌, ◌≤◌, Bool, true, false, ◌==◌, ◌||◌, List, [], ◌∷◌, get_or, refl, sym, ◌∙◌, arith}
use Rattle.std.specs.Prelude.{All, Contains}
use Rattle.std.specs.List.{list_any}
use Rattle.std.proofs.lemmas.List.Folds.{list_any_none, list_any_at}
use Rattle.aff_model.specs.declared.extent.Extent.{Extent}
use Rattle.aff_model.specs.Plan.{has_place}
use Rattle.aff_model.specs.Cells.{sector_in}
use Rattle.aff_model.proofs.Find.{has_place-inside}
use Rattle.aff_model.proofs.Sectors.{IsSectored}

-- the sector of the place is marked in the list of an extent, numbered over the device
abbrev pub is_marked : Extent → List ℕ → ℕ → Bool
is_marked e bad s = list_any (λ k. e.at / 512 + k == s) bad

-- a place outside an extent of whole sectors is in none of its sectors
not_of : (size i k : ℕ) (e : Extent) → IsSectored size e → k < e.len / 512 → has_place i e ≡ false → (e.at / 512 + k == i / 512) ≡ false
not_of size i k e is below out =
    elim (e.at / 512 + k == i / 512) as (λ t. (e.at / 512 + k == i / 512) ≡ t → t ≡ false) [
      | true ↦ λ h. within (grind (arith, h))
      | false ↦ λ h. refl
    ] refl
  where
    within : e.at / 512 + k ≡ i / 512 → true ≡ false
    within h = sym (has_place-inside e i (omega (arith, h, is.at_whole)) (omega (arith, h, below, is.at_whole, is.len_whole))) ∙ out

-- so none of its sectors is that of the place
pub not_marked : (size i : ℕ) (e : Extent) (bad : List ℕ) → IsSectored size e → All (λ s. s < e.len / 512) bad → has_place i e ≡ false → is_marked e bad (i / 512) ≡ false
not_marked size i e bad is inside out = list_any_none (λ k. e.at / 512 + k == i / 512) bad (λ n d below. not_of size i (get_or bad n d) e is (inside n d below) out)

-- the sector of a place behind an extent's start, over the device and in the extent
same_sector : (a k s : ℕ) → a ≤ s → (a + k == s) ≡ (k == s - a)
same_sector a k s low = grind (arith, low)

-- both are marked alike
pub marked_alike : (e : Extent) (bad : List ℕ) (i : ℕ) → e.at ≤ i → is_marked e bad (i / 512) ≡ list_any (λ s. s == sector_in e i) bad
marked_alike e [] i low = refl
marked_alike e (b ∷ bad) i low =
    let low_sector : e.at / 512 ≤ i / 512 = omega (arith, low) in
    let one : (e.at / 512 + b == i / 512) ≡ (b == sector_in e i) = same_sector (e.at / 512) b (i / 512) low_sector in
    λ n. one n || marked_alike e bad i low n

-- a sector that is not marked is not in the list
pub not_in : (bad : List ℕ) (s : ℕ) → list_any (λ k. k == s) bad ≡ false → ¬ (Contains bad s)
not_in bad s none c =
    let found : list_any (λ k. k == s) bad ≡ true = list_any_at (λ k. k == s) bad c.0 s c.1 (grind (arith, c.2)) in
    cc (none, found)
