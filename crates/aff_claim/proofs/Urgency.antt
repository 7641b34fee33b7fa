-- What a pass knows of the extents by falling priority.
use Rattle.std.proofs.Common.{◌≡◌, ℕ, ◌<◌, ◌≤◌, List, length, get_or, sym, ap, ◌∙◌, subst, arith, All, Contains, slice_index, slice_index_or, Fits, w8, ◌-◌}
use Rattle.std.specs.List.Sorted.{IsNonDecreasingBy}
use mathlib.Core.Logic.{dite}
use native.Mathlib.Decide.{dec_le}
use Rattle.std.specs.List.{range_with_len}
use Rattle.std.proofs.lemmas.Grind.{get_or_default_zero}
use Rattle.std.proofs.lemmas.List.Elements.{All-from_get_or, All-get_or, Contains-get_or}
use Rattle.std.proofs.lemmas.List.FromFn.{get_or-range_with_len, length-range_with_len}
use Rattle.std.proofs.lemmas.List.Sorted.{All-permutation, Contains-permutation, length_permutation}
use Rattle.aff_claim.specs.declared.view.PassView.{PassView}
use Rattle.aff_claim.specs.Next.{AreUrgentIn, KnowsAll}
use Rattle.aff_claim.specs.Ranking.{Ranked, IsRanking}

module _ (r : Ranked) (ok : IsRanking r) where
  abbrev n : ℕ
  n = length r.priorities

  pub as_many : length r.falling ≡ length r.priorities
  as_many = length_permutation (range_with_len 0 n) r.falling ok.numbers ∙ length-range_with_len 0 n

  -- an extent stands at some place
  pub place_of : (e : ℕ) → e < n → (i : ℕ) × (i < length r.falling) × (slice_index r.falling i ≡ e)
  place_of e l =
      let at : get_or (range_with_len 0 n) e 0 ≡ e = let h = get_or-range_with_len 0 n e 0 l in omega arith in
      let within : e < length (range_with_len 0 n) = omega (arith, length-range_with_len 0 n) in
      let c = Contains-permutation (range_with_len 0 n) r.falling e ok.numbers (subst (λ x. Contains (range_with_len 0 n) x) at (Contains-get_or (range_with_len 0 n) e 0 within)) in
      (c.0, c.1, sym (get_or_default_zero r.falling c.0 e c.1) ∙ c.2)

  -- what stands at a place is an extent
  pub planned_at : (i : ℕ) → i < length r.falling → slice_index r.falling i < n
  planned_at i l =
      let numbers : All (λ e. e < n) (range_with_len 0 n) = All-from_get_or (λ e. e < n) (range_with_len 0 n) 0 (λ k m.
      let short : k < n = omega (arith, length-range_with_len 0 n) in let at = get_or-range_with_len 0 n k 0 short in omega arith) in
      All-get_or (λ e. e < n) r.falling i 0 l (All-permutation (λ e. e < n) (range_with_len 0 n) r.falling ok.numbers numbers)

  -- a pass knows each extent that is more urgent than those behind the ones that it knows
  pub urgent_known : (known : List ℕ) (front e : ℕ) → ((i : ℕ) → i < front → Contains known (slice_index r.falling i))
      → (front < length r.falling → slice_index r.priorities (slice_index r.falling front) ≤ slice_index r.priorities e) → AreUrgentIn r.priorities e known
  urgent_known known front e behind least f l more =
      let at = place_of f l in
      let i = at.0 in
      let within = at.1 in
      dite (dec_le front i)
      (λ (le : front ≤ i).
      let low = ok.falls front i le within in
      let first = least (omega arith) in
      let same : slice_index r.priorities (slice_index r.falling i) ≡ slice_index r.priorities f = ap (λ x. slice_index r.priorities x) at.2 in
      absurd (omega arith))
      (λ before. subst (λ x. Contains known x) at.2 (behind i (omega arith)))

  pub knows_all : (p : PassView) → ((i : ℕ) → i < length r.falling → Contains p.known (slice_index r.falling i)) → KnowsAll n p
  knows_all p behind e l = let at = place_of e l in subst (λ x. Contains p.known x) at.2 (behind at.0 at.1)

-- the order by falling priority, where that by the rest up to the greatest rises
pub falls_by_key : (priorities order : List ℕ) → ((e : ℕ) → Fits w8 (slice_index_or priorities e 0)) → IsNonDecreasingBy (λ e. 255 - slice_index priorities e) order
    → (i j : ℕ) → i ≤ j → j < length order → slice_index priorities (slice_index order j) ≤ slice_index priorities (slice_index order i)
falls_by_key priorities order small rises i j le l =
    let at = rises i j 0 le l in
    let low = fits_small (slice_index priorities (slice_index order i)) (small (slice_index order i)) in
    let high = fits_small (slice_index priorities (slice_index order j)) (small (slice_index order j)) in
    omega arith
  where
    fits_small : (x : ℕ) → Fits w8 x → x < 256
    fits_small x fits = omega arith
