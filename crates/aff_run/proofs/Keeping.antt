-- Devices that are kept.
use Rattle.std.proofs.Common.{◌≡◌, ℕ, zero, suc, ◌<◌, ◌≤◌, List, [], ◌∷◌, length, get_or, refl, sym, subst, ◌∙◌, arith}
use Rattle.std.specs.Prelude.{Option, Some, IfSome, All}
use Rattle.aff_model.specs.Content.{Content}
use Rattle.aff_model.specs.Plan.{Planned}
use Rattle.aff_outside.specs.Kept.{IsSameDevice}
use Rattle.aff_run.specs.Devices.{AreKept, Fits}

-- two lists are related element by element
abbrev pub Along : {D : Type 0} → (D → D → Type 0) → List D → List D → Type 0
Along kept [] [] = Unit {0}
Along kept [] (y ∷ ys) = ⊥
Along kept (x ∷ xs) [] = ⊥
Along kept (x ∷ xs) (y ∷ ys) = kept x y × Along kept xs ys

pub along_count : {D : Type 0} (kept : D → D → Type 0) (xs ys : List D) → Along kept xs ys → length ys ≡ length xs
along_count kept [] [] all = refl
along_count kept [] (y ∷ ys) all = absurd all
along_count kept (x ∷ xs) [] all = absurd all
along_count kept (x ∷ xs) (y ∷ ys) all = let rest = along_count kept xs ys all.1 in omega (arith, rest)

pub along_at : {D : Type 0} (kept : D → D → Type 0) (xs ys : List D) → Along kept xs ys → (k : ℕ) (d : D) → k < length xs → kept (get_or xs k d) (get_or ys k d)
along_at kept [] [] all k d below = absurd (omega arith)
along_at kept [] (y ∷ ys) all k d below = absurd all
along_at kept (x ∷ xs) [] all k d below = absurd all
along_at kept (x ∷ xs) (y ∷ ys) all zero d below = all.0
along_at kept (x ∷ xs) (y ∷ ys) all (suc k) d below = along_at kept xs ys all.1 k d (omega arith)

module _ {D : Type 0} (content : D → Option Content) (block size faults : D → ℕ) where
  -- a device that is kept twice is kept
  both : (x y z : D) → IsSameDevice content block size faults x y → IsSameDevice content block size faults y z → IsSameDevice content block size faults x z
  both x y z first second = record {
    holds = second.holds ∙ first.holds;
    blocks = second.blocks ∙ first.blocks;
    sized = second.sized ∙ first.sized;
    later = omega (arith, first.later, second.later);
  }

  same : (x : D) → IsSameDevice content block size faults x x
  same x = record { holds = refl; blocks = refl; sized = refl; later = omega arith }

  pub kept_same : (xs : List D) → AreKept content block size faults xs xs
  kept_same xs = record { count = refl; each = λ k d below. same (get_or xs k d) }

  pub kept_along : (xs ys : List D) → Along (λ d e. IsSameDevice content block size faults d e) xs ys → AreKept content block size faults xs ys
  kept_along xs ys all = record { count = along_count _ xs ys all; each = along_at _ xs ys all }

  pub kept_both : (xs ys zs : List D) → AreKept content block size faults xs ys → AreKept content block size faults ys zs → AreKept content block size faults xs zs
  kept_both xs ys zs first second = record {
    count = second.count ∙ first.count;
    each = λ k d below. both _ _ _ (first.each k d below) (second.each k d (omega (arith, first.count, below)));
  }

  -- and so are devices of which the first is
  pub kept_first : (x y : D) (xs : List D) → IsSameDevice content block size faults x y → AreKept content block size faults (x ∷ xs) (y ∷ xs)
  kept_first x y xs one = kept_along (x ∷ xs) (y ∷ xs) (one, along_same xs)
    where
      along_same : (xs : List D) → Along (λ d e. IsSameDevice content block size faults d e) xs xs
      along_same [] = tt
      along_same (x ∷ xs) = (same x, along_same xs)

  -- kept devices fit as before
  pub kept_fit : (case : Option Content) (plan : Planned) (xs ys : List D) → AreKept content block size faults xs ys → All (λ d. Fits case plan content block size d) xs → All (λ d. Fits case plan content block size d) ys
  kept_fit case plan xs ys kept all k d below =
      let here : k < length xs = omega (arith, kept.count, below) in
      let one = all k d here in
      let is = kept.each k d here in
      record {
        is_size = is.sized ∙ one.is_size;
        is_block = is.blocks ∙ one.is_block;
        told = subst (λ x. IfSome case (λ c. x ≡ Some c)) (sym is.holds) one.told;
      }

  -- and so do the same ones
  pub same_fit : (case : Option Content) (plan : Planned) (xs ys : List D) → ys ≡ xs → All (λ d. Fits case plan content block size d) xs → All (λ d. Fits case plan content block size d) ys
  same_fit case plan xs ys is all = subst (All (λ d. Fits case plan content block size d)) (sym is) all
