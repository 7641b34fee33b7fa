-- Marks of unreadable sectors.
use Rattle.std.proofs.Common.{◌≡◌, ℕ, ◌+◌, ◌<◌, ◌≤◌, Bool, true, false, List, [], ◌∷◌, ◌++◌, length, take, get_or, set, replicate, sym, ap, ◌∙◌, subst, arith, inl, inr, get_or-set_same, get_or-set_other, length-set}
use Rattle.std.specs.List.{Contains}
use Rattle.std.proofs.lemmas.Bool.{cases_eq}
use Rattle.std.proofs.lemmas.List.{get_or-replicate, length-replicate, take_more}
use Rattle.std.proofs.lemmas.List.Elements.{Contains-append_left, Contains-push, Contains-push_cases}
use Rattle.aff_chunk.specs.Cut.{AreMarks}

no_sector : (s : ℕ) → ¬ (Contains [] s)
no_sector s c = omega (arith, c.1)

unmarked : (n s : ℕ) → s < n → ¬ (get_or (replicate n false) s false ≡ true)
unmarked n s below marked = let same : get_or (replicate n false) s false ≡ false = get_or-replicate n s false false below in cc

pub AreMarks-none : (sectors : ℕ) → AreMarks [] sectors (replicate sectors false)
AreMarks-none sectors = record {
  count = length-replicate sectors false;
  marked = λ s below. (λ marked. absurd (unmarked sectors s below marked), λ c. absurd (no_sector s c));
}

-- a sector of the extent is marked
pub AreMarks-set : (bad : List ℕ) (x sectors : ℕ) (marks : List Bool) → AreMarks bad sectors marks → x < sectors → AreMarks (bad ++ x ∷ []) sectors (set marks x true)
AreMarks-set bad x sectors marks are below = record {
  count = length-set marks x true ∙ are.count;
  marked = λ s inside. elim (cases_eq s x) [
    | inl same ↦ (
      λ marked. subst (Contains (bad ++ x ∷ [])) (sym same) (Contains-push bad x),
      λ c. ap (λ k. get_or (set marks x true) k false) same ∙ get_or-set_same marks x true false (omega (arith, are.count)),
    )
    | inr other ↦
        let kept : get_or (set marks x true) s false ≡ get_or marks s false = get_or-set_other marks x s true false other in (
          λ marked. Contains-append_left bad (x ∷ []) s ((are.marked s inside).0 (sym kept ∙ marked)),
          λ c. elim (Contains-push_cases bad x s c) [
            | inl earlier ↦ kept ∙ (are.marked s inside).1 earlier
            | inr same ↦ absurd (other (sym same))
          ],
        )
  ];
}

-- a number past the extent marks nothing
pub AreMarks-past : (bad : List ℕ) (x sectors : ℕ) (marks : List Bool) → AreMarks bad sectors marks → sectors ≤ x → AreMarks (bad ++ x ∷ []) sectors marks
AreMarks-past bad x sectors marks are past = record {
  count = are.count;
  marked = λ s inside. (
    λ marked. Contains-append_left bad (x ∷ []) s ((are.marked s inside).0 marked),
    λ c. elim (Contains-push_cases bad x s c) [
      | inl earlier ↦ (are.marked s inside).1 earlier
      | inr same ↦ absurd (omega (arith, past, inside, same))
    ],
  );
}

-- one more number is looked at, inside the extent or past it
pub AreMarks-more : (bad : List ℕ) (i sectors n : ℕ) (marks : List Bool) → i < length bad → AreMarks (take i bad) sectors marks → n ≡ length marks → get_or bad i 0 < n → AreMarks (take (i + 1) bad) sectors (set marks (get_or bad i 0) true)
AreMarks-more bad i sectors n marks below are count inside =
    subst (λ (bs : List ℕ). AreMarks bs sectors (set marks (get_or bad i 0) true)) (sym (take_more bad i 0 below)) (AreMarks-set (take i bad) (get_or bad i 0) sectors marks are (omega (arith, inside, count, are.count)))

pub AreMarks-skip : (bad : List ℕ) (i sectors n : ℕ) (marks : List Bool) → i < length bad → AreMarks (take i bad) sectors marks → n ≡ length marks → n ≤ get_or bad i 0 → AreMarks (take (i + 1) bad) sectors marks
AreMarks-skip bad i sectors n marks below are count past =
    subst (λ (bs : List ℕ). AreMarks bs sectors marks) (sym (take_more bad i 0 below)) (AreMarks-past (take i bad) (get_or bad i 0) sectors marks are (omega (arith, past, count, are.count)))
