-- The exchange that adds a name keeps the rule of the log.
use Rattle.std.proofs.Common.{◌≡◌, ℕ, ◌+◌, ◌<◌, ◌==◌, Bool, true, false, List, [], ◌∷◌, ◌++◌, length, map, nat_eq, refl, ap, sym, subst, arith, inl, length-append, None}
use Rattle.std.proofs.lemmas.List.{append-nil, map-append}
use Rattle.std.proofs.lemmas.Bool.Decides.{nat_tests}
use Rattle.std.specs.List.{IsDistinct}
use mathlib.Core.List.{IsPrefix}
use prog.Atomic.{either}
use Rattle.logbook.specs.Pages.{Cell, cell, keeps, no_nib, step, Moves, Goes}
use Rattle.aff_snapshot.specs.Codes.{Name}
use Rattle.aff_snapshot.specs.Log.{Adds, AreOnce, IsFirst, IsLog}
use Rattle.aff_snapshot.proofs.Beginnings.{prefix_whole}
use Rattle.aff_snapshot.proofs.Once.{once_push}

names_push : (names : List Name) (n : Name) → AreOnce names → IsFirst names n → AreOnce (names ++ n ∷ [])
names_push names n once first =
    let extent : Name → ℕ = λ m. m.extent in
    subst (IsDistinct nat_eq) (sym (map-append extent names (n ∷ []))) (once_push (map extent names) n.extent once first)

-- what the log's clients see and keep beside it: nothing
abbrev shown : List Name → List Name
shown names = []

abbrev moved : List Name → List Name → ℕ → Type 0
moved before after answer = Unit {0}

goes : (names seen : List Name) (n : Name) (old : ℕ) → length seen ≡ old → IsFirst seen n → AreOnce names → IsPrefix seen names
    → (b : Bool) → (length names == old) ≡ b
    → Goes IsLog shown moved 0 (seen, (no_nib, None)) (λ k. either (k == old) (old + 1) k) (Adds (step 0 old (old + 1) n) (seen, (no_nib, None))) ((length names, true) ∷ (0, true) ∷ []) names
goes names seen n old len first once pre true is =
    let here : length names ≡ old = grind (arith, nat_tests) in
    let same : seen ≡ names = prefix_whole seen names pre (omega arith) in
    let more : AreOnce (names ++ n ∷ []) = names_push names n once (subst (λ l. IsFirst l n) same first) in
    let count : either (length names == old) (old + 1) (length names) ≡ length (names ++ n ∷ []) = rw is (omega (arith, length-append names (n ∷ []))) in (
      keeps,
      n ∷ [],
      None,
      tt,
      record { words = ap (λ (k : ℕ). (k, true) ∷ (0, true) ∷ []) count; once = more },
      inl (refl, refl),
      rw is (ap (λ w. w ++ n ∷ []) (sym same), more),
    )
goes names seen n old len first once pre false is =
    let all : names ++ [] ≡ names = append-nil names in
    let still : AreOnce (names ++ []) = subst AreOnce (sym all) once in
    let count : either (length names == old) (old + 1) (length names) ≡ length (names ++ []) = rw is (ap length (sym all)) in (
      keeps,
      [],
      None,
      tt,
      record { words = ap (λ (k : ℕ). (k, true) ∷ (0, true) ∷ []) count; once = still },
      inl (refl, refl),
      rw is (ap length all, still),
    )

-- whatever the log is, the exchange puts the name behind all that was seen, or finds that the log is longer
pub adds : (seen : List Name) (n : Name) (old : ℕ) → length seen ≡ old → IsFirst seen n
    → Moves IsLog shown moved 0 (seen, (no_nib, None)) (λ k. either (k == old) (old + 1) k) (Adds (step 0 old (old + 1) n) (seen, (no_nib, None)))
adds seen n old len first cells names kept pre away =
    let P : List Cell → Type 0 = λ cs. (0 < length cs) × ((cell cs 0).1 ≡ true) × Goes IsLog shown moved 0 (seen, (no_nib, None)) (λ k. either (k == old) (old + 1) k) (Adds (step 0 old (old + 1) n) (seen, (no_nib, None))) cs names in
    subst P (sym kept.words) (omega arith, refl, goes names seen n old len first kept.once pre (length names == old) refl)

-- a list one longer than its beginning ys, whose last element is x
pub next_is : {A : Type 0} (ys zs : List A) (x : A) → ((before : List A) × (zs ≡ before ++ x ∷ [])) → length zs ≡ length ys + 1 → IsPrefix ys zs → zs ≡ ys ++ x ∷ []
next_is [] [] x b len pre = absurd (omega arith)
next_is [] (z ∷ []) x b len pre = only z x b.0 b.1
  where
    only : {A : Type 0} (z x : A) (before : List A) → z ∷ [] ≡ before ++ x ∷ [] → z ∷ [] ≡ x ∷ []
    only z x [] e = e
    only z x (b ∷ []) e = absurd (cc (e))
    only z x (b ∷ (c ∷ bs)) e = absurd (cc (e))
next_is [] (z ∷ (w ∷ zs)) x b len pre = absurd (omega arith)
next_is (y ∷ ys) [] x b len pre = absurd (omega arith)
next_is (y ∷ ys) (z ∷ zs) x b len pre =
    let head : y ≡ z = cc (pre.1) in
    let rest = next_is ys zs x (shorter z zs x b.0 b.1 (omega arith)) (omega arith) (pre.0, cc (pre.1)) in
    cc (head, rest)
  where
    shorter : {A : Type 0} (z : A) (zs : List A) (x : A) (before : List A) → z ∷ zs ≡ before ++ x ∷ [] → 0 < length zs → (rest : List A) × (zs ≡ rest ++ x ∷ [])
    shorter z zs x [] e some = let same : zs ≡ [] = cc (e) in let none : length zs ≡ 0 = ap length same in absurd (omega arith)
    shorter z zs x (b ∷ bs) e some = (bs, cc (e))
