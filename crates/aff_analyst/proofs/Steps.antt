-- A range that is read part by part.
use Rattle.std.proofs.Common.{◌≡◌, ℕ, zero, suc, ◌+◌, ◌-◌, ◌/◌, ◌%◌, ◌<◌, ◌≤◌, inl, inr, Bool, List, [], ◌∷◌, ◌++◌, length, map, get_or, replicate, take, drop, refl, sym, ap, subst, ◌∙◌, arith, length-append, append-nil as append_nil}
use Rattle.std.specs.List.{range_with_len}
use Rattle.std.proofs.lemmas.Bool.Decides.{leb_tells}
use Rattle.std.proofs.Math.Seq.{take-append_seam}
use Rattle.std.proofs.lemmas.List.{append_assoc, get_or_append_left, get_or-append_right, length-map, length-replicate, same_lists, get_or-replicate}
use Rattle.std.proofs.lemmas.List.FromFn.{length-map-range_with_len, get_or-map-range_with_len}
use Rattle.aff_model.specs.declared.cell.Kind.{Kind}
use Rattle.aff_model.specs.declared.cell.Run.{Run}
use Rattle.aff_model.specs.Kinds.{AreGreatest, spread}
use Rattle.aff_analyst.specs.Reads.{HaveRoom, IsReadTo, sectors_in}

-- what a function gives over two ranges in a row
joined_at : {X : Type 0} (f : ℕ → X) (at n m k : ℕ) (d : X) → k < n + m → get_or (map f (range_with_len at n) ++ map f (range_with_len (at + n) m)) k d ≡ f (at + k)
joined_at f at n m k d b =
    let front = map f (range_with_len at n) in
    let l : length front ≡ n = length-map-range_with_len f at n in
    elim (leb_tells n k) [
      | inl x ↦ get_or-append_right front (map f (range_with_len (at + n) m)) n k d l x.1 ∙ get_or-map-range_with_len f (at + n) m (k - n) (at + k) d (omega (arith, x.1)) (omega (arith, x.1))
      | inr y ↦ get_or_append_left front (map f (range_with_len (at + n) m)) d k (omega (arith, y.1)) ∙ get_or-map-range_with_len f at n k (at + k) d (omega (arith, y.1)) refl
    ]

pub ranges_joined : {X : Type 0} (f : ℕ → X) (at n m : ℕ) → map f (range_with_len at (n + m)) ≡ map f (range_with_len at n) ++ map f (range_with_len (at + n) m)
ranges_joined f at n m =
    let front = map f (range_with_len at n) in
    let back = map f (range_with_len (at + n) m) in
    let a = length-map-range_with_len f at (n + m) in
    let b = length-map-range_with_len f at n in
    let c = length-map-range_with_len f (at + n) m in
    let d = length-append front back in
    same_lists _ _ (omega arith) (λ k e low. get_or-map-range_with_len f at (n + m) k (at + k) e (omega arith) refl ∙ sym (joined_at f at n m k e (omega arith)))

-- a function that has one value in a range
pub range_alike : {X : Type 0} (f : ℕ → X) (at n : ℕ) (x : X) → ((k : ℕ) → k < n → f (at + k) ≡ x) → map f (range_with_len at n) ≡ replicate n x
range_alike f at n x same =
    let a = length-map-range_with_len f at n in
    let b = length-replicate n x in
    same_lists _ _ (omega arith) (λ k d low. get_or-map-range_with_len f at n k (at + k) d (omega arith) refl ∙ same k (omega arith) ∙ sym (get_or-replicate n k x d (omega arith)))

-- two functions that agree in a range
pub range_same : {X : Type 0} (f g : ℕ → X) (at n : ℕ) → ((k : ℕ) → k < n → f (at + k) ≡ g (at + k)) → map f (range_with_len at n) ≡ map g (range_with_len at n)
range_same f g at n same =
    let a = length-map-range_with_len f at n in
    let b = length-map-range_with_len g at n in
    same_lists _ _ (omega arith) (λ k d low. get_or-map-range_with_len f at n k (at + k) d (omega arith) refl ∙ same k (omega arith) ∙ sym (get_or-map-range_with_len g at n k (at + k) d (omega arith) refl))

few_more : (at n m a b c : ℕ) → (n ≡ 0 → b ≤ a) → (0 < n → (at + n) % 512 ≡ 0) → b ≤ a + sectors_in at n → c ≤ b + sectors_in (at + n) m → c ≤ a + sectors_in at (n + m)
few_more at zero m a b c start met f g = let s = start refl in omega (arith, s, g)
few_more at (suc n) m a b c start met f g = let w = met (omega arith) in omega (arith, w, f, g)

-- one part more
pub read_more : (kind : ℕ → Kind) (shown : ℕ → ℕ → Type 0) (at n : ℕ) (xs ys : List ℕ) (r0 r1 r2 : List Run)
    → length xs ≡ n → (n ≡ 0 → r1 ≡ r0) → (0 < n → (at + n) % 512 ≡ 0)
    → IsReadTo kind shown at xs r0 r1 → IsReadTo kind shown (at + n) ys r1 r2 → IsReadTo kind shown at (xs ++ ys) r0 r2
read_more kind shown at n xs ys r0 r1 r2 is start met had more =
    let all : length (xs ++ ys) ≡ n + length ys = length-append xs ys ∙ ap (λ k. k + length ys) is in
    let F : ℕ → List Kind = λ k. map kind (range_with_len at k) in
    let B : List Kind = map kind (range_with_len (at + n) (length ys)) in
    record {
      kinds = more.kinds ∙ ap (λ l. l ++ B) had.kinds ∙ append_assoc (spread r0) (F (length xs)) B ∙ ap (λ k. spread r0 ++ (F k ++ B)) is ∙ ap (λ l. spread r0 ++ l) (sym (ranges_joined kind at n (length ys))) ∙ ap (λ k. spread r0 ++ F k) (sym all);
      greatest = more.greatest;
      few = (let f : length r1 ≤ length r0 + sectors_in at n = subst (λ k. length r1 ≤ length r0 + sectors_in at k) is had.few in
          let w = few_more at n (length ys) (length r0) (length r1) (length r2) (λ z. let e : length r1 ≡ length r0 = ap length (start z) in omega (arith, e)) met f more.few in
          subst (λ k. length r2 ≤ length r0 + sectors_in at k) (sym all) w);
      each = λ k low. elim (leb_tells n k) [
        | inl x ↦ (
            let within : k - n < length ys = omega (arith, x.1, low, all) in
            let at_k : at + n + (k - n) ≡ at + k = omega (arith, x.1) in
            let byte : get_or ys (k - n) 0 ≡ get_or (xs ++ ys) k 0 = sym (get_or-append_right xs ys n k 0 is x.1) in
            let one : shown (at + k) (get_or ys (k - n) 0) = subst (λ i. shown i (get_or ys (k - n) 0)) at_k (more.each (k - n) within) in
            subst (λ v. shown (at + k) v) byte one)
        | inr y ↦ (
            let before : k < length xs = omega (arith, y.1, is) in
            subst (λ v. shown (at + k) v) (sym (get_or_append_left xs ys 0 k before)) (had.each k before))
      ];
    }

-- nothing was read yet
pub read_none : (kind : ℕ → Kind) (shown : ℕ → ℕ → Type 0) (at : ℕ) (runs : List Run) → AreGreatest runs → IsReadTo kind shown at [] runs runs
read_none kind shown at runs g = record {
  kinds = sym (append_nil (spread runs));
  greatest = g;
  few = omega arith;
  each = λ k low. absurd (omega (arith, low));
}

room_few : (at n m a b : ℕ) → (n ≡ 0 → b ≤ a) → (0 < n → (at + n) % 512 ≡ 0) → b ≤ a + sectors_in at n → a + sectors_in at (n + m) ≤ 2050 → b + sectors_in (at + n) m ≤ 2050
room_few at zero m a b start met f g = let s = start refl in omega (arith, s, g)
room_few at (suc n) m a b start met f g = let w = met (omega arith) in omega (arith, w, f, g)

-- there is room for the rest
pub room_more : (kind : ℕ → Kind) (shown : ℕ → ℕ → Type 0) (at n m len : ℕ) (xs : List ℕ) (r0 r1 : List Run)
    → length xs ≡ n → n + m ≡ len → (n ≡ 0 → r1 ≡ r0) → (0 < n → (at + n) % 512 ≡ 0)
    → HaveRoom at len r0 → IsReadTo kind shown at xs r0 r1 → HaveRoom (at + n) m r1
room_more kind shown at n m len xs r0 r1 is sum start met room had =
    let f : length r1 ≤ length r0 + sectors_in at n = subst (λ k. length r1 ≤ length r0 + sectors_in at k) is had.few in
    let g : length r0 + sectors_in at (n + m) ≤ 2050 = subst (λ k. length r0 + sectors_in at k ≤ 2050) (sym sum) room.few in
    let l : length (spread r1) ≡ length (spread r0) + n = ap length had.kinds ∙ length-append (spread r0) (map kind (range_with_len at (length xs))) ∙ ap (λ k. length (spread r0) + k) (length-map-range_with_len kind at (length xs) ∙ is) in
    record {
      greatest = had.greatest;
      few = room_few at n m (length r0) (length r1) (λ z. let e : length r1 ≡ length r0 = ap length (start z) in omega (arith, e)) met f g;
      short = omega (arith, l, sum, room.short);
    }

-- the same part by another kind and another meaning of its bytes, which agree there
pub read_as : (kind other : ℕ → Kind) (shown meant : ℕ → ℕ → Type 0) (at : ℕ) (xs : List ℕ) (r0 r1 : List Run)
    → ((k : ℕ) → k < length xs → kind (at + k) ≡ other (at + k)) → ((k v : ℕ) → k < length xs → shown (at + k) v → meant (at + k) v)
    → IsReadTo kind shown at xs r0 r1 → IsReadTo other meant at xs r0 r1
read_as kind other shown meant at xs r0 r1 same means had = record {
  kinds = had.kinds ∙ ap (λ l. spread r0 ++ l) (range_same kind other at (length xs) same);
  greatest = had.greatest;
  few = had.few;
  each = λ k low. means k (get_or xs k 0) low (had.each k low);
}

-- a part of one kind, whose run was added
pub read_one : (kind : ℕ → Kind) (shown : ℕ → ℕ → Type 0) (at len : ℕ) (x : Kind) (xs : List ℕ) (r0 r1 : List Run)
    → length xs ≡ len → 0 < len → ((k : ℕ) → k < len → kind (at + k) ≡ x) → ((k : ℕ) → k < len → shown (at + k) (get_or xs k 0))
    → spread r1 ≡ spread r0 ++ replicate len x → AreGreatest r1 → length r1 ≤ length r0 + 1 → IsReadTo kind shown at xs r0 r1
read_one kind shown at len x xs r0 r1 is some kinds bytes grown greatest few = record {
  kinds = grown ∙ ap (λ l. spread r0 ++ l) (sym (range_alike kind at len x kinds)) ∙ ap (λ k. spread r0 ++ map kind (range_with_len at k)) (sym is);
  greatest = greatest;
  few = subst (λ k. length r1 ≤ length r0 + sectors_in at k) (sym is) (omega (arith, some, few));
  each = λ k low. bytes k (omega (arith, low, is));
}

-- a first part of a list that was written at its front
pub take_front : {X : Type 0} (n : ℕ) (xs ys zs : List X) → length xs ≡ n → zs ≡ xs ++ ys → take n zs ≡ xs
take_front n xs ys zs is split = ap (take n) split ∙ ap (λ k. take k (xs ++ ys)) (sym is) ∙ take-append_seam xs ys

-- there is room for less
pub room_less : (at m len : ℕ) (runs : List Run) → m ≤ len → HaveRoom at len runs → HaveRoom at m runs
room_less at m len runs less room = record {
  greatest = room.greatest;
  few = omega (arith, less, room.few);
  short = omega (arith, less, room.short);
}
