-- A part of joined appends, copied one by one.
use Rattle.std.proofs.Common.{◌≡◌, ℕ, zero, suc, ◌+◌, ◌-◌, ◌<◌, ◌≤◌, List, [], ◌∷◌, ◌++◌, length, take, drop, refl, sym, ap, ◌∙◌, arith, length-append, length-take, length-take-le, length-drop, append_assoc, add-one, take-suc, get_or}
use Rattle.std.proofs.lemmas.List.{take_all, drop_all, take_at, append-nil}
use Rattle.std.proofs.lemmas.List.Folds.{concat-append}
use Rattle.std.proofs.lemmas.Slice.{take-put_mid}
use Rattle.std.specs.List.{concat}
use borrow.Rule.Slice.PartMut.{mid_of, put_mid, same_len_mid, mid_len}

pub concat_push : (appends : List (List ℕ)) (shared : List ℕ) → concat (appends ++ shared ∷ []) ≡ concat appends ++ shared
concat_push appends shared = concat-append appends (shared ∷ []) ∙ ap (λ v. concat appends ++ v) (append-nil shared)

pub grown_len : (old new : List (List ℕ)) (shared : List ℕ) (len sum : ℕ) → len ≡ length (concat old) → new ≡ old ++ shared ∷ [] → sum ≡ len + length shared → sum ≡ length (concat new)
grown_len old new shared len sum is more e =
    let l : length (concat new) ≡ length (concat old) + length shared = ap (λ v. length (concat v)) more ∙ ap length (concat_push old shared) ∙ length-append (concat old) shared in
    omega arith

pub concat_more : (appends : List (List ℕ)) (i : ℕ) (shared : List ℕ) → i < length appends → shared ≡ get_or appends i shared → concat (take (i + 1) appends) ≡ concat (take i appends) ++ shared
concat_more appends i shared h is =
    ap concat (ap (λ k. take k appends) (add-one i) ∙ take-suc appends i shared h ∙ ap (λ b. take i appends ++ b ∷ []) (sym is)) ∙ concat_push (take i appends) shared

-- so many bytes of those from an offset on are at the front of the room, and so many are still to be passed over
pub record IsCopied (all : List ℕ) (at : ℕ) (room out : List ℕ) (filled skip : ℕ) : Type 0 where
  pub left : skip ≡ at - length all
  pub count : filled ≡ length (take (length room) (drop at all))
  pub bytes : take filled out ≡ take (length room) (drop at all)
  pub len : length out ≡ length room
  pub inside : filled ≤ length out

drop_joined : (xs ys : List ℕ) (n : ℕ) → drop n (xs ++ ys) ≡ drop n xs ++ drop (n - length xs) ys
drop_joined [] ys n = let e : n - 0 ≡ n = omega arith in sym (ap (λ v. v ++ drop (n - 0) ys) (drop_all n [] (omega arith)) ∙ ap (λ k. drop k ys) e)
drop_joined (x ∷ xs) ys zero = let e : 0 - length (x ∷ xs) ≡ 0 = omega arith in sym (ap (λ k. (x ∷ xs) ++ drop k ys) e)
drop_joined (x ∷ xs) ys (suc n) = let e : suc n - length (x ∷ xs) ≡ n - length xs = omega arith in drop_joined xs ys n ∙ ap (λ k. drop n xs ++ drop k ys) (sym e)

take_joined : (xs ys : List ℕ) (n : ℕ) → take n (xs ++ ys) ≡ take n xs ++ take (n - length xs) ys
take_joined [] ys n = let e : n - 0 ≡ n = omega arith in sym (ap (λ v. v ++ take (n - 0) ys) (take_all n [] (omega arith)) ∙ ap (λ k. take k ys) e)
take_joined (x ∷ xs) ys zero = let e : 0 - length (x ∷ xs) ≡ 0 = omega arith in sym (ap (λ k. take k ys) e)
take_joined (x ∷ xs) ys (suc n) = let e : suc n - length (x ∷ xs) ≡ n - length xs = omega arith in ap (λ v. x ∷ v) (take_joined xs ys n ∙ ap (λ k. take n xs ++ take k ys) (sym e))

pub copied_none : (at : ℕ) (room : List ℕ) → IsCopied [] at room room 0 at
copied_none at room =
    let none : take (length room) (drop at []) ≡ [] = ap (take (length room)) (drop_all at [] (omega arith)) ∙ take_all (length room) [] (omega arith) in
    record { left = omega arith; count = sym (ap length none); bytes = sym none; len = refl; inside = omega arith }

pub copied_more : (all shared : List ℕ) (at : ℕ) (room out mid now : List ℕ) (filled skip count left : ℕ) → IsCopied all at room out filled skip
    → mid ≡ mid_of filled (length out - filled) out → count ≡ length (take (length mid) (drop skip shared)) → now ≡ take (length mid) (drop skip shared) ++ drop count mid → left ≡ skip - length shared
    → IsCopied (all ++ shared) at room (put_mid filled (length out - filled) out now) (filled + count) left
copied_more all shared at room out mid now filled skip count left copied mid_is count_is now_is left_is =
    let part : List ℕ = take (length mid) (drop skip shared) in
    let few : count ≤ length mid = omega (arith, count_is, length-take (length mid) (drop skip shared)) in
    let now_len : length now ≡ length mid = ap length now_is ∙ length-append part (drop count mid) ∙ omega (arith, count_is, few, length-drop count mid) in
    let mid_count : length mid ≡ length out - filled = ap length mid_is ∙ mid_len filled (length out) out (omega arith) in
    let len : length (put_mid filled (length out - filled) out now) ≡ length out = same_len_mid filled (length out - filled) out now (now_len ∙ ap length mid_is) in
    let front : length (take filled out) ≡ filled = length-take-le filled out copied.inside in
    let whole : put_mid filled (length out - filled) out now ≡ take filled out ++ now =
    sym (take_all (filled + length now) _ (omega (arith, len, now_len, mid_count, copied.inside))) ∙ take-put_mid filled (length out - filled) out now (filled + length now) refl copied.inside in
    let both : take (filled + count) (put_mid filled (length out - filled) out now) ≡ take filled out ++ part =
    ap (take (filled + count)) (whole ∙ ap (λ v. take filled out ++ v) now_is ∙ sym (append_assoc (take filled out) part (drop count mid)))
    ∙ take_at (take filled out ++ part) (drop count mid) (filled + count) (length-append (take filled out) part ∙ omega (arith, front, count_is)) in
    let rest : length mid ≡ length room - length (drop at all) = omega (arith, mid_count, copied.len, copied.count, length-take (length room) (drop at all)) in
    let want : take (length room) (drop at (all ++ shared)) ≡ take filled out ++ part =
    ap (take (length room)) (drop_joined all shared at) ∙ take_joined (drop at all) (drop (at - length all) shared) (length room)
    ∙ ap (λ v. v ++ take (length room - length (drop at all)) (drop (at - length all) shared)) (sym copied.bytes)
    ∙ ap (λ k. take filled out ++ take k (drop (at - length all) shared)) (sym rest) ∙ ap (λ k. take filled out ++ take (length mid) (drop k shared)) (sym copied.left) in
    record {
      left = left_is ∙ omega (arith, copied.left, length-append all shared);
      count = sym (ap length want ∙ length-append (take filled out) part ∙ omega (arith, front, count_is));
      bytes = both ∙ sym want;
      len = len ∙ copied.len;
      inside = omega (arith, len, few, mid_count, copied.inside);
    }

pub copied_all : (all : List ℕ) (at : ℕ) (room out : List ℕ) (filled skip : ℕ) → IsCopied all at room out filled skip → at + length room ≤ length all → out ≡ take (length room) (drop at all)
copied_all all at room out filled skip copied h =
    let full : length out ≤ filled = omega (arith, copied.count, copied.len, length-take (length room) (drop at all), length-drop at all) in
    sym (take_all filled out full) ∙ copied.bytes
