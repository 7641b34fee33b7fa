-- A list into which a part was put.
use Rattle.std.proofs.Common.{◌≡◌, ℕ, ◌+◌, ◌≤◌, List, ◌++◌, length, take, get_or, sym, ap, ◌∙◌, arith, length-take}
use Rattle.std.proofs.Math.Seq.{take-append-add}
use Rattle.std.proofs.lemmas.List.{get_or-drop, take-append-le}
use Rattle.std.proofs.lemmas.Slice.{drop-put_mid}
use borrow.Rule.Slice.PartMut.{post_of, put_mid}

-- the front of the list, and the front of the part
pub take_more_put : {X : Type 0} (a k n : ℕ) (xs ys : List X) → a ≤ length xs → n ≤ length ys → take (a + n) (put_mid a k xs ys) ≡ take a xs ++ take n ys
take_more_put a k n xs ys low few =
    let front = take a xs in
    let sum : a + n ≡ length front + n = omega (arith, length-take a xs, low) in
    ap (λ m. take m (put_mid a k xs ys)) sum ∙ take-append-add front (ys ++ post_of a k xs) n ∙ ap (λ l. front ++ l) (take-append-le n ys (post_of a k xs) few)

-- what is behind the part stays
pub after_put : {X : Type 0} (a k j : ℕ) (xs ys : List X) (d : X) → a + k ≤ j → a ≤ length xs → length ys ≡ k → get_or (put_mid a k xs ys) j d ≡ get_or xs j d
after_put a k j xs ys d past low is =
    let sum : j + 0 ≡ j = omega arith in
    ap (λ n. get_or (put_mid a k xs ys) n d) (sym sum) ∙ sym (get_or-drop j (put_mid a k xs ys) 0 d) ∙ ap (λ l. get_or l 0 d) (drop-put_mid a k xs ys j past low is) ∙ get_or-drop j xs 0 d ∙ ap (λ n. get_or xs n d) sum
