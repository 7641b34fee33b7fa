-- Bytes that are gathered in a room behind those that a hasher was fed.
use Rattle.std.proofs.Common.{◌≡◌, ℕ, ◌+◌, ◌<◌, ◌≤◌, List, ◌++◌, length, take, sym, ap, ◌∙◌, arith, length-append, append_assoc}
use Rattle.std.proofs.lemmas.List.{length-take-le, take-take}
use Rattle.std.proofs.Math.Seq.{take-append_seam}

-- a room up to the end of what was written into it
written : (xs out rest tail : List ℕ) (filled end len : ℕ) → filled ≤ length xs → filled + length out ≡ end → end ≤ len
    → take end (take len ((take filled xs ++ (out ++ rest)) ++ tail)) ≡ take filled xs ++ out
written xs out rest tail filled end len low is inside =
    let first = take filled xs in
    let long : length (first ++ out) ≡ end = omega (arith, length-append first out, length-take-le filled xs low, is) in
    take-take end len ((first ++ (out ++ rest)) ++ tail) inside
    ∙ ap (λ v. take end v) (ap (λ v. v ++ tail) (sym (append_assoc first out rest)) ∙ append_assoc (first ++ out) rest tail)
    ∙ (λ i. take (sym long i) ((first ++ out) ++ (rest ++ tail)))
    ∙ take-append_seam (first ++ out) (rest ++ tail)

-- what came in all, once some bytes were written into the room and a full room was fed
pub came_more : (room xs out rest tail before after : List ℕ) (filled end left len : ℕ) → filled ≤ length xs → filled + length out ≡ end → end ≤ len
    → room ≡ take len ((take filled xs ++ (out ++ rest)) ++ tail) → after ++ take left room ≡ before ++ take end room
    → after ++ take left (take len ((take filled xs ++ (out ++ rest)) ++ tail)) ≡ (before ++ take filled xs) ++ out
came_more room xs out rest tail before after filled end left len low is inside room_is fed =
    ap (λ v. after ++ take left v) (sym room_is) ∙ fed ∙ ap (λ v. before ++ take end v) room_is
    ∙ ap (λ v. before ++ v) (written xs out rest tail filled end len low is inside)
    ∙ sym (append_assoc before (take filled xs) out)
