-- Bytes of an image that are fed piece by piece.
use Rattle.std.proofs.Common.{◌≡◌, ℕ, ◌+◌, ◌<◌, ◌≤◌, List, ◌++◌, length, map, get_or, take, sym, ap, ◌∙◌, arith}
use Rattle.std.specs.Prelude.{Some, unwrap_or}
use Rattle.std.specs.List.{range_with_len}
use Rattle.std.proofs.lemmas.List.{get_or-take, length-take-le}
use Rattle.aff_model.specs.Held.{Held}
use Rattle.aff_linear.proofs.Pieces.{fed_more, is_range}
use Rattle.aff_spec.specs.Volumes.{Volume, volume_byte, volume_bytes}

-- the first bytes of a buffer behind what was fed
pub more_of_image : (held : Held) (v : Volume) (start before after buffer : List ℕ) (at count : ℕ) → count ≤ length buffer
    → before ≡ start ++ volume_bytes held v at → after ≡ before ++ take count buffer → ((k : ℕ) → k < count → volume_byte held v (at + k) ≡ Some (get_or buffer k 0))
    → after ≡ start ++ volume_bytes held v (at + count)
more_of_image held v start before after buffer at count few is next bytes =
    let here : 0 + at ≡ at = omega arith in
    fed_more (λ i. unwrap_or (volume_byte held v i) 0) 0 at count start before after (take count buffer) is next
    (is_range (λ i. unwrap_or (volume_byte held v i) 0) at count (take count buffer) (length-take-le count buffer few)
    (λ k low. get_or-take count buffer k 0 low ∙ sym (ap (λ o. unwrap_or o 0) (bytes k low)))
    ∙ ap (λ n. map (λ i. unwrap_or (volume_byte held v i) 0) (range_with_len n count)) (sym here))
