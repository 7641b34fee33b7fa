-- A recorded digest against one that was found.
use Rattle.std.proofs.Common.{◌≡◌, ℕ, ◌+◌, ◌-◌, ◌*◌, Bool, List, ◌++◌, length, take, drop, replicate, sym, ap, ◌∙◌, arith}
use Rattle.std.specs.Bool.{Decides}
use Rattle.std.specs.Str.{bytes_eq}
use Rattle.std.proofs.lemmas.List.{take-append-le, take_all}
use Rattle.std.proofs.lemmas.Slice.Eq.{bytes_eq-Decides}
use Rattle.aff_hash.specs.declared.kind.Hash.{Hash}
use Rattle.aff_hash.specs.Digest.{digest_of, digest_size, filled_digest_of}
use Rattle.aff_hash.proofs.Sizes.{length-digest_of}
use Rattle.aff_blockhash.specs.Recorded.{digest_at, filled}

-- the slice of a place
kept_part : (kind : Hash) (recorded : List ℕ) (place size : ℕ) → size ≡ digest_size kind → take (size * (place + 1) - size * place) (drop (size * place) recorded) ≡ digest_at kind recorded place
kept_part kind recorded place size is =
    let one : size * (place + 1) - size * place ≡ size = omega (arith, next size place) in
    ap (λ n. take n (drop (size * place) recorded)) one ∙ ap (λ n. take n (drop (n * place) recorded)) is
  where
    next : (m n : ℕ) → m * (n + 1) ≡ m * n + m
    next m n = grind arith

-- the front of a digest with zeros behind it
found_part : (kind : Hash) (bytes : List ℕ) (size : ℕ) (whole : List ℕ) → size ≡ digest_size kind → whole ≡ filled_digest_of kind bytes → take size whole ≡ digest_of kind bytes
found_part kind bytes size whole is found =
    let long : length (digest_of kind bytes) ≡ size = length-digest_of kind bytes ∙ sym is in
    ap (take size) found
    ∙ take-append-le size (digest_of kind bytes) (replicate (64 - digest_size kind) 0) (omega (arith, long))
    ∙ take_all size (digest_of kind bytes) (omega (arith, long))

pub found_filled : (kind : Hash) (bytes : List ℕ) → filled_digest_of kind bytes ≡ filled (digest_of kind bytes)
found_filled kind bytes = ap (λ n. digest_of kind bytes ++ replicate (64 - n) 0) (sym (length-digest_of kind bytes))

pub kept_filled : (kind : Hash) (recorded : List ℕ) (place size : ℕ) → size ≡ digest_size kind → filled (take (size * (place + 1) - size * place) (drop (size * place) recorded)) ≡ filled (digest_at kind recorded place)
kept_filled kind recorded place size is = ap filled (kept_part kind recorded place size is)

-- the comparison of the two slices tells whether the digests are the same
pub same_digest : (kind : Hash) (recorded : List ℕ) (place : ℕ) (bytes : List ℕ) (size : ℕ) (whole : List ℕ) (r : Bool) → size ≡ digest_size kind → whole ≡ filled_digest_of kind bytes
    → r ≡ bytes_eq (take (size * (place + 1) - size * place) (drop (size * place) recorded)) (take size whole)
    → Decides r (digest_at kind recorded place ≡ digest_of kind bytes)
same_digest kind recorded place bytes size whole r is found test =
    let kept : take (size * (place + 1) - size * place) (drop (size * place) recorded) ≡ digest_at kind recorded place = kept_part kind recorded place size is in
    let front : take size whole ≡ digest_of kind bytes = found_part kind bytes size whole is found in
    let same = bytes_eq-Decides (take (size * (place + 1) - size * place) (drop (size * place) recorded)) (take size whole) in
    (λ t. sym kept ∙ same.0 (sym test ∙ t) ∙ front, λ e. test ∙ same.1 (kept ∙ e ∙ sym front))
