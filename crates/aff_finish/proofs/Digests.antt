-- Digests are lists of bytes, of their length.
use Rattle.std.proofs.Common.{◌≡◌, ℕ, zero, suc, ◌/◌, ◌%◌, ◌^◌, ◌<◌, List, [], ◌∷◌, ◌++◌, length, refl, arith}
use Rattle.std.specs.Prelude.{slice_index, All}
use Rattle.std.specs.Int.{byte_at, bytes_high_first, to_be_bytes, to_le_bytes, w32, w64}
use Rattle.md5.specs.Md5.{md5, digest_bytes as md5_bytes}
use Rattle.sha1.specs.Sha1.{sha1, digest_bytes as sha1_bytes}
use Rattle.sha2.specs.Sha256.{sha256, digest_bytes as sha256_bytes}
use Rattle.sha2.specs.Sha512.{sha512, digest_bytes as sha512_bytes}
use Rattle.hex.specs.Hex.{IsBytes}
use Rattle.aff_hash.specs.declared.kind.Hash.TheVariants as hashes
use Rattle.aff_hash.proofs.Sizes.{length-digest_of}
use Rattle.aff_info.specs.Laws.{HasDigestSize}

IsBytes-nil : IsBytes []
IsBytes-nil i = omega arith

IsBytes-cons : (b : ℕ) (xs : List ℕ) → b < 256 → IsBytes xs → IsBytes (b ∷ xs)
IsBytes-cons b xs low each zero = low
IsBytes-cons b xs low each (suc i) = each i

IsBytes-append : (xs ys : List ℕ) → IsBytes xs → IsBytes ys → IsBytes (xs ++ ys)
IsBytes-append [] ys left right = right
IsBytes-append (x ∷ xs) ys left right = IsBytes-cons x (xs ++ ys) (left 0) (IsBytes-append xs ys (λ i. left (suc i)) right)

small : (x : ℕ) → x % 256 < 256
small x = omega arith

byte_small : (k n : ℕ) → byte_at k n < 256
byte_small zero n = small n
byte_small (suc k) n = small (n / 256 ^ suc k)

high_first : (k n : ℕ) → IsBytes (bytes_high_first k n)
high_first zero n = IsBytes-nil
high_first (suc k) n = IsBytes-cons (byte_at k n) (bytes_high_first k n) (byte_small k n) (high_first k n)

low_first : (n : ℕ) → IsBytes (to_le_bytes w32 n)
low_first n =
    IsBytes-cons (byte_at 0 n) (byte_at 1 n ∷ byte_at 2 n ∷ byte_at 3 n ∷ []) (byte_small 0 n)
    (IsBytes-cons (byte_at 1 n) (byte_at 2 n ∷ byte_at 3 n ∷ []) (byte_small 1 n)
    (IsBytes-cons (byte_at 2 n) (byte_at 3 n ∷ []) (byte_small 2 n) (IsBytes-cons (byte_at 3 n) [] (byte_small 3 n) IsBytes-nil)))

in_md5 : (h : List ℕ) (n : ℕ) → IsBytes (md5_bytes h n)
unfolding md5_bytes
in_md5 h zero = IsBytes-nil
in_md5 h (suc n) = IsBytes-append (md5_bytes h n) (to_le_bytes w32 (slice_index h n)) (in_md5 h n) (low_first (slice_index h n))

in_sha1 : (h : List ℕ) (n : ℕ) → IsBytes (sha1_bytes h n)
unfolding sha1_bytes
in_sha1 h zero = IsBytes-nil
in_sha1 h (suc n) = IsBytes-append (sha1_bytes h n) (to_be_bytes w32 (slice_index h n)) (in_sha1 h n) (high_first 4 (slice_index h n))

in_sha256 : (h : List ℕ) (n : ℕ) → IsBytes (sha256_bytes h n)
unfolding sha256_bytes
in_sha256 h zero = IsBytes-nil
in_sha256 h (suc n) = IsBytes-append (sha256_bytes h n) (to_be_bytes w32 (slice_index h n)) (in_sha256 h n) (high_first 4 (slice_index h n))

in_sha512 : (h : List ℕ) (n : ℕ) → IsBytes (sha512_bytes h n)
unfolding sha512_bytes
in_sha512 h zero = IsBytes-nil
in_sha512 h (suc n) = IsBytes-append (sha512_bytes h n) (to_be_bytes w64 (slice_index h n)) (in_sha512 h n) (high_first 8 (slice_index h n))

md5_is : (m : List ℕ) → IsBytes (md5 m)
unfolding md5
md5_is m = in_md5 _ 4

sha1_is : (m : List ℕ) → IsBytes (sha1 m)
unfolding sha1
sha1_is m = in_sha1 _ 5

sha256_is : (m : List ℕ) → IsBytes (sha256 m)
unfolding sha256
sha256_is m = in_sha256 _ 8

sha512_is : (m : List ℕ) → IsBytes (sha512 m)
unfolding sha512
sha512_is m = in_sha512 _ 8

-- the digests of any bytes
pub md5_sized : (m : List ℕ) → HasDigestSize 16 (md5 m)
md5_sized m = record { long = length-digest_of hashes.Md5 m; bytes_are = md5_is m }

pub sha1_sized : (m : List ℕ) → HasDigestSize 20 (sha1 m)
sha1_sized m = record { long = length-digest_of hashes.Sha1 m; bytes_are = sha1_is m }

pub sha256_sized : (m : List ℕ) → HasDigestSize 32 (sha256 m)
sha256_sized m = record { long = length-digest_of hashes.Sha256 m; bytes_are = sha256_is m }

pub sha512_sized : (m : List ℕ) → HasDigestSize 64 (sha512 m)
sha512_sized m = record { long = length-digest_of hashes.Sha512 m; bytes_are = sha512_is m }
