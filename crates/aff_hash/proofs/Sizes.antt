-- How many bytes a digest has, for whoever cuts it from what lies behind it.
use Rattle.std.proofs.Common.{◌≡◌, ℕ, zero, suc, ◌*◌, List, arith, length, length-append, refl}
use Rattle.std.specs.Prelude.{slice_index}
use Rattle.std.specs.Int.{to_be_bytes, w32}
use Rattle.md5.proofs.StandardFacts.{length-md5}
use Rattle.sha1.specs.Sha1.{digest_bytes, sha1}
use Rattle.sha2.proofs.Facts256.{length-sha256}
use Rattle.sha2.proofs.Facts512.{length-sha512}
use Rattle.aff_hash.specs.declared.kind.Hash.{Hash}
use Rattle.aff_hash.specs.declared.kind.Hash.TheVariants.{Md5, Sha1, Sha256, Sha512}
use Rattle.aff_hash.specs.Digest.{digest_of, digest_size}

-- each word of a hash value gives four bytes
length-words : (h : List ℕ) (n : ℕ) → length (digest_bytes h n) ≡ 4 * n
unfolding digest_bytes
length-words h zero = refl
length-words h (suc n) =
    let before = length-words h n in
    let word : length (to_be_bytes w32 (slice_index h n)) ≡ 4 = refl in
    omega (arith, before, word, length-append (digest_bytes h n) (to_be_bytes w32 (slice_index h n)))

-- SHA-1 gives five words
length-sha1 : (m : List ℕ) → length (sha1 m) ≡ 20
unfolding sha1
length-sha1 m = length-words _ 5

-- a digest has as many bytes as its hash function gives
pub length-digest_of : (kind : Hash) (bytes : List ℕ) → length (digest_of kind bytes) ≡ digest_size kind
length-digest_of Md5 bytes = length-md5 bytes
length-digest_of Sha1 bytes = length-sha1 bytes
length-digest_of Sha256 bytes = length-sha256 bytes
length-digest_of Sha512 bytes = length-sha512 bytes
