-- How long the segments of block hashes are.
use Rattle.std.proofs.Common.{◌≡◌, ℕ, zero, suc, ◌+◌, ◌*◌, List, length, length-append, refl, ap, ◌∙◌, arith}
use Rattle.std.specs.List.{flat_map, range_with_len}
use Rattle.aff_model.specs.declared.limits.TheConstants.{BEVVY}
use Rattle.aff_model.specs.Held.{Held}
use Rattle.aff_hash.specs.declared.kind.Hash.TheVariants as hashes
use Rattle.aff_hash.proofs.Sizes.{length-digest_of}
use Rattle.aff_spec.specs.BlockHashes.{HasBlockHashes, chunks_in}
use Rattle.aff_spec.specs.Streams.{chunk_of}
use Rattle.aff_finish.specs.Kept.{HasAllKept, kept_size}
use Rattle.aff_finish.specs.declared.block_map.Kept.{Kept}
use Rattle.aff_finish.specs.declared.block_map.Kept.TheVariants.{Md5, Sha1, Sha256}

lengths : (kept : Kept) (f : ℕ → List ℕ) → ((k : ℕ) → length (f k) ≡ kept_size kept) → (a m : ℕ) → length (flat_map f (range_with_len a m)) ≡ kept_size kept * m
lengths Md5 f each a zero = refl
lengths Md5 f each a (suc m) = omega (arith, each a, lengths Md5 f each (a + 1) m, length-append (f a) (flat_map f (range_with_len (a + 1) m)))
lengths Sha1 f each a zero = refl
lengths Sha1 f each a (suc m) = omega (arith, each a, lengths Sha1 f each (a + 1) m, length-append (f a) (flat_map f (range_with_len (a + 1) m)))
lengths Sha256 f each a zero = refl
lengths Sha256 f each a (suc m) = omega (arith, each a, lengths Sha256 f each (a + 1) m, length-append (f a) (flat_map f (range_with_len (a + 1) m)))

-- the block hashes of a stream are as long as the digests of its chunks
pub all_kept : (held : Held) (stream : List ℕ) (n : ℕ) → HasBlockHashes held stream n → HasAllKept held stream n
all_kept held stream n has Md5 b below =
    ap length (has.by_md5 b below) ∙ lengths Md5 _ (λ k. length-digest_of hashes.Md5 (chunk_of held stream k)) (BEVVY * b) (chunks_in n b)
all_kept held stream n has Sha1 b below =
    ap length (has.by_sha1 b below) ∙ lengths Sha1 _ (λ k. length-digest_of hashes.Sha1 (chunk_of held stream k)) (BEVVY * b) (chunks_in n b)
all_kept held stream n has Sha256 b below =
    ap length (has.by_sha256 b below) ∙ lengths Sha256 _ (λ k. length-digest_of hashes.Sha256 (chunk_of held stream k)) (BEVVY * b) (chunks_in n b)
