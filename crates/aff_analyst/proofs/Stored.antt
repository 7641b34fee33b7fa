-- The stored chunks of a sound piece, by their numbers.
use Rattle.std.proofs.Common.{◌≡◌, ℕ, zero, suc, ◌+◌, ◌-◌, ◌*◌, ◌/◌, ◌%◌, ◌<◌, ◌≤◌, Bool, false, Option, None, Some, IfSome, IsTrue, List, [], ◌∷◌, ◌++◌, length, map, take, get_or, refl, sym, ap, subst, ◌∙◌, arith, slice_get, length-append}
use Rattle.std.specs.Option.{option_map}
use Rattle.std.proofs.lemmas.List.{length-map, take_more}
use Rattle.std.proofs.lemmas.Option.{same_Some, slice_get_within, slice_get-get_or, slice_get-map, get_or_from_slice_get}
use Rattle.sha2.specs.Sha256.{sha256}
use Rattle.aff_model.specs.declared.extent.Extent.{Extent}
use Rattle.aff_model.specs.declared.publication.Place.{Place}
use Rattle.aff_model.specs.declared.publication.Place.TheVariants.{Zero, Chunk, Nothing}
use Rattle.aff_model.specs.Content.{Content}
use Rattle.aff_model.specs.History.{Part}
use Rattle.aff_model.specs.Legal.{numbers_of}
use Rattle.aff_spec.specs.Chunks.{chunk_at, chunks_from, stored_chunks}
use Rattle.aff_spec.proofs.Chunks.{length-chunk_at, numbers_of-append}
use Rattle.aff_image.specs.Sound.{IsSound}
use Rattle.aff_analyst.specs.Bytes.{IsToldAs, stored_before}

-- chunk q of the places from chunk j on is stored, and how many before it are
pub stored_here : (bytes : List ℕ) (j : ℕ) (places : List Place) (q c : ℕ) → slice_get places q ≡ Some (Chunk c) → slice_get (chunks_from bytes j places) (stored_before places q) ≡ Some (chunk_at bytes (j + q))
stored_here bytes j [] q c is = absurd (cc is)
stored_here bytes j (Zero ∷ places) zero c is = absurd (cc is)
stored_here bytes j (Nothing ∷ places) zero c is = absurd (cc is)
stored_here bytes j (Chunk d ∷ places) zero c is = ap (λ k. Some (chunk_at bytes k)) (omega arith)
stored_here bytes j (Zero ∷ places) (suc q) c is = stored_here bytes (suc j) places q c is ∙ ap (λ k. Some (chunk_at bytes k)) (omega arith)
stored_here bytes j (Nothing ∷ places) (suc q) c is = stored_here bytes (suc j) places q c is ∙ ap (λ k. Some (chunk_at bytes k)) (omega arith)
stored_here bytes j (Chunk d ∷ places) (suc q) c is = stored_here bytes (suc j) places q c is ∙ ap (λ k. Some (chunk_at bytes k)) (omega arith)

-- how many are stored before the next chunk
pub before_next : (places : List Place) (k : ℕ) (d : Place) → k < length places → stored_before places (k + 1) ≡ stored_before places k + length (numbers_of (get_or places k d ∷ []))
before_next places k d low =
    ap (λ l. length (numbers_of l)) (take_more places k d low)
    ∙ ap length (numbers_of-append (take k places) (get_or places k d ∷ []))
    ∙ length-append (numbers_of (take k places)) (numbers_of (get_or places k d ∷ []))

-- the stored chunk of a piece at a place: its digest and its receipt
pub record IsStoredAt (tells : Bool) {R : Type 0} (told : R → List ℕ) (p : Part R) (n : ℕ) (chunk : List ℕ) : Type 0 where
  pub digest : slice_get p.digests n ≡ Some (sha256 chunk)
  pub digests : n < length p.digests
  pub receipts : n < length p.receipts
  pub told_chunk : IsTrue tells → IfSome (slice_get p.receipts n) (λ r. told r ≡ chunk)

told_by : {R : Type 0} (told : R → List ℕ) (o : Option R) (chunk : List ℕ) → option_map told o ≡ Some chunk → IfSome o (λ r. told r ≡ chunk)
told_by told None chunk is = tt
told_by told (Some r) chunk is = same_Some (told r) chunk is

pub stored_at : (case : Option Content) (block : ℕ) (e : Extent) (tells : Bool) {R : Type 0} (told : R → List ℕ) (p : Part R) (s : IsSound case block e tells told p) (j c : ℕ) → slice_get p.places j ≡ Some (Chunk c) → IsStoredAt tells told p (stored_before p.places j) (chunk_at s.bytes j)
stored_at case block e tells told p s j c is =
    let n = stored_before p.places j in
    let here : slice_get (stored_chunks s.bytes p.places) n ≡ Some (chunk_at s.bytes j) = stored_here s.bytes 0 p.places j c is ∙ ap (λ k. Some (chunk_at s.bytes k)) (omega arith) in
    let digest : slice_get p.digests n ≡ Some (sha256 (chunk_at s.bytes j)) = ap (λ l. slice_get l n) s.digests ∙ slice_get-map sha256 (stored_chunks s.bytes p.places) n ∙ ap (λ o. option_map sha256 o) here in
    let low : n < length p.digests = slice_get_within p.digests n (sha256 (chunk_at s.bytes j)) digest in
    record {
      digest = digest;
      digests = low;
      receipts = omega (arith, low, s.receipts);
      told_chunk = λ t. told_by told (slice_get p.receipts n) (chunk_at s.bytes j) (sym (slice_get-map told p.receipts n) ∙ ap (λ l. slice_get l n) (s.told_chunks t) ∙ here);
    }

both_by : {R : Type 0} (told : R → List ℕ) (o : Option R) (chunk : List ℕ) (d : Option (List ℕ)) → length chunk ≡ 32768 → d ≡ Some (sha256 chunk) → IfSome o (λ r. told r ≡ chunk) → IfSome o (λ r. (length (told r) ≡ 32768) × (d ≡ Some (sha256 (told r))))
both_by told None chunk d len is t = tt
both_by told (Some r) chunk d len is t = (ap length t ∙ len, is ∙ ap (λ c. Some (sha256 c)) (sym t))

pub told_as : (tells : Bool) {R : Type 0} (told : R → List ℕ) (p : Part R) (n : ℕ) (bytes : List ℕ) (j : ℕ) → IsStoredAt tells told p n (chunk_at bytes j) → IsTrue tells → IsToldAs told p n
told_as tells told p n bytes j s t = both_by told (slice_get p.receipts n) (chunk_at bytes j) (slice_get p.digests n) (length-chunk_at bytes j) s.digest (s.told_chunk t)
