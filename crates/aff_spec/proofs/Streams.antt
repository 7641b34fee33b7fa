-- A stream whose chunks stand one after another in its bevvies.
use Rattle.std.proofs.Common.{◌≡◌, ℕ, zero, suc, ◌+◌, ◌-◌, ◌*◌, ◌/◌, ◌%◌, ◌<◌, ◌≤◌, min, List, [], ◌∷◌, length, take, drop, map, get_or, refl, sym, ap, subst, ◌∙◌, arith, append-nil, length-take, length-drop}
use Rattle.std.specs.Prelude.{Option, slice_get, All}
use Rattle.std.specs.List.{concat, flat_map, range_with_len, AllByRecursion}
use Rattle.std.proofs.lemmas.List.{ext_get_or, get_or-take, get_or-drop}
use Rattle.std.proofs.lemmas.List.Folds.{flat_map-map}
use Rattle.md5.specs.Md5.{md5}
use Rattle.sha1.specs.Sha1.{sha1}
use Rattle.sha2.specs.Sha256.{sha256}
use Rattle.std.proofs.lemmas.List.FromFn.{length-map-range_with_len, get_or-map-range_with_len}
use Rattle.aff_model.specs.Held.{Held, bytes_of}
use Rattle.aff_fields.specs.declared.point.Point.{Point}
use Rattle.aff_fields.specs.Point.{point_at, point_bytes, FitsPoint}
use Rattle.aff_fields.proofs.PointLaws.{point_at-flat_map}
use Rattle.aff_spec.specs.Bevvies.{sums_of, bevvy_of, bevvy_count}
use Rattle.aff_spec.specs.BlockHashes.{HasBlockHashes, digests_from, chunks_in}
use Rattle.aff_spec.specs.Names.{bevvy_name}
use Rattle.aff_spec.proofs.BevvySegments.{HasBevvies}
use Rattle.aff_spec.specs.Streams.{part_of, chunk_of, stream_byte, full_points}
use Rattle.aff_spec.proofs.Chunks.{AreChunks, chunk_of_concat}

-- the stream reads as these pieces
unfoldable pub ReadsAs : (ℕ → Option ℕ) → List (List ℕ) → Type 0
ReadsAs stream pieces = (k r : ℕ) → k < length pieces → r < 32768 → stream (32768 * k + r) ≡ slice_get (get_or pieces k []) r

-- the point of a full chunk
full_point : ℕ → Point
full_point k = record { at = 32768 * k; len = 32768 }

pub length-full_points : (n : ℕ) → length (full_points n) ≡ n
length-full_points n = length-map-range_with_len (λ k. record { at = 32768 * k; len = 32768 }) 0 n

get_or-full_points : (n k : ℕ) (d : Point) → k < n → get_or (full_points n) k d ≡ full_point k
unfolding full_point
get_or-full_points n k d below = get_or-map-range_with_len (λ k. record { at = 32768 * k; len = 32768 }) 0 n k k d below (omega arith)

full_point_fits : (k : ℕ) → k < 1024 → FitsPoint (full_point k)
unfolding full_point
full_point_fits k small = record { at = omega arith; len = omega arith }

pub full_points_fit : (n : ℕ) → n ≤ 1024 → All FitsPoint (full_points n)
full_points_fit n few k d below =
    let low : k < n = omega (arith, below, length-full_points n) in
    subst FitsPoint (sym (get_or-full_points n k d low)) (full_point_fits k (omega (arith, low, few)))

-- point k of the index
point_of_chunk : (n k : ℕ) → n ≤ 1024 → k < n → point_at (flat_map point_bytes (full_points n)) k ≡ full_point k
point_of_chunk n k few below =
    ap (λ v. point_at v k) (sym (append-nil (flat_map point_bytes (full_points n))))
    ∙ point_at-flat_map (full_points n) [] k (full_point k) (full_points_fit n few) (omega (arith, below, length-full_points n))
    ∙ get_or-full_points n k (full_point k) below

-- some of the pieces are pieces
all_taken : (n : ℕ) (xs : List (List ℕ)) → AllByRecursion (λ piece. length piece ≡ 32768) xs → AllByRecursion (λ piece. length piece ≡ 32768) (take n xs)
all_taken zero xs all = tt
all_taken (suc n) [] all = tt
all_taken (suc n) (x ∷ xs) all = (all.0, all_taken n xs all.1)

all_dropped : (n : ℕ) (xs : List (List ℕ)) → AllByRecursion (λ piece. length piece ≡ 32768) xs → AllByRecursion (λ piece. length piece ≡ 32768) (drop n xs)
all_dropped zero xs all = all
all_dropped (suc n) [] all = tt
all_dropped (suc n) (x ∷ xs) all = all_dropped n xs all.1

pub AreChunks-bevvy : (pieces : List (List ℕ)) (b : ℕ) → AreChunks pieces → AreChunks (bevvy_of pieces b)
unfolding AreChunks
AreChunks-bevvy pieces b all = all_taken 1024 (drop (1024 * b) pieces) (all_dropped (1024 * b) pieces all)

-- how many chunks a bevvy has, and which they are
pub length-bevvy_of : (pieces : List (List ℕ)) (b : ℕ) → length (bevvy_of pieces b) ≡ min 1024 (length pieces - 1024 * b)
length-bevvy_of pieces b = omega (arith, length-take 1024 (drop (1024 * b) pieces), length-drop (1024 * b) pieces)

pub get_or-bevvy_of : (pieces : List (List ℕ)) (b p : ℕ) → p < 1024 → get_or (bevvy_of pieces b) p [] ≡ get_or pieces (1024 * b + p) []
get_or-bevvy_of pieces b p low = get_or-take 1024 (drop (1024 * b) pieces) p [] low ∙ get_or-drop (1024 * b) pieces p []

-- a stream whose chunks stand one after another in their bevvies
module _ (held : Held) (stream : List ℕ) (pieces : List (List ℕ)) (whole : AreChunks pieces) (has : HasBevvies (bytes_of held) stream pieces) where
  -- chunk k of the stream is piece k
  pub chunk_is : (k : ℕ) → k < length pieces → chunk_of held stream k ≡ get_or pieces k []
  unfolding full_point
  chunk_is k below =
      let b : ℕ = k / 1024 in
      let p : ℕ = k % 1024 in
      let there : k / 1024 < bevvy_count (length pieces) = omega (arith, below) in
      let low : k % 1024 < 1024 = omega arith in
      let inside : k % 1024 < length (bevvy_of pieces (k / 1024)) = omega (arith, below, length-bevvy_of pieces (k / 1024)) in
      let few : length (bevvy_of pieces (k / 1024)) ≤ 1024 = omega (arith, length-bevvy_of pieces (k / 1024)) in
      let place : 1024 * (k / 1024) + k % 1024 ≡ k = omega arith in
      ap (λ v. part_of (point_at v p) (bytes_of held (bevvy_name stream b))) (has.index b there)
      ∙ ap (λ v. part_of (point_at (flat_map point_bytes (full_points (length (bevvy_of pieces b)))) p) v) (has.bevvy b there)
      ∙ ap (λ q. part_of q (concat (bevvy_of pieces b))) (point_of_chunk (length (bevvy_of pieces b)) p few inside)
      ∙ chunk_of_concat (bevvy_of pieces b) p (AreChunks-bevvy pieces b whole) inside
      ∙ get_or-bevvy_of pieces b p low
      ∙ ap (λ n. get_or pieces n []) place

  pub stream_reads : ReadsAs (stream_byte held stream) pieces
  unfolding ReadsAs
  stream_reads k r below low =
      let chunk : (32768 * k + r) / 32768 ≡ k = omega (arith, low) in
      let byte : (32768 * k + r) % 32768 ≡ r = omega (arith, low) in
      ap (λ c. slice_get (chunk_of held stream c) ((32768 * k + r) % 32768)) chunk
      ∙ ap (slice_get (chunk_of held stream k)) byte
      ∙ ap (λ v. slice_get v r) (chunk_is k below)

  -- the chunks of a bevvy as they stand
  chunks_stand : (b : ℕ) → b < bevvy_count (length pieces) → bevvy_of pieces b ≡ map (chunk_of held stream) (range_with_len (1024 * b) (chunks_in (length pieces) b))
  chunks_stand b below =
      ext_get_or [] (bevvy_of pieces b) (map (chunk_of held stream) (range_with_len (1024 * b) (chunks_in (length pieces) b)))
      (length-bevvy_of pieces b ∙ sym (length-map-range_with_len (chunk_of held stream) (1024 * b) (chunks_in (length pieces) b))) (λ p inside.
      let low : p < 1024 = omega (arith, inside, length-bevvy_of pieces b) in
      let there : p < chunks_in (length pieces) b = omega (arith, inside, length-bevvy_of pieces b) in
      get_or-bevvy_of pieces b p low ∙ sym (chunk_is (1024 * b + p) (omega (arith, there)))
      ∙ sym (get_or-map-range_with_len (chunk_of held stream) (1024 * b) (chunks_in (length pieces) b) p (1024 * b + p) [] there refl))

  digests_stand : (hash : List ℕ → List ℕ) (b : ℕ) → b < bevvy_count (length pieces) → flat_map hash (bevvy_of pieces b) ≡ digests_from hash held stream (1024 * b) (chunks_in (length pieces) b)
  digests_stand hash b below =
      ap (flat_map hash) (chunks_stand b below) ∙ flat_map-map hash (chunk_of held stream) (range_with_len (1024 * b) (chunks_in (length pieces) b))

  -- and their block hashes
  pub has_block_hashes : HasBlockHashes held stream (length pieces)
  has_block_hashes = record {
    by_md5 = λ b below. has.md5 b below ∙ flat_map-map (λ s. s.md5) sums_of (bevvy_of pieces b) ∙ digests_stand md5 b below;
    by_sha1 = λ b below. has.sha1 b below ∙ flat_map-map (λ s. s.sha1) sums_of (bevvy_of pieces b) ∙ digests_stand sha1 b below;
    by_sha256 = λ b below. has.sha256 b below ∙ flat_map-map (λ s. s.sha256) sums_of (bevvy_of pieces b) ∙ digests_stand sha256 b below;
  }
