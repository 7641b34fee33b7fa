-- Chunks of a stream and their digests, in the folder that has them.
use Rattle.std.proofs.Common.{◌≡◌, ◌≢◌, ℕ, ◌+◌, ◌*◌, ◌/◌, ◌%◌, ◌<◌, ◌≤◌, min, List, [], length, take, drop, get_or, refl, sym, ap, subst, ◌∙◌, arith, length-drop}
use Rattle.std.specs.Prelude.{Option, None, Some, IsSomeAnd, option_map, unwrap_or, slice_get}
use Rattle.std.specs.FinMap.{get}
use Rattle.std.proofs.lemmas.List.{get_or-take, length-take-le, take-append-le, take_all}
use Rattle.std.proofs.lemmas.Option.{slice_get-get_or}
use Rattle.aff_model.specs.Held.{Held, bytes_of, IsInside}
use Rattle.aff_model.specs.Plan.{chunk_count}
use Rattle.aff_fields.specs.declared.point.Point.{Point}
use Rattle.aff_fields.specs.Point.{point_of}
use Rattle.aff_fields.proofs.PointLaws.{map-first_chunks}
use Rattle.aff_hash.specs.declared.kind.Hash.{Hash}
use Rattle.aff_hash.specs.declared.kind.Hash.TheVariants.{Md5, Sha1, Sha256, Sha512}
use Rattle.aff_hash.specs.Digest.{digest_of, digest_size}
use Rattle.aff_blockhash.specs.Recorded.{digest_at, filled, IfDiffers, IsDigest}
use Rattle.aff_blockhash.specs.declared.answer.Check.TheVariants.{Differs}
use Rattle.aff_spec.specs.Bevvies.{bevvy_count}
use Rattle.aff_spec.specs.BlockHashes.{chunks_in}
use Rattle.aff_spec.specs.Names.{bevvy_name, index_name}
use Rattle.aff_spec.specs.Streams.{chunk_of, part_of}
use Rattle.aff_bevvy.specs.Streams.{chunk_len, chunk_point}
use Rattle.aff_info.specs.declared.info.Info.{Info}
use Rattle.aff_hash.proofs.Sizes.{length-digest_of}
use Rattle.aff_outside.specs.declared.folder.FolderError.{FolderError}
use Rattle.aff_outside.specs.declared.folder.FolderError.TheVariants as folders
use Rattle.aff_volume.specs.Chunks.{IsChunkError, IsDifference}
use Rattle.aff_volume.specs.Errors.{of_read}
use Rattle.aff_volume.specs.Image.{block_hash_name, IsRecorded, recorded_of}
use Rattle.aff_volume.specs.Image as image
use Rattle.aff_volume.specs.declared.chunk.Difference.{Difference}
use Rattle.aff_volume.specs.Opened.{IsThere}
use Rattle.aff_volume.proofs.Lengths.{is_inside, room_known}

point_of-twelve : (bytes : List ℕ) → point_of (take 12 bytes) ≡ point_of bytes
point_of-twelve bytes = let whole = map-first_chunks 1 bytes in cc

-- the point that was read
pub point_read : (held : Held) (stream : List ℕ) (c : ℕ) (field : List ℕ) (p : Point) → p ≡ point_of field → field ≡ take 12 (drop (12 * (c % 1024)) (bytes_of held (index_name stream (c / 1024)))) → p ≡ chunk_point held stream c
point_read held stream c field p is read = is ∙ ap point_of read ∙ point_of-twelve (drop (12 * (c % 1024)) (bytes_of held (index_name stream (c / 1024))))

some_there : (o : Option (List ℕ)) (P : ℕ → Type 0) (at len : ℕ) → IsSomeAnd (option_map length o) P → at + len ≤ length (unwrap_or o []) → IsSomeAnd o (λ bytes. at + len ≤ length bytes)
some_there None P at len some low = absurd some
some_there (Some bytes) P at len some low = low

module _ (held : Held) (info : Info) (there : IsThere held info) (c : ℕ) (low : c < chunk_count info.stream_size) where
  bevvy_low : c / 1024 < bevvy_count (chunk_count info.stream_size)
  bevvy_low = omega (arith, low)

  pub point_inside : IsInside held (index_name info.stream (c / 1024)) (12 * (c % 1024)) 12
  point_inside =
      let room : 12 * (c % 1024) + 12 ≤ 12 * chunks_in (chunk_count info.stream_size) (c / 1024) = omega (arith, low) in
      is_inside held (index_name info.stream (c / 1024)) (12 * chunks_in (chunk_count info.stream_size) (c / 1024)) (12 * (c % 1024)) 12 (there.stream.bevvies (c / 1024) bevvy_low).index room

  pub recorded_inside : (kind : Hash) → kind ≢ Sha512 → IsInside held (block_hash_name kind info.stream (c / 1024)) (digest_size kind * (c % 1024)) (digest_size kind)
  recorded_inside Md5 kept =
      is_inside held (block_hash_name Md5 info.stream (c / 1024)) (16 * chunks_in (chunk_count info.stream_size) (c / 1024)) (16 * (c % 1024)) 16 (there.hashed (c / 1024) bevvy_low).by_md5 (omega (arith, low))
  recorded_inside Sha1 kept =
      is_inside held (block_hash_name Sha1 info.stream (c / 1024)) (20 * chunks_in (chunk_count info.stream_size) (c / 1024)) (20 * (c % 1024)) 20 (there.hashed (c / 1024) bevvy_low).by_sha1 (omega (arith, low))
  recorded_inside Sha256 kept =
      is_inside held (block_hash_name Sha256 info.stream (c / 1024)) (32 * chunks_in (chunk_count info.stream_size) (c / 1024)) (32 * (c % 1024)) 32 (there.hashed (c / 1024) bevvy_low).by_sha256 (omega (arith, low))
  recorded_inside Sha512 kept = absurd (kept refl)

  -- the digest that is recorded is whole
  pub recorded_long : length (recorded_of Sha256 held info.stream c) ≡ 32
  recorded_long =
      let room : length (bytes_of held (block_hash_name Sha256 info.stream (c / 1024))) ≡ 32 * chunks_in (chunk_count info.stream_size) (c / 1024) =
      room_known held (block_hash_name Sha256 info.stream (c / 1024)) (32 * chunks_in (chunk_count info.stream_size) (c / 1024)) (there.hashed (c / 1024) bevvy_low).by_sha256 in
      length-take-le 32 (drop (32 * (c % 1024)) (bytes_of held (block_hash_name Sha256 info.stream (c / 1024))))
      (omega (arith, low, room, length-drop (32 * (c % 1024)) (bytes_of held (block_hash_name Sha256 info.stream (c / 1024)))))

  -- a chunk's point, as it is read
  module _ (p : Point) (own : p ≡ chunk_point held info.stream c) (count : ℕ) (is : count ≡ min p.len 32768) where
    len_low : p.len ≤ 32768
    len_low = omega (arith, ap (λ (q : Point). q.len) own, (there.stream.chunks c low).whole)

    count_is : count ≡ p.len
    count_is = omega (arith, is, len_low)

    pub long_enough : chunk_len info.stream_size c ≤ count
    long_enough = omega (arith, count_is, ap (λ (q : Point). q.len) own, (there.stream.chunks c low).whole)

    pub chunk_inside : IsInside held (bevvy_name info.stream (c / 1024)) p.at count
    chunk_inside =
        let inside : p.at + count ≤ length (bytes_of held (bevvy_name info.stream (c / 1024))) =
        omega (arith, count_is, ap (λ (q : Point). q.at) own, ap (λ (q : Point). q.len) own, (there.stream.chunks c low).inside) in
        some_there (get held (bevvy_name info.stream (c / 1024))) (λ bytes. bytes < 18446744073709551616) p.at count (there.stream.bevvies (c / 1024) bevvy_low).bevvy inside

    pub chunk_is : take count (drop p.at (bytes_of held (bevvy_name info.stream (c / 1024)))) ≡ chunk_of held info.stream c
    chunk_is = ap (λ n. take n (drop p.at (bytes_of held (bevvy_name info.stream (c / 1024))))) count_is ∙ ap (λ (q : Point). part_of q (bytes_of held (bevvy_name info.stream (c / 1024)))) own

-- a byte of a list whose front is known
pub byte_is : (count k : ℕ) (out chunk : List ℕ) → take count out ≡ chunk → count ≤ length out → k < count → slice_get chunk k ≡ Some (get_or out k 0)
byte_is count k out chunk is inside low =
    let long : length (take count out) ≡ count = length-take-le count out inside in
    ap (λ v. slice_get v k) (sym is) ∙ slice_get-get_or (take count out) k 0 (omega (arith, long, low)) ∙ ap Some (get_or-take count out k 0 low)

-- a digest without the zeros behind it
pub unfilled : (digest bytes : List ℕ) → bytes ≡ filled digest → length digest ≡ 32 → take 32 bytes ≡ digest
unfilled digest bytes is long = ap (take 32) is ∙ take-append-le 32 digest _ (omega (arith, long)) ∙ take_all 32 digest (omega (arith, long))

-- ---- a chunk against its recorded digest

digest_first : (kind : Hash) (recorded : List ℕ) → length recorded ≡ digest_size kind → digest_at kind recorded 0 ≡ recorded
digest_first kind recorded long =
    let start : digest_size kind * 0 ≡ 0 = omega arith in
    ap (λ n. take (digest_size kind) (drop n recorded)) start ∙ take_all (digest_size kind) recorded (omega (arith, long))

module _ (kind : Hash) (held : Held) (stream : List ℕ) (c : ℕ) (recorded bytes : List ℕ) (is : recorded ≡ recorded_of kind held stream c) (long : length recorded ≡ digest_size kind) (chunk : bytes ≡ chunk_of held stream c) where
  own : digest_at kind recorded 0 ≡ recorded_of kind held stream c
  own = digest_first kind recorded long ∙ is

  pub is_recorded : digest_at kind recorded 0 ≡ digest_of kind bytes → IsRecorded kind held stream c
  is_recorded same = sym own ∙ same ∙ ap (digest_of kind) chunk

  pub is_difference : (d : Difference) → IfDiffers (Differs d.recorded d.found) kind (digest_at kind recorded 0) (digest_of kind bytes) → IsDifference kind held stream c d
  is_difference d h = record {
    recorded = subst (IsDigest d.recorded kind) own h.1;
    found = subst (λ b. IsDigest d.found kind (digest_of kind b)) chunk h.2;
    differ = λ same. h.0 (own ∙ same ∙ ap (digest_of kind) (sym chunk));
  }

-- a difference under SHA-256, without the zeros behind its digests
pub damaged : (held : Held) (stream : List ℕ) (c : ℕ) (d : Difference) → length (recorded_of Sha256 held stream c) ≡ 32 → IsDifference Sha256 held stream c d
    → image.Differs Sha256 held stream c (take 32 d.recorded.bytes) (take 32 d.found.bytes)
damaged held stream c d long is =
    let recorded : take 32 d.recorded.bytes ≡ recorded_of Sha256 held stream c = unfilled (recorded_of Sha256 held stream c) d.recorded.bytes is.recorded.filled_up long in
    let found : take 32 d.found.bytes ≡ digest_of Sha256 (chunk_of held stream c) = unfilled (digest_of Sha256 (chunk_of held stream c)) d.found.bytes is.found.filled_up (length-digest_of Sha256 (chunk_of held stream c)) in
    record { recorded_is = recorded; found_is = found; differ = λ same. is.differ (sym recorded ∙ same ∙ found) }

-- a failed call is why a chunk is not read
pub call_error : (held : Held) (stream : List ℕ) (c : ℕ) (e : FolderError) → IsChunkError held stream c (of_read e)
call_error held stream c folders.Failed = tt
call_error held stream c folders.Memory = tt
