-- Parts of a stream's chunks.
use Rattle.std.proofs.Common.{◌≡◌, ℕ, ◌+◌, ◌-◌, ◌*◌, ◌/◌, ◌%◌, ◌^◌, ◌<◌, ◌≤◌, min, List, ◌++◌, length, take, drop, get_or, sym, ap, subst, ◌∙◌, arith, length-take, length-drop, inl, inr}
use Rattle.std.specs.Prelude.{Some, slice_get}
use Rattle.std.proofs.Math.ListN.{get_or-append}
use Rattle.std.proofs.lemmas.Bool.{cases_lt}
use Rattle.std.proofs.lemmas.List.{drop-drop, drop-take, take-take, get_or-take, get_or-drop, get_or-append-add, length-take-le}
use Rattle.std.proofs.lemmas.Option.{slice_get-get_or}
use borrow.Rule.Slice.PartMut.{put_mid, post_of}
use Rattle.aff_model.specs.Held.{Held, bytes_of, IsInside}
use Rattle.aff_model.specs.Plan.{chunk_count}
use Rattle.aff_fields.specs.declared.point.Point.{Point}
use Rattle.aff_fields.specs.Point.{point_of}
use Rattle.aff_fields.proofs.PointLaws.{map-first_chunks}
use Rattle.aff_spec.specs.Bevvies.{bevvy_count}
use Rattle.aff_spec.specs.BlockHashes.{chunks_in}
use Rattle.aff_spec.specs.Names.{bevvy_name, index_name}
use Rattle.aff_spec.specs.Streams.{chunk_of, stream_byte}
use Rattle.aff_bevvy.specs.Streams.{IsStream, chunk_len, chunk_point}
use Rattle.aff_bevvy.proofs.Lengths.{is_inside, is_inside_own, length_is}

-- a point is read from its twelve bytes alone
pub point_of-twelve : (bytes : List ℕ) → point_of (take 12 bytes) ≡ point_of bytes
point_of-twelve bytes = let whole = map-first_chunks 1 bytes in cc whole

-- a part of a part
pub part_of-part : (bytes : List ℕ) (at len skip n : ℕ) → skip + n ≤ len → take n (drop (at + skip) bytes) ≡ take n (drop skip (take len (drop at bytes)))
part_of-part bytes at len skip n inside =
    let rest : skip + (len - skip) ≡ len = omega (arith, inside) in
    ap (take n) (sym (drop-drop skip at bytes))
    ∙ sym (take-take n (len - skip) (drop skip (drop at bytes)) (omega (arith, inside)))
    ∙ ap (take n) (sym (drop-take skip (len - skip) (drop at bytes)))
    ∙ ap (λ l. take n (drop skip (take l (drop at bytes)))) rest

-- bytes of a part of a chunk are the stream's
pub part_byte : (held : Held) (stream : List ℕ) (place n j : ℕ) (new : List ℕ) → new ≡ take n (drop (place % 32768) (chunk_of held stream (place / 32768))) → length new ≡ n → place % 32768 + n ≤ 32768 → j < n
    → stream_byte held stream (place + j) ≡ Some (get_or new j 0)
part_byte held stream place n j new is all inside low =
    let chunk : (place + j) / 32768 ≡ place / 32768 = omega (arith, inside, low) in
    let byte : (place + j) % 32768 ≡ place % 32768 + j = omega (arith, inside, low) in
    let long : length (take n (drop (place % 32768) (chunk_of held stream (place / 32768)))) ≡ n = ap length (sym is) ∙ all in
    let there : place % 32768 + j < length (chunk_of held stream (place / 32768)) =
    omega (arith, long, low, length-take n (drop (place % 32768) (chunk_of held stream (place / 32768))), length-drop (place % 32768) (chunk_of held stream (place / 32768))) in
    (λ i. slice_get (chunk_of held stream (chunk i)) (byte i))
    ∙ slice_get-get_or (chunk_of held stream (place / 32768)) (place % 32768 + j) 0 there
    ∙ ap Some (sym (get_or-drop (place % 32768) (chunk_of held stream (place / 32768)) j 0) ∙ sym (get_or-take n (drop (place % 32768) (chunk_of held stream (place / 32768))) j 0 low) ∙ ap (λ v. get_or v j 0) (sym is))

-- parts of a stream that a folder has
module _ (held : Held) (stream : List ℕ) (size c : ℕ) (is : IsStream held stream size) (low : c < chunk_count size) where
  bevvy_low : c / 1024 < bevvy_count (chunk_count size)
  bevvy_low = omega (arith, low)

  -- the point of a chunk is in its index
  pub point_inside : IsInside held (index_name stream (c / 1024)) (12 * (c % 1024)) 12
  point_inside =
      let room : 12 * (c % 1024) + 12 ≤ 12 * chunks_in (chunk_count size) (c / 1024) = omega (arith, low) in
      is_inside held (index_name stream (c / 1024)) (12 * chunks_in (chunk_count size) (c / 1024)) (12 * (c % 1024)) 12 (is.bevvies (c / 1024) bevvy_low).index room

  -- a part of the chunk is in its bevvy
  module _ (p : Point) (skip n sum : ℕ) (own : p ≡ chunk_point held stream c) (inside : skip + n ≤ chunk_len size c) (sum_is : sum ≡ min (p.at + skip) 18446744073709551615) where
    room : skip + n ≤ p.len
    room = omega (arith, inside, ap (λ q. q.len) own, (is.chunks c low).whole)

    reach : p.at + p.len ≤ length (bytes_of held (bevvy_name stream (c / 1024)))
    reach = subst (λ q. q.at + q.len ≤ length (bytes_of held (bevvy_name stream (c / 1024)))) (sym own) (is.chunks c low).inside

    small : length (bytes_of held (bevvy_name stream (c / 1024))) < 18446744073709551616
    small = length_is held (bevvy_name stream (c / 1024)) (λ bytes. bytes < 2 ^ 64) (is.bevvies (c / 1024) bevvy_low).bevvy

    pub place_is : sum ≡ p.at + skip
    place_is = omega (arith, sum_is, room, reach, small)

    pub part_inside : IsInside held (bevvy_name stream (c / 1024)) sum n
    part_inside =
        let in_bevvy : sum + n ≤ length (bytes_of held (bevvy_name stream (c / 1024))) = omega (arith, place_is, room, reach) in
        is_inside_own held (bevvy_name stream (c / 1024)) sum n (λ bytes. bytes < 2 ^ 64) (is.bevvies (c / 1024) bevvy_low).bevvy in_bevvy

    -- what is read there is of the chunk
    pub part_is : take n (drop sum (bytes_of held (bevvy_name stream (c / 1024)))) ≡ take n (drop skip (chunk_of held stream c))
    part_is =
        ap (λ k. take n (drop k (bytes_of held (bevvy_name stream (c / 1024))))) place_is
        ∙ part_of-part (bytes_of held (bevvy_name stream (c / 1024))) p.at p.len skip n room
        ∙ ap (λ q. take n (drop skip (take q.len (drop q.at (bytes_of held (bevvy_name stream (c / 1024))))))) own

-- the point that was read
pub point_read : (held : Held) (stream : List ℕ) (c : ℕ) (field : List ℕ) (p : Point) → p ≡ point_of field → field ≡ take 12 (drop (12 * (c % 1024)) (bytes_of held (index_name stream (c / 1024)))) → p ≡ chunk_point held stream c
point_read held stream c field p is read = is ∙ ap point_of read ∙ point_of-twelve (drop (12 * (c % 1024)) (bytes_of held (index_name stream (c / 1024))))

-- a part that is written into the bytes so far
put_before : (filled n : ℕ) (out new : List ℕ) (k : ℕ) → filled ≤ length out → k < filled → get_or (put_mid filled n out new) k 0 ≡ get_or out k 0
put_before filled n out new k low before =
    get_or-append (take filled out) (new ++ post_of filled n out) 0 k (omega (arith, before, length-take-le filled out low)) ∙ get_or-take filled out k 0 before

put_in : (filled n : ℕ) (out new : List ℕ) (j : ℕ) → filled ≤ length out → j < length new → get_or (put_mid filled n out new) (filled + j) 0 ≡ get_or new j 0
put_in filled n out new j low in_new =
    ap (λ m. get_or (put_mid filled n out new) (m + j) 0) (sym (length-take-le filled out low))
    ∙ get_or-append-add (take filled out) (new ++ post_of filled n out) j 0
    ∙ get_or-append new (post_of filled n out) 0 j in_new

pub parts_more : (held : Held) (stream : List ℕ) (at filled n : ℕ) (out new : List ℕ) → filled ≤ length out → length new ≡ n → (at + filled) % 32768 + n ≤ 32768
    → new ≡ take n (drop ((at + filled) % 32768) (chunk_of held stream ((at + filled) / 32768)))
    → ((k : ℕ) → k < filled → stream_byte held stream (at + k) ≡ Some (get_or out k 0))
    → (k : ℕ) → k < filled + n → stream_byte held stream (at + k) ≡ Some (get_or (put_mid filled n out new) k 0)
parts_more held stream at filled n out new low all inside is before k below =
    elim (cases_lt k filled) [
      | inl earlier ↦ before k earlier ∙ ap Some (sym (put_before filled n out new k low earlier))
      | inr here ↦
          let place : k ≡ filled + (k - filled) = omega (arith, here) in
          let byte : at + k ≡ at + filled + (k - filled) = omega (arith, here) in
          ap (stream_byte held stream) byte
          ∙ part_byte held stream (at + filled) n (k - filled) new is all inside (omega (arith, here, below))
          ∙ ap Some (sym (put_in filled n out new (k - filled) low (omega (arith, here, below, all))) ∙ ap (λ m. get_or (put_mid filled n out new) m 0) (sym place))
    ]
