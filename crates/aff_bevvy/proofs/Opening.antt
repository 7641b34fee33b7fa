-- A stream that was written chunk by chunk can be read, and gives its chunks.
use Rattle.std.proofs.Common.{◌≡◌, ℕ, ◌+◌, ◌*◌, ◌/◌, ◌%◌, ◌^◌, ◌<◌, ◌≤◌, List, [], ◌∷◌, length, take, drop, get_or, refl, sym, ap, subst, ◌∙◌, arith, append-nil, length-append, length-take, length-drop, inl, inr}
use Rattle.std.specs.Prelude.{◌≢◌, ◌⊎◌, Option, None, Some, slice_get, All, IsSomeAnd, unwrap_or, option_map}
use Rattle.std.specs.List.{concat, flat_map}
use Rattle.std.proofs.lemmas.List.{get_or-take, get_or-drop}
use Rattle.std.proofs.lemmas.List.Elements.{recursion_from_All}
use Rattle.std.proofs.lemmas.List.FromFn.{get_or-map-range_with_len}
use Rattle.std.proofs.lemmas.Option.{slice_get-get_or}
use Rattle.aff_model.specs.Held.{Held, bytes_of}
use Rattle.aff_model.specs.Plan.{chunk_count}
use Rattle.aff_fields.specs.declared.point.Point.{Point}
use Rattle.aff_fields.specs.Point.{point_at, point_bytes}
use Rattle.aff_fields.proofs.PointLaws.{point_at-flat_map, length-flat_map-point_bytes}
use Rattle.aff_spec.specs.Bevvies.{bevvy_count, bevvy_of}
use Rattle.aff_spec.specs.BlockHashes.{chunks_in}
use Rattle.aff_spec.specs.Names.{bevvy_name, index_name}
use Rattle.aff_spec.specs.Streams.{part_of, chunk_of, stream_byte, full_points}
use Rattle.aff_spec.proofs.Chunks.{AreChunks, chunk_of_concat}
use Rattle.aff_spec.proofs.Streams.{length-full_points, full_points_fit, AreChunks-bevvy, length-bevvy_of, get_or-bevvy_of}
use Rattle.aff_bevvy.specs.declared.error.StreamError.{StreamError}
use Rattle.aff_bevvy.specs.declared.error.StreamError.TheVariants.{NoSegment, Ragged, PointPastEnd, PointLength, Failed, Memory}
use Rattle.aff_bevvy.specs.Chunks.{HasChunks}
use Rattle.aff_bevvy.specs.Faults.{LacksSegment, IsRagged, IsStreamRefused}
use Rattle.aff_bevvy.specs.Segments.{Lengths, IsBevvy, AreBevvies, held_length}
use Rattle.aff_bevvy.specs.Streams.{IsStream, IsChunk, IsStoredLength, chunk_point, chunk_room}
use Rattle.aff_bevvy.proofs.Listing.{is_bevvy}

-- chunks one after another
length-concat : (chunks : List (List ℕ)) → AreChunks chunks → length (concat chunks) ≡ 32768 * length chunks
unfolding AreChunks
length-concat [] whole = refl
length-concat (p ∷ chunks) whole = omega (arith, length-append p (concat chunks), length-concat chunks whole.1, whole.0)

are_chunks : (chunks : List (List ℕ)) → All (λ chunk. length chunk ≡ 32768) chunks → AreChunks chunks
unfolding AreChunks
are_chunks chunks all = recursion_from_All (λ chunk. length chunk ≡ 32768) chunks all

-- a segment with a byte is there
there : (o : Option (List ℕ)) (n : ℕ) → 0 < n → length (unwrap_or o []) ≡ n → option_map length o ≡ Some n
there None n some is = absurd (omega (arith, some, is))
there (Some bytes) n some is = ap Some is

-- point k of an index of full chunks
point_of_full : (n k : ℕ) → n ≤ 1024 → k < n → point_at (flat_map point_bytes (full_points n)) k ≡ record { at = 32768 * k; len = 32768 }
point_of_full n k few below =
    let none : Point = record { at = 0; len = 0 } in
    ap (λ v. point_at v k) (sym (append-nil (flat_map point_bytes (full_points n))))
    ∙ point_at-flat_map (full_points n) [] k none (full_points_fit n few) (omega (arith, below, length-full_points n))
    ∙ get_or-map-range_with_len (λ k. record { at = 32768 * k; len = 32768 }) 0 n k k none below (omega arith)

module _ (held : Held) (stream : List ℕ) (chunks : List (List ℕ)) (has : HasChunks held stream chunks) (whole : AreChunks chunks) where
  room_of : (b : ℕ) → b < bevvy_count (length chunks) → length (bytes_of held (bevvy_name stream b)) ≡ 32768 * length (bevvy_of chunks b)
  room_of b below = ap length (has.bevvy b below) ∙ length-concat (bevvy_of chunks b) (AreChunks-bevvy chunks b whole)

  index_of : (b : ℕ) → b < bevvy_count (length chunks) → length (bytes_of held (index_name stream b)) ≡ 12 * chunks_in (length chunks) b
  index_of b below =
      ap length (has.index b below) ∙ length-flat_map-point_bytes (full_points (length (bevvy_of chunks b)))
      ∙ ap (λ n. 12 * n) (length-full_points (length (bevvy_of chunks b)) ∙ length-bevvy_of chunks b)

  bevvy_is : (b : ℕ) → b < bevvy_count (length chunks) → IsBevvy (held_length held) stream (length chunks) b
  bevvy_is b below =
      is_bevvy (held_length held) stream (length chunks) b (32768 * length (bevvy_of chunks b))
      (there _ (32768 * length (bevvy_of chunks b)) (omega (arith, below, length-bevvy_of chunks b)) (room_of b below))
      (omega (arith, length-bevvy_of chunks b))
      (there _ (12 * chunks_in (length chunks) b) (omega (arith, below)) (index_of b below))

  module _ (c : ℕ) (low : c < length chunks) where
    below_all : c / 1024 < bevvy_count (length chunks)
    below_all = omega (arith, low)

    in_bevvy : c % 1024 < length (bevvy_of chunks (c / 1024))
    in_bevvy = omega (arith, low, length-bevvy_of chunks (c / 1024))

    point_is : chunk_point held stream c ≡ record { at = 32768 * (c % 1024); len = 32768 }
    point_is =
        ap (λ v. point_at v (c % 1024)) (has.index (c / 1024) below_all)
        ∙ point_of_full (length (bevvy_of chunks (c / 1024))) (c % 1024) (omega (arith, length-bevvy_of chunks (c / 1024))) in_bevvy

    chunk_stands : (size : ℕ) → IsChunk held stream size c
    chunk_stands size =
        let at : (chunk_point held stream c).at ≡ 32768 * (c % 1024) = ap (λ p. p.at) point_is in
        let len : (chunk_point held stream c).len ≡ 32768 = ap (λ p. p.len) point_is in
        record { inside = omega (arith, at, len, room_of (c / 1024) below_all, in_bevvy); whole = inl len }

    chunk_is : chunk_of held stream c ≡ get_or chunks c []
    chunk_is =
        let place : 1024 * (c / 1024) + c % 1024 ≡ c = omega arith in
        ap (λ p. part_of p (bytes_of held (bevvy_name stream (c / 1024)))) point_is
        ∙ ap (λ v. take 32768 (drop (32768 * (c % 1024)) v)) (has.bevvy (c / 1024) below_all)
        ∙ chunk_of_concat (bevvy_of chunks (c / 1024)) (c % 1024) (AreChunks-bevvy chunks (c / 1024) whole) in_bevvy
        ∙ get_or-bevvy_of chunks (c / 1024) (c % 1024) (omega arith)
        ∙ ap (λ k. get_or chunks k []) place

  byte_is : (j : ℕ) → j < 32768 * length chunks → stream_byte held stream j ≡ slice_get (concat chunks) j
  byte_is j below =
      let low : j / 32768 < length chunks = omega (arith, below) in
      let place : 32768 * (j / 32768) + j % 32768 ≡ j = omega arith in
      let part : List ℕ = take 32768 (drop (32768 * (j / 32768)) (concat chunks)) in
      let long : j % 32768 < length (take 32768 (drop (32768 * (j / 32768)) (concat chunks))) =
      omega (arith, low, length-concat chunks whole, length-take 32768 (drop (32768 * (j / 32768)) (concat chunks)), length-drop (32768 * (j / 32768)) (concat chunks)) in
      ap (λ v. slice_get v (j % 32768)) (chunk_is (j / 32768) low ∙ sym (chunk_of_concat chunks (j / 32768) whole low))
      ∙ slice_get-get_or part (j % 32768) 0 long
      ∙ ap Some (get_or-take 32768 (drop (32768 * (j / 32768)) (concat chunks)) (j % 32768) 0 (omega arith) ∙ get_or-drop (32768 * (j / 32768)) (concat chunks) (j % 32768) 0 ∙ ap (λ k. get_or (concat chunks) k 0) place)
      ∙ sym (slice_get-get_or (concat chunks) j 0 (omega (arith, below, length-concat chunks whole)))

pub is_stream : (held : Held) (stream : List ℕ) (chunks : List (List ℕ)) → HasChunks held stream chunks → All (λ chunk. length chunk ≡ 32768) chunks → (size : ℕ) → chunk_count size ≡ length chunks → IsStream held stream size
is_stream held stream chunks has whole size count = record {
  bevvies = subst (AreBevvies (held_length held) stream) (sym count) (bevvy_is held stream chunks has (are_chunks chunks whole));
  chunks = λ c low. chunk_stands held stream chunks has (are_chunks chunks whole) c (omega (arith, low, count)) size;
}

pub has_chunks : (held : Held) (stream : List ℕ) (chunks : List (List ℕ)) → HasChunks held stream chunks → All (λ chunk. length chunk ≡ 32768) chunks → (c : ℕ) → c < length chunks → chunk_of held stream c ≡ get_or chunks c []
has_chunks held stream chunks has whole c low = chunk_is held stream chunks has (are_chunks chunks whole) c low

pub has_bytes : (held : Held) (stream : List ℕ) (chunks : List (List ℕ)) → HasChunks held stream chunks → All (λ chunk. length chunk ≡ 32768) chunks → (j : ℕ) → j < 32768 * length chunks → stream_byte held stream j ≡ slice_get (concat chunks) j
has_bytes held stream chunks has whole j below = byte_is held stream chunks has (are_chunks chunks whole) j below

-- a bevvy that is there lacks no segment, and its index has its length
not_lacking : (len : Lengths) (stream : List ℕ) (n b : ℕ) → IsBevvy len stream n b → ¬ (LacksSegment len stream b)
not_lacking len stream n b is (inl none) = missing _ none is.bevvy
  where
    missing : (o : Option ℕ) → o ≡ None → ¬ (IsSomeAnd o (λ bytes. bytes < 2 ^ 64))
    missing None e some = some
    missing (Some m) e some = absurd (cc e)
not_lacking len stream n b is (inr none) = let two : None ≡ Some (12 * chunks_in n b) = sym none ∙ is.index in absurd (cc two)

not_ragged : (len : Lengths) (stream : List ℕ) (n b : ℕ) → IsBevvy len stream n b → ¬ (IsRagged len stream n b)
not_ragged len stream n b is ragged = subst (λ o. IsSomeAnd o (λ bytes. bytes ≢ 12 * chunks_in n b)) is.index ragged.index refl

pub is_not_refused : (held : Held) (stream : List ℕ) (size : ℕ) (e : StreamError) → IsStream held stream size → IsStreamRefused held stream size e → (e ≡ Failed) ⊎ (e ≡ Memory)
is_not_refused held stream size (NoSegment b) is refused = absurd (not_lacking (held_length held) stream (chunk_count size) b (is.bevvies b refused.0.0) refused.0.1)
is_not_refused held stream size (Ragged b) is refused = absurd (not_ragged (held_length held) stream (chunk_count size) b (is.bevvies b refused.0.0) refused.0.1)
is_not_refused held stream size (PointPastEnd c) is refused =
    let past : chunk_room held stream c < (chunk_point held stream c).at + (chunk_point held stream c).len = refused.1.1 in
    let inside : (chunk_point held stream c).at + (chunk_point held stream c).len ≤ chunk_room held stream c = (is.chunks c refused.1.0).inside in
    absurd (omega (arith, past, inside))
is_not_refused held stream size (PointLength c l) is refused =
    absurd (refused.1.3 (subst (IsStoredLength size c) (sym refused.1.2) (is.chunks c refused.1.0).whole))
is_not_refused held stream size Failed is refused = inl refl
is_not_refused held stream size Memory is refused = inr refl
