-- Bytes of a stream as they stand in its bevvies.
use Rattle.std.proofs.Common.{◌≡◌, ℕ, ◌+◌, ◌*◌, ◌/◌, ◌%◌, ◌<◌, ◌≤◌, List, [], length, take, drop, get_or, refl, sym, ap, ◌∙◌, arith, append-nil, length-take, length-drop}
use Rattle.std.specs.Prelude.{Option, None, Some, IsSomeAnd, unwrap_or}
use Rattle.std.specs.List.{flat_map}
use Rattle.std.specs.FinMap.{get}
use Rattle.std.proofs.lemmas.List.{ext_get_or, get_or-take, get_or-drop}
use Rattle.std.proofs.lemmas.List.FromFn.{length-map-range_with_len, get_or-map-range_with_len}
use Rattle.std.proofs.lemmas.Option.{unwrap_or-slice_get}
use Rattle.aff_model.specs.Held.{Held, bytes_of, IsInside}
use Rattle.aff_fields.specs.declared.point.Point.{Point}
use Rattle.aff_fields.specs.Point.{point_at, point_bytes}
use Rattle.aff_fields.proofs.PointLaws.{point_at-flat_map}
use Rattle.aff_spec.specs.Bevvies.{bevvy_count}
use Rattle.aff_spec.specs.BlockHashes.{chunks_in}
use Rattle.aff_spec.specs.Names.{bevvy_name}
use Rattle.aff_spec.specs.Streams.{part_of, chunk_of, stream_byte, full_points}
use Rattle.aff_spec.specs.Walks.{IsStreamIn, stream_bytes}
use Rattle.aff_spec.proofs.Streams.{length-full_points, full_points_fit}

-- point k of an index of full chunks
point_of_full : (n k : ℕ) → n ≤ 1024 → k < n → point_at (flat_map point_bytes (full_points n)) k ≡ record { at = 32768 * k; len = 32768 }
point_of_full n k few below =
    let none : Point = record { at = 0; len = 0 } in
    ap (λ v. point_at v k) (sym (append-nil (flat_map point_bytes (full_points n))))
    ∙ point_at-flat_map (full_points n) [] k none (full_points_fit n few) (omega (arith, below, length-full_points n))
    ∙ get_or-map-range_with_len (λ k. record { at = 32768 * k; len = 32768 }) 0 n k k none below (omega arith)

-- a segment that is there
some_length : (o : Option (List ℕ)) (n : ℕ) → IsSomeAnd o (λ bytes. length bytes ≡ n) → length (unwrap_or o []) ≡ n
some_length None n is = absurd is
some_length (Some bytes) n is = is

some_inside : (o : Option (List ℕ)) (n m : ℕ) → m ≤ n → IsSomeAnd o (λ bytes. length bytes ≡ n) → IsSomeAnd o (λ bytes. m ≤ length bytes)
some_inside None n m low is = absurd is
some_inside (Some bytes) n m low is = omega (arith, low, is)

module _ (held : Held) (stream : List ℕ) (n : ℕ) (is : IsStreamIn held stream n) where
  -- a byte of the stream is that of its bevvy
  byte_in_bevvy : (j : ℕ) → j < 32768 * n → unwrap_or (stream_byte held stream j) 0 ≡ get_or (bytes_of held (bevvy_name stream (j / 33554432))) (j % 33554432) 0
  byte_in_bevvy j below =
      let bevvy = bytes_of held (bevvy_name stream (j / 32768 / 1024)) in
      let number : j / 32768 / 1024 ≡ j / 33554432 = omega arith in
      let place : 32768 * (j / 32768 % 1024) + j % 32768 ≡ j % 33554432 = omega arith in
      let there : j / 32768 / 1024 < bevvy_count n = omega (arith, below) in
      let point = point_of_full (chunks_in n (j / 32768 / 1024)) (j / 32768 % 1024) (omega arith) (omega (arith, below)) in
      unwrap_or-slice_get (chunk_of held stream (j / 32768)) (j % 32768) 0
      ∙ ap (λ v. get_or (part_of (point_at v (j / 32768 % 1024)) bevvy) (j % 32768) 0) (is.index (j / 32768 / 1024) there)
      ∙ ap (λ p. get_or (part_of p bevvy) (j % 32768) 0) point
      ∙ get_or-take 32768 (drop (32768 * (j / 32768 % 1024)) bevvy) (j % 32768) 0 (omega arith)
      ∙ get_or-drop (32768 * (j / 32768 % 1024)) bevvy (j % 32768) 0
      ∙ ap (λ k. get_or bevvy k 0) place
      ∙ ap (λ b. get_or (bytes_of held (bevvy_name stream b)) (j % 33554432) 0) number

  -- a range of the stream that ends with its bevvy or before is a range of the bevvy
  module _ (at count : ℕ) (some : 0 < count) (inside : at + count ≤ 32768 * n) (cut : at % 33554432 + count ≤ 33554432) where
    there_is : at / 33554432 < bevvy_count n
    there_is = omega (arith, some, inside)

    long : at % 33554432 + count ≤ 32768 * chunks_in n (at / 33554432)
    long = omega (arith, inside, cut)

    pub piece_inside : IsInside held (bevvy_name stream (at / 33554432)) (at % 33554432) count
    piece_inside = some_inside (get held (bevvy_name stream (at / 33554432))) (32768 * chunks_in n (at / 33554432)) (at % 33554432 + count) long (is.bevvy (at / 33554432) there_is)

    length_in : length (bytes_of held (bevvy_name stream (at / 33554432))) ≡ 32768 * chunks_in n (at / 33554432)
    length_in = some_length (get held (bevvy_name stream (at / 33554432))) (32768 * chunks_in n (at / 33554432)) (is.bevvy (at / 33554432) there_is)

    pub piece_is : take count (drop (at % 33554432) (bytes_of held (bevvy_name stream (at / 33554432)))) ≡ stream_bytes held stream at count
    piece_is =
        let bevvy = bytes_of held (bevvy_name stream (at / 33554432)) in
        let taken : length (take count (drop (at % 33554432) bevvy)) ≡ count = omega (arith, length-take count (drop (at % 33554432) bevvy), length-drop (at % 33554432) bevvy, length_in, long) in
        ext_get_or 0 (take count (drop (at % 33554432) bevvy)) (stream_bytes held stream at count)
        (taken ∙ sym (length-map-range_with_len (λ j. unwrap_or (stream_byte held stream j) 0) at count)) (λ k below.
        let low : k < count = omega (arith, below, taken) in
        let number : (at + k) / 33554432 ≡ at / 33554432 = omega (arith, low, cut) in
        let place : (at + k) % 33554432 ≡ at % 33554432 + k = omega (arith, low, cut) in
        get_or-take count (drop (at % 33554432) bevvy) k 0 low
        ∙ get_or-drop (at % 33554432) bevvy k 0
        ∙ ap (λ p. get_or bevvy p 0) (sym place)
        ∙ ap (λ b. get_or (bytes_of held (bevvy_name stream b)) ((at + k) % 33554432) 0) (sym number)
        ∙ sym (byte_in_bevvy (at + k) (omega (arith, low, inside)))
        ∙ sym (get_or-map-range_with_len (λ j. unwrap_or (stream_byte held stream j) 0) at count k (at + k) 0 low refl))
