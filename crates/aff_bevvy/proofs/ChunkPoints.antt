-- The points of a bevvy's index, and the chunks that they are of.
use Rattle.std.proofs.Common.{◌≡◌, ℕ, ◌+◌, ◌-◌, ◌*◌, ◌/◌, ◌%◌, ◌<◌, ◌≤◌, List, length, get_or, below_more, sym, ap, subst, ◌∙◌, arith, inl, inr}
use Rattle.std.specs.Prelude.{◌≢◌, Some, slice_get}
use Rattle.std.proofs.lemmas.Bool.{cases_lt}
use Rattle.std.proofs.lemmas.Option.{slice_get-get_or, slice_get_within, get_or_from_slice_get}
use Rattle.aff_model.specs.Held.{Held, bytes_of}
use Rattle.aff_model.specs.Plan.{chunk_count}
use Rattle.aff_fields.specs.declared.point.Point.{Point}
use Rattle.aff_fields.specs.Point.{point_at, points_of}
use Rattle.aff_fields.proofs.PointLaws.{length-points_from, get_or-points_from}
use Rattle.aff_spec.specs.BlockHashes.{chunks_in}
use Rattle.aff_spec.specs.Names.{bevvy_name, index_name}
use Rattle.aff_bevvy.specs.declared.error.StreamError.{StreamError}
use Rattle.aff_bevvy.specs.declared.error.StreamError.TheVariants.{NoSegment, Ragged, PointPastEnd, PointLength, Failed, Memory}
use Rattle.aff_bevvy.specs.Checks.{IsPointFault, IsFirstPointFault, IsFirstChunkFault, IsChunkFaultFrom, IsOfPoints}
use Rattle.aff_bevvy.specs.Faults.{IsChunkFault}
use Rattle.aff_bevvy.specs.Streams.{IsPoint, IsChunk, IsStoredLength, chunk_point, chunk_room}

-- the points so far are as they have to be, and the next one is
pub one_point_more : (points : List Point) (size len c k : ℕ) (d : Point) → k < length points → ((j : ℕ) → j < k → (p : Point) → slice_get points j ≡ Some p → IsPoint size len (c + j) p)
    → IsPoint size len (c + k) (get_or points k d) → (j : ℕ) → j < k + 1 → (p : Point) → slice_get points j ≡ Some p → IsPoint size len (c + j) p
one_point_more points size len c k d low before next =
    below_more (λ j. (p : Point) → slice_get points j ≡ Some p → IsPoint size len (c + j) p) k before
    (λ p is. subst (IsPoint size len (c + k)) (get_or_from_slice_get points k p d is) next)

-- a refusal for the next one
pub first_of_points : (points : List Point) (size len c k : ℕ) (d : Point) (e : StreamError) → k < length points → ((j : ℕ) → j < k → (p : Point) → slice_get points j ≡ Some p → IsPoint size len (c + j) p)
    → IsPointFault size len (c + k) (get_or points k d) e → IsFirstPointFault points size len c e
first_of_points points size len c k d e low before fault =
    record { nth = k; point = get_or points k d; there = slice_get-get_or points k d low; fault = fault; before = λ j p below is. before j below p is }

pub of_points : (size len c : ℕ) (p : Point) (e : StreamError) → IsPointFault size len c p e → IsOfPoints e
of_points size len c p (PointPastEnd k) fault = tt
of_points size len c p (PointLength k l) fault = tt
of_points size len c p (NoSegment b) fault = fault
of_points size len c p (Ragged b) fault = fault
of_points size len c p Failed fault = fault
of_points size len c p Memory fault = fault

-- point k of an index
point_there : (points : List Point) (bytes : List ℕ) (k : ℕ) → points ≡ points_of bytes → k < length points → slice_get points k ≡ Some (point_at bytes k)
point_there points bytes k is low =
    let count : length points ≡ length bytes / 12 = ap length is ∙ length-points_from (length bytes / 12) bytes in
    let d : Point = point_at bytes k in
    slice_get-get_or points k (point_at bytes k) low
    ∙ ap Some (ap (λ v. get_or v k (point_at bytes k)) is ∙ get_or-points_from (length bytes / 12) bytes k (point_at bytes k) (omega (arith, low, count)))

-- the points of bevvy b of a stream of so many bytes
module _ (held : Held) (stream : List ℕ) (size b len : ℕ) (points : List Point)
    (is : points ≡ points_of (bytes_of held (index_name stream b)))
    (all : length points ≡ chunks_in (chunk_count size) b)
    (room : length (bytes_of held (bevvy_name stream b)) ≡ len) where
  point_is : (k : ℕ) → k < 1024 → chunk_point held stream (1024 * b + k) ≡ point_at (bytes_of held (index_name stream b)) k
  point_is k low =
      let bevvy : (1024 * b + k) / 1024 ≡ b = omega (arith, low) in
      let place : (1024 * b + k) % 1024 ≡ k = omega (arith, low) in
      λ i. point_at (bytes_of held (index_name stream (bevvy i))) (place i)

  room_is : (k : ℕ) → k < 1024 → chunk_room held stream (1024 * b + k) ≡ len
  room_is k low =
      let bevvy : (1024 * b + k) / 1024 ≡ b = omega (arith, low) in
      ap (λ j. length (bytes_of held (bevvy_name stream j))) bevvy ∙ room

  small : (k : ℕ) → k < length points → k < 1024
  small k low = omega (arith, low, all)

  chunk_is : (k : ℕ) → k < length points → ((p : Point) → slice_get points k ≡ Some p → IsPoint size len (1024 * b + k) p) → IsChunk held stream size (1024 * b + k)
  chunk_is k low good =
      let point = good (point_at (bytes_of held (index_name stream b)) k) (point_there points _ k is low) in
      subst (λ l. IsPoint size l (1024 * b + k) (chunk_point held stream (1024 * b + k))) (sym (room_is k (small k low)))
      (subst (λ p. IsPoint size len (1024 * b + k) p) (sym (point_is k (small k low))) point)

  -- where each is as it has to be
  pub chunks_stand : ((k : ℕ) (p : Point) → slice_get points k ≡ Some p → IsPoint size len (1024 * b + k) p)
      → (c : ℕ) → 1024 * b ≤ c → c < 1024 * (b + 1) → c < chunk_count size → IsChunk held stream size c
  chunks_stand good c low high below =
      let place : 1024 * b + (c - 1024 * b) ≡ c = omega (arith, low) in
      subst (IsChunk held stream size) place (chunk_is (c - 1024 * b) (omega (arith, low, high, below, all)) (good (c - 1024 * b)))

  -- and where one is not
  first_chunk : (e : StreamError) → IsFirstPointFault points size len (1024 * b) e → IsFirstChunkFault held stream size (1024 * b) e
  first_chunk e first =
      let low : first.nth < length points = slice_get_within points first.nth first.point first.there in
      let same : Some first.point ≡ Some (point_at (bytes_of held (index_name stream b)) first.nth) = sym first.there ∙ point_there points _ first.nth is low in
      let point : first.point ≡ point_at (bytes_of held (index_name stream b)) first.nth = cc same in
      record {
        chunk = 1024 * b + first.nth;
        high = omega (arith, low, all);
        fault =
            subst (λ l. IsPointFault size l (1024 * b + first.nth) (chunk_point held stream (1024 * b + first.nth)) e) (sym (room_is first.nth (small first.nth low)))
            (subst (λ p. IsPointFault size len (1024 * b + first.nth) p e) (point ∙ sym (point_is first.nth (small first.nth low))) first.fault);
        before = λ k from below.
            let place : 1024 * b + (k - 1024 * b) ≡ k = omega (arith, from) in
            subst (IsChunk held stream size) place (chunk_is (k - 1024 * b) (omega (arith, from, below, low)) (λ p there. first.before (k - 1024 * b) p (omega (arith, from, below)) there));
      }

  pub fault_from : (e : StreamError) → IsFirstPointFault points size len (1024 * b) e → IsChunkFaultFrom held stream size (1024 * b) e
  fault_from (PointPastEnd k) first = first_chunk (PointPastEnd k) first
  fault_from (PointLength k l) first = first_chunk (PointLength k l) first
  fault_from (NoSegment k) first = first.fault
  fault_from (Ragged k) first = first.fault
  fault_from Failed first = tt
  fault_from Memory first = tt

-- the chunks of one bevvy more stand
pub one_bevvy_more : (P : ℕ → Type 0) (n b : ℕ) → ((c : ℕ) → c < 1024 * b → c < n → P c) → ((c : ℕ) → 1024 * b ≤ c → c < 1024 * (b + 1) → c < n → P c) → (c : ℕ) → c < 1024 * (b + 1) → c < n → P c
one_bevvy_more P n b before own c low below =
    elim (cases_lt c (1024 * b)) [ inl earlier ↦ before c earlier below | inr here ↦ own c here low below ]

-- a refusal for a chunk of the next bevvy
module _ (held : Held) (stream : List ℕ) (size b : ℕ) (before : (c : ℕ) → c < 1024 * b → c < chunk_count size → IsChunk held stream size c) where
  all_before : (e : StreamError) (first : IsFirstChunkFault held stream size (1024 * b) e) (k : ℕ) → k < first.chunk → IsChunk held stream size k
  all_before e first k low =
      elim (cases_lt k (1024 * b)) [ inl earlier ↦ before k earlier (omega (arith, low, first.high)) | inr here ↦ first.before k here low ]

  pub first_of_chunks : (e : StreamError) → IsChunkFaultFrom held stream size (1024 * b) e → IsChunkFault held stream size e
  first_of_chunks (PointPastEnd c) first =
      subst (λ j. (j < chunk_count size) × (chunk_room held stream j < (chunk_point held stream j).at + (chunk_point held stream j).len) × ((k : ℕ) → k < j → IsChunk held stream size k))
      (sym first.fault.0) (first.high, first.fault.1, all_before (PointPastEnd c) first)
  first_of_chunks (PointLength c l) first =
      subst (λ j. (j < chunk_count size) × ((chunk_point held stream j).at + (chunk_point held stream j).len ≤ chunk_room held stream j) × (l ≡ (chunk_point held stream j).len) × (¬ (IsStoredLength size j l)) × ((k : ℕ) → k < j → IsChunk held stream size k))
      (sym first.fault.0) (first.high, first.fault.2, first.fault.1, (λ is. first.fault.3 (subst (IsStoredLength size first.chunk) first.fault.1 is)), all_before (PointLength c l) first)
  first_of_chunks (NoSegment k) first = absurd first
  first_of_chunks (Ragged k) first = absurd first
  first_of_chunks Failed first = tt
  first_of_chunks Memory first = tt
