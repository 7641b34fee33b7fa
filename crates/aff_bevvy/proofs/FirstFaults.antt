-- The first fault of a stream's segments.
use Rattle.std.proofs.Common.{ℕ, ◌<◌, List, sym, subst}
use Rattle.aff_model.specs.Held.{Held}
use Rattle.aff_spec.specs.Bevvies.{bevvy_count}
use Rattle.aff_bevvy.specs.declared.error.StreamError.{StreamError}
use Rattle.aff_bevvy.specs.declared.error.StreamError.TheVariants.{NoSegment, Ragged, PointPastEnd, PointLength, Failed, Memory}
use Rattle.aff_bevvy.specs.Checks.{IsBevvyFault, IsOfSegments, IsOfChunks}
use Rattle.aff_bevvy.specs.Faults.{LacksSegment, IsRagged, IsListFault, IsChunkFault}
use Rattle.aff_bevvy.specs.Segments.{Lengths, IsBevvy, AreBevvies}

-- a fault of a bevvy, where those before it are as they have to be
pub first_of_bevvies : (len : Lengths) (stream : List ℕ) (n b : ℕ) (e : StreamError) → b < bevvy_count n → ((k : ℕ) → k < b → IsBevvy len stream n k) → IsBevvyFault len stream n b e → IsListFault len stream n e
first_of_bevvies len stream n b (NoSegment k) low before fault =
    subst (λ j. (j < bevvy_count n) × LacksSegment len stream j × ((k : ℕ) → k < j → IsBevvy len stream n k)) (sym fault.0) (low, fault.1, before)
first_of_bevvies len stream n b (Ragged k) low before fault =
    subst (λ j. (j < bevvy_count n) × IsRagged len stream n j × ((k : ℕ) → k < j → IsBevvy len stream n k)) (sym fault.0) (low, fault.1, before)
first_of_bevvies len stream n b (PointPastEnd c) low before fault = absurd fault
first_of_bevvies len stream n b (PointLength c l) low before fault = absurd fault
first_of_bevvies len stream n b Failed low before fault = absurd fault
first_of_bevvies len stream n b Memory low before fault = tt

-- it is of the segments
pub of_segments : (len : Lengths) (stream : List ℕ) (n b : ℕ) (e : StreamError) → IsBevvyFault len stream n b e → IsOfSegments e
of_segments len stream n b (NoSegment k) fault = tt
of_segments len stream n b (Ragged k) fault = tt
of_segments len stream n b (PointPastEnd c) fault = fault
of_segments len stream n b (PointLength c l) fault = fault
of_segments len stream n b Failed fault = fault
of_segments len stream n b Memory fault = tt

-- a refusal that looks at no point says nothing of the chunks
pub no_chunk_fault : (held : Held) (stream : List ℕ) (size : ℕ) (e : StreamError) → IsOfSegments e → IsChunkFault held stream size e
no_chunk_fault held stream size (NoSegment k) of = tt
no_chunk_fault held stream size (Ragged k) of = tt
no_chunk_fault held stream size (PointPastEnd c) of = absurd of
no_chunk_fault held stream size (PointLength c l) of = absurd of
no_chunk_fault held stream size Failed of = tt
no_chunk_fault held stream size Memory of = tt

-- and one for a chunk comes where all bevvies are as they have to be
pub no_list_fault : (len : Lengths) (stream : List ℕ) (n : ℕ) (e : StreamError) → IsOfChunks e → AreBevvies len stream n → IsListFault len stream n e
no_list_fault len stream n (NoSegment k) of all = absurd of
no_list_fault len stream n (Ragged k) of all = absurd of
no_list_fault len stream n (PointPastEnd c) of all = all
no_list_fault len stream n (PointLength c l) of all = all
no_list_fault len stream n Failed of all = all
no_list_fault len stream n Memory of all = tt
