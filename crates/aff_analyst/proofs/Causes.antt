-- The cause of an error in a part of a range is one in the range.
use Rattle.std.proofs.Common.{◌≡◌, ℕ, ◌+◌, ◌-◌, ◌/◌, ◌<◌, ◌≤◌, Bool, false, Some, IsTrue, List, length, map, sym, ap, subst, ◌∙◌, arith, slice_get}
use Rattle.aff_model.specs.declared.extent.Extent.{Extent}
use Rattle.aff_model.specs.declared.publication.Place.TheVariants.{Chunk}
use Rattle.aff_model.specs.Cells.{is_bad_at}
use Rattle.aff_model.specs.History.{Part, publication_of}
use Rattle.aff_model.specs.Plan.{Planned, has_place}
use Rattle.aff_model.proofs.Find.{has_place-inside}
use Rattle.aff_analyst.specs.Bytes.{chunk_of, stored_before}
use Rattle.aff_analyst.specs.Faults.{IsDamaged, IsDamagedIn, IsFault, IsFetchFault, IsNeeded, IsOtherChunk, IsPieceFault, IsRangeFault, MayRead}
use Rattle.aff_analyst.specs.Reads.{IsInChunk}
use Rattle.aff_analyst.specs.declared.error.ReadError.{ReadError}
use Rattle.aff_analyst.specs.declared.error.ReadError.TheVariants.{TooLong, PastEnd, Failed, Damaged}
use Rattle.aff_analyst.proofs.Keeping.{chunk_along}

-- of a fetch in the range that needs the chunk
pub fault_of_fetch : (tells : Bool) {R : Type 0} (e : Extent) (p : Part R) (at len first chunk : ℕ) (error : ReadError) → IsInChunk e at len → first < len → is_bad_at e (publication_of p) (at + first) ≡ false
    → slice_get p.places ((at - e.at) / 32768) ≡ Some (Chunk chunk) → IsFetchFault tells p (stored_before p.places ((at - e.at) / 32768)) chunk error → IsPieceFault tells e p at len error
fault_of_fetch tells e p at len first chunk TooLong inner low good is f = absurd f
fault_of_fetch tells e p at len first chunk PastEnd inner low good is f = absurd f
fault_of_fetch tells e p at len first chunk Failed inner low good is f = tt
fault_of_fetch tells e p at len first chunk (Damaged c recorded found) inner low good is f =
    let here : chunk_of e (at + first) ≡ (at - e.at) / 32768 = chunk_along e at len first inner low in
    record {
      place = at + first;
      from = omega arith;
      to = omega (arith, low);
      needed = record {
        holds = has_place-inside e (at + first) (omega (arith, inner.inside.from)) (omega (arith, inner.inside.to, low));
        readable = good;
        stored = ap (slice_get p.places) here ∙ is ∙ ap (λ n. Some (Chunk n)) (sym f.0);
      };
      other = subst (λ j. IsOtherChunk tells p (stored_before p.places j) recorded found) (sym here) f.1;
    }

-- of a part of the range in a piece's extent
pub fault_of_piece : (plan : Planned) (tells : Bool) {R : Type 0} (pieces : List (Part R)) (number : ℕ) (e : Extent) (p : Part R) (at count len : ℕ) (error : ReadError)
    → MayRead plan.size at len → count ≤ len → slice_get pieces number ≡ Some p → slice_get plan.extents p.extent ≡ Some e → IsPieceFault tells e p at count error → IsFault plan tells pieces at len error
fault_of_piece plan tells pieces number e p at count len TooLong may few seen planned f = absurd f
fault_of_piece plan tells pieces number e p at count len PastEnd may few seen planned f = absurd f
fault_of_piece plan tells pieces number e p at count len Failed may few seen planned f = may
fault_of_piece plan tells pieces number e p at count len (Damaged chunk recorded found) may few seen planned f = (
  may,
  record {
    number = number;
    piece = p;
    extent = e;
    seen = seen;
    planned = planned;
    damaged = record { place = f.place; from = f.from; to = omega (arith, f.to, few); needed = f.needed; other = f.other };
  },
)

-- of a later part of the range
pub fault_of_rest : (plan : Planned) (tells : Bool) {R : Type 0} (pieces : List (Part R)) (at done rest len : ℕ) (error : ReadError) → MayRead plan.size at len → done + rest ≡ len → IsFault plan tells pieces (at + done) rest error → IsFault plan tells pieces at len error
fault_of_rest plan tells pieces at done rest len TooLong may sum f = absurd (omega (arith, may.short, sum, f))
fault_of_rest plan tells pieces at done rest len PastEnd may sum f = absurd (omega (arith, may.inside, sum, f.1))
fault_of_rest plan tells pieces at done rest len Failed may sum f = may
fault_of_rest plan tells pieces at done rest len (Damaged chunk recorded found) may sum f =
    let d = f.1.damaged in (
      may,
      record {
        number = f.1.number;
        piece = f.1.piece;
        extent = f.1.extent;
        seen = f.1.seen;
        planned = f.1.planned;
        damaged = record { place = d.place; from = omega (arith, d.from); to = omega (arith, d.to, sum); needed = d.needed; other = d.other };
      },
    )

-- of the range's numbers
pub fault_of_range : (plan : Planned) (tells : Bool) {R : Type 0} (pieces : List (Part R)) (at len : ℕ) (error : ReadError) → IsRangeFault plan.size at len error → IsFault plan tells pieces at len error
fault_of_range plan tells pieces at len TooLong f = f
fault_of_range plan tells pieces at len PastEnd f = f
fault_of_range plan tells pieces at len Failed f = absurd f
fault_of_range plan tells pieces at len (Damaged chunk recorded found) f = absurd f
