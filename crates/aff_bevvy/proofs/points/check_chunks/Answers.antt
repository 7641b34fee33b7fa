use Rattle.std.proofs.Common.{◌≡◌, ℕ, ◌+◌, ◌*◌, ◌<◌, ◌≤◌, Some, length, get_or, sym, subst, ◌∙◌, arith}
use Rattle.aff_model.specs.Held.{bytes_of}
use Rattle.aff_model.specs.Plan.{chunk_count}
use Rattle.aff_spec.specs.BlockHashes.{chunks_in}
use Rattle.aff_spec.specs.Names.{bevvy_name, index_name}
use Rattle.aff_bevvy.specs.Checks.{IsChunkFaultFrom}
use Rattle.aff_bevvy.specs.Segments.{held_length}
use Rattle.aff_bevvy.specs.Streams.{IsChunk}
use Rattle.aff_bevvy.proofs.ChunkPoints.{one_bevvy_more, first_of_chunks}
use Rattle.aff_bevvy.proofs.Lengths.{room_known}
use Rattle.aff_bevvy.proofs.points.check_chunks.Goals as goal

pub check_index-requires-clause-index : goal.check_index-requires-clause-index
check_index-requires-clause-index g c κs within = λ t.
    let low = subst (λ n. c.loop-bevvy.bevvy < n) c.requires.count c.loop-bevvy-test.true in
    subst (λ h. held_length h (index_name c.args.stream.now c.loop-bevvy.bevvy) ≡ Some (12 * chunks_in (chunk_count c.args.size) c.loop-bevvy.bevvy))
    (sym (c.loop-bevvy.invariant.same t)) (c.requires.bevvies t c.loop-bevvy.bevvy low).index

pub check_index-requires-clause-room : goal.check_index-requires-clause-room
check_index-requires-clause-room g c κs within = λ t.
    let low = subst (λ n. c.loop-bevvy.bevvy < n) c.requires.count c.loop-bevvy-test.true in
    subst (λ h. length (bytes_of h (bevvy_name c.args.stream.now c.loop-bevvy.bevvy)) ≡ get_or c.args.lens.now c.loop-bevvy.bevvy 0)
    (sym (c.loop-bevvy.invariant.same t)) (room_known (g.F.Folder.held c.args.folder.now) (bevvy_name c.args.stream.now c.loop-bevvy.bevvy) _ ((c.requires.lengths t).each c.loop-bevvy.bevvy low))

pub loop-bevvy-preserved : goal.loop-bevvy-preserved
loop-bevvy-preserved g c = record {
  chunks = λ t.
      one_bevvy_more (IsChunk (g.F.Folder.held c.args.folder.now) c.args.stream.now c.args.size) (chunk_count c.args.size) c.loop-bevvy.bevvy (c.loop-bevvy.invariant.chunks t)
      (subst (λ h. (k : ℕ) → 1024 * c.loop-bevvy.bevvy ≤ k → k < 1024 * (c.loop-bevvy.bevvy + 1) → k < chunk_count c.args.size → IsChunk h c.args.stream.now c.args.size k)
      (c.loop-bevvy.invariant.same t) (c.in_default.ensures.ok t));
  same = λ t. c.check_index.ensures.same t ∙ c.loop-bevvy.invariant.same t;
  later = omega (arith, c.loop-bevvy.invariant.later, c.check_index.ensures.cause.later);
}

pub returns-in-Err-clause-fault : goal.returns-in-Err-clause-fault
returns-in-Err-clause-fault g c = λ t.
    first_of_chunks (g.F.Folder.held c.args.folder.now) c.args.stream.now c.args.size c.loop-bevvy.bevvy (c.loop-bevvy.invariant.chunks t) c.in-Err.fault
    (subst (λ h. IsChunkFaultFrom h c.args.stream.now c.args.size (1024 * c.loop-bevvy.bevvy) c.in-Err.fault) (c.loop-bevvy.invariant.same t) (c.in-Err.ensures.fault t))

pub returns-clause-ok : goal.returns-clause-ok
returns-clause-ok g c = λ t k low. c.loop-bevvy.invariant.chunks t k (omega (arith, low, c.loop-bevvy-test.false, c.requires.count)) low
