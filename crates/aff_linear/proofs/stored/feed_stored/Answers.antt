use Rattle.std.proofs.Common.{◌+◌, unwrap_or, ap, ◌∙◌, arith}
use Rattle.aff_spec.specs.Streams.{stream_byte}
use Rattle.aff_spec.specs.Walks.{stream_bytes}
use Rattle.aff_linear.proofs.Pieces.{fed_more}
use Rattle.aff_linear.proofs.stored.feed_stored.Goals as goal

pub loop-done-preserved : goal.loop-done-preserved
loop-done-preserved g c =
    let held = g.F.Folder.held c.args.folder.now in
    let before = g.F.Folder.held c.loop-done.folder in
    record {
      low = omega (arith, c.in-Ok.ensures.few, c.loop-done-test.true);
      fed = λ told.
          fed_more (λ j. unwrap_or (stream_byte held c.args.stream.now j) 0) c.args.at c.loop-done.done c.in-Ok.count c.args.feeder.now c.loop-done.feeder c.feed_piece.new.feeder
          (stream_bytes before c.args.stream.now (c.args.at + c.loop-done.done) c.in-Ok.count)
          (c.loop-done.invariant.fed told) (c.in-Ok.ensures.fed told)
          (ap (λ h. stream_bytes h c.args.stream.now (c.args.at + c.loop-done.done) c.in-Ok.count) (c.loop-done.invariant.same told));
      same = λ told. c.in-Ok.ensures.same told ∙ c.loop-done.invariant.same told;
      later = omega (arith, c.in-Ok.ensures.cause.later, c.loop-done.invariant.later);
    }
