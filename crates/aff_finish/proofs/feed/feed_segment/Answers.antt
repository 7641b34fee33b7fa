use Rattle.std.proofs.Common.{◌-◌, ◌++◌, take, drop, ap, ◌∙◌, arith}
use Rattle.aff_model.specs.Held.{bytes_of}
use Rattle.aff_finish.proofs.Feeds.{more_of_segment}
use Rattle.aff_finish.proofs.feed.feed_segment.Goals as goal

pub loop-done-preserved : goal.loop-done-preserved
loop-done-preserved g c =
    let name = c.args.name.now in
    let i = c.loop-done.invariant in
    record {
      low = omega (arith, c.in-Ok.ensures.few, c.loop-done-test.true);
      room = omega (arith, c.feed_piece.auto.buffer, i.room);
      fed = λ told.
          more_of_segment (bytes_of (g.F.Folder.held c.args.folder.now) c.args.name.now) c.args.linear.now c.loop-done.linear c.feed_piece.new.linear c.loop-done.done c.in-Ok.count
          (i.fed told)
          (c.in-Ok.ensures.fed told ∙ ap (λ h. c.loop-done.linear ++ take c.in-Ok.count (drop c.loop-done.done (bytes_of h name))) (i.same told));
      same = λ told. c.in-Ok.ensures.same told ∙ i.same told;
      later = omega (arith, c.in-Ok.ensures.cause.later, i.later);
    }
