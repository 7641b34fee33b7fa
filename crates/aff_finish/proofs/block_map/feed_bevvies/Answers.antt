use Rattle.std.proofs.Common.{◌++◌, ap, ◌∙◌, arith}
use Rattle.aff_model.specs.Held.{bytes_of}
use Rattle.aff_finish.specs.Kept.{kept_name}
use Rattle.aff_finish.proofs.Feeds.{more_of_bevvies}
use Rattle.aff_finish.proofs.block_map.feed_bevvies.Goals as goal

pub loop-bevvy-preserved : goal.loop-bevvy-preserved
loop-bevvy-preserved g c =
    let i = c.loop-bevvy.invariant in
    record {
      room = omega (arith, c.feed_bevvy.auto.buffer, i.room);
      fed = λ told.
          more_of_bevvies (λ b. bytes_of (g.F.Folder.held c.args.folder.now) (kept_name c.args.kept c.args.stream.now b)) c.args.inner.now c.loop-bevvy.inner c.feed_bevvy.new.inner c.loop-bevvy.bevvy
          (i.fed told)
          (c.in_default.ensures.fed told ∙ ap (λ h. c.loop-bevvy.inner ++ bytes_of h (kept_name c.args.kept c.args.stream.now c.loop-bevvy.bevvy)) (i.same told));
      same = λ told. c.in_default.ensures.same told ∙ i.same told;
      later = omega (arith, c.in_default.ensures.cause.later, i.later);
    }
