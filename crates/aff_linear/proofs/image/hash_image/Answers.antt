use Rattle.std.proofs.Common.{◌++◌, ap, ◌∙◌}
use Rattle.aff_linear.specs.Feeds.{image_range}
use Rattle.aff_linear.proofs.Volumes.{bytes_are}
use Rattle.aff_linear.proofs.image.hash_image.Goals as goal

pub returns-in-Ok-clause-linear : goal.returns-in-Ok-clause-linear
returns-in-Ok-clause-linear g c =
    let held = g.F.Folder.held c.args.folder.now in
    let image = c.requires.image in (
      c.feed_image.new.feeder,
      c.finish.ensures,
      λ told.
          c.in-Ok.ensures.fed told
          ∙ ap (λ v. v ++ image_range held c.in_ok-stream.stream c.args.entries.now 0 c.args.size) c.in_ok-feeder.ensures
          ∙ ap (λ v. image_range held v c.args.entries.now 0 c.args.size) c.in_ok-stream.ensures.urn
          ∙ bytes_are held c.args.uuid.now c.args.size image.chunks c.args.entries.now c.requires.uuid (image.stored told) image.runs.each,
    )
