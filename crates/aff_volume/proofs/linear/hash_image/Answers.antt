use Rattle.std.proofs.Common.{◌++◌, ap, ◌∙◌}
use Rattle.aff_spec.specs.Volumes.{volume_bytes}
use Rattle.aff_volume.specs.Image.{named_by}
use Rattle.aff_volume.proofs.linear.hash_image.Goals as goal

pub returns-in-Ok-feed_image-clause-linear : goal.returns-in-Ok-feed_image-clause-linear
returns-in-Ok-feed_image-clause-linear g c = (
  c.feed_image.new.linear,
  record { md5 = c.finish.ensures.md5; sha1 = c.finish.ensures.sha1; sha256 = c.finish.ensures.sha256; sha512 = c.finish.ensures.sha512 },
  λ t. c.in-Ok-feed_image.ensures.fed t ∙ ap (λ v. v ++ volume_bytes (g.F.Folder.held c.args.folder.now) (named_by c.args.info.now) c.args.info.now.image_size) c.new-linear.ensures,
)
