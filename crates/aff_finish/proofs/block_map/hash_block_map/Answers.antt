use Rattle.std.proofs.Common.{◌++◌, ◌∙◌}
use Rattle.sha2.specs.Sha512.{sha512}
use Rattle.aff_model.specs.Held.{bytes_of}
use Rattle.aff_finish.specs.Kept.{kept_digest}
use Rattle.aff_finish.specs.declared.block_map.Kept.{Kept}
use Rattle.aff_finish.specs.declared.block_map.Kept.TheVariants.{Md5, Sha1, Sha256}
use Rattle.aff_finish.proofs.Feeds.{all_fed}
use Rattle.aff_finish.proofs.block_map.hash_block_map.Goals as goal

pub returns-clause-hash : goal.returns-clause-hash
returns-clause-hash g c =
    let held = g.F.Folder.held c.args.folder.now in
    let kept = λ (k : Kept). kept_digest held c.in-Ok.stream c.args.chunks k in
    let map = c.args.segments.now.map in
    let idx = c.args.segments.now.idx in (
      c.feed_pending-2.new.outer,
      c.finish.ensures.sha512,
      λ t.
          all_fed (kept Md5) (kept Sha1) (kept Sha256) (sha512 (bytes_of (g.F.Folder.held c.feed_block_hashes.new.folder) map.0)) (sha512 (bytes_of (g.F.Folder.held c.feed_pending.new.folder) idx.0))
          c.new-outer.result c.feed_block_hashes.new.outer c.feed_pending.new.outer c.feed_pending-2.new.outer
          c.new-outer.ensures (c.in_default-feed_block_hashes.ensures.fed t) (c.in_default-feed_pending.ensures.fed t) (c.in_default-feed_pending-2.ensures.fed t)
          ∙ (λ i.
          kept_digest held (c.in-Ok.ensures i) c.args.chunks Md5
          ++ (kept_digest held (c.in-Ok.ensures i) c.args.chunks Sha1
          ++ (kept_digest held (c.in-Ok.ensures i) c.args.chunks Sha256
          ++ (sha512 (bytes_of (c.in_default-feed_block_hashes.ensures.same t i) ((c.requires.there t).map_is i))
          ++ sha512 (bytes_of ((c.in_default-feed_pending.ensures.same t ∙ c.in_default-feed_block_hashes.ensures.same t) i) ((c.requires.there t).idx_is i)))))),
    )
