use Rattle.std.proofs.Common.{◌≡◌, ◌++◌, sym, subst, ◌∙◌, arith}
use Rattle.std.specs.Prelude.{Some}
use Rattle.sha2.specs.Sha512.{sha512}
use Rattle.aff_model.specs.Held.{bytes_of}
use Rattle.aff_spec.specs.Names.{idx_name, map_name}
use Rattle.aff_bevvy.specs.Segments.{held_length}
use Rattle.aff_finish.specs.Kept.{HasAllKept, kept_digest}
use Rattle.aff_finish.specs.declared.block_map.Kept.{Kept}
use Rattle.aff_finish.specs.declared.block_map.Kept.TheVariants.{Md5, Sha1, Sha256}
use Rattle.aff_finish.proofs.Feeds.{all_fed}
use Rattle.aff_volume.proofs.BlockMap.{all_kept}
use Rattle.aff_volume.proofs.block_map.hash_block_map.Goals as goal

pub feed_block_hashes-requires-clause-few : goal.feed_block_hashes-requires-clause-few
feed_block_hashes-requires-clause-few g c κs within = omega (arith, c.count_chunks-chunks.ensures, c.requires.fit.stream_size)

pub feed_block_hashes-requires-clause-there : goal.feed_block_hashes-requires-clause-there
feed_block_hashes-requires-clause-there g c κs within = λ t.
    let held = g.F.Folder.held c.args.folder.now in
    subst (HasAllKept held c.args.info.now.stream) (sym c.count_chunks-chunks.ensures) (all_kept held c.args.info.now.stream _ (c.requires.there t).hashed)

pub feed_table-requires-clause-there : goal.feed_table-requires-clause-there
feed_table-requires-clause-there g c κs within = λ t.
    subst (λ h. held_length h (map_name c.args.info.now.image) ≡ Some c.args.tables.map_len) (sym (c.in_default-feed_block_hashes.ensures.same t)) (c.requires.lengths t).map

pub feed_table-requires-2-clause-there : goal.feed_table-requires-2-clause-there
feed_table-requires-2-clause-there g c κs within = λ t.
    subst (λ h. held_length h (idx_name c.args.info.now.image) ≡ Some c.args.tables.idx_len)
    (sym (c.in_default-feed_table.ensures.same t ∙ c.in_default-feed_block_hashes.ensures.same t)) (c.requires.lengths t).idx

pub returns-clause-hash : goal.returns-clause-hash
returns-clause-hash g c =
    let held = g.F.Folder.held c.args.folder.now in
    let stream = c.args.info.now.stream in
    let image = c.args.info.now.image in
    let kept = λ (k : Kept). kept_digest held stream c.count_chunks-chunks.result k in (
      c.feed_table-2.new.outer,
      c.finish.ensures.sha512,
      λ t.
          all_fed (kept Md5) (kept Sha1) (kept Sha256) (sha512 (bytes_of (g.F.Folder.held c.feed_block_hashes.new.folder) (map_name image))) (sha512 (bytes_of (g.F.Folder.held c.feed_table.new.folder) (idx_name image)))
          c.new-outer.result c.feed_block_hashes.new.outer c.feed_table.new.outer c.feed_table-2.new.outer
          c.new-outer.ensures (c.in_default-feed_block_hashes.ensures.fed t) (c.in_default-feed_table.ensures.fed t) (c.in_default-feed_table-2.ensures.fed t)
          ∙ (λ i.
          kept_digest held stream (c.count_chunks-chunks.ensures i) Md5
          ++ (kept_digest held stream (c.count_chunks-chunks.ensures i) Sha1
          ++ (kept_digest held stream (c.count_chunks-chunks.ensures i) Sha256
          ++ (sha512 (bytes_of (c.in_default-feed_block_hashes.ensures.same t i) (map_name image))
          ++ sha512 (bytes_of ((c.in_default-feed_table.ensures.same t ∙ c.in_default-feed_block_hashes.ensures.same t) i) (idx_name image)))))),
    )
