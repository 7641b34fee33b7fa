use Rattle.std.proofs.Common.{sym, ap, subst, ◌∙◌}
use Rattle.aff_spec.specs.Bevvies.{bevvy_count}
use Rattle.aff_spec.specs.Names.{stream_urn, image_urn}
use Rattle.aff_spec.specs.Volumes.{volume_of, volume_bytes}
use Rattle.aff_spec.specs.Walks.{IsWalkable}
use Rattle.aff_finish.specs.BlockMap.{block_map_digests}
use Rattle.aff_finish.specs.Kept.{HasSegments}
use Rattle.aff_finish.proofs.volume.hash.Goals as goal

pub hash_image-requires-clause-image : goal.hash_image-requires-clause-image
hash_image-requires-clause-image g c κs within =
    let held = g.F.Folder.held c.args.folder.now in
    subst (λ u. IsWalkable g.F.Folder.tells held u c.size.result c.args.entries.now) (sym c.text.ensures.text)
    (subst (λ n. IsWalkable g.F.Folder.tells held c.args.uuid.now n c.args.entries.now) (sym c.size.ensures) c.requires.walkable)

pub hash_block_map-requires-clause-there : goal.hash_block_map-requires-clause-there
hash_block_map-requires-clause-there g c κs within = λ t.
    subst (λ h. HasSegments h c.args.uuid.now c.args.chunks c.args.segments.now.map c.args.segments.now.idx) (sym (c.hash_image.ensures.same t)) (c.requires.there t)

pub returns-in-Ok-hash_block_map-clause-hashes : goal.returns-in-Ok-hash_block_map-clause-hashes
returns-in-Ok-hash_block_map-clause-hashes g c =
    let image = c.in-Ok.ensures.linear in
    let map = c.in-Ok-hash_block_map.ensures.hash in
    let held = g.F.Folder.held c.args.folder.now in
    let uuid = c.args.uuid.now in
    record {
      bytes = image.0;
      digests = map.0;
      linear = λ i. record { md5 = image.1.md5 i; sha1 = image.1.sha1 i; sha256 = image.1.sha256 i; sha512 = image.1.sha512 i };
      block_map = map.1;
      told_bytes = λ t. image.2 t ∙ (λ i. volume_bytes held (volume_of (c.text.ensures.text i)) (c.size.ensures i));
      told_digests = λ t. map.2 t ∙ ap (λ h. block_map_digests h (stream_urn uuid) (image_urn uuid) (bevvy_count c.args.chunks)) (c.hash_image.ensures.same t);
    }
