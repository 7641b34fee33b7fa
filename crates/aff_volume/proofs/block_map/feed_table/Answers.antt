use Rattle.std.proofs.Common.{◌≡◌, length, sym, subst, ◌∙◌}
use Rattle.aff_model.specs.Held.{bytes_of}
use Rattle.aff_spec.specs.Names.{segment_in}
use Rattle.aff_volume.proofs.Lengths.{room_known}
use Rattle.aff_volume.proofs.block_map.feed_table.Goals as goal

pub feed_digest-requires-clause-long : goal.feed_digest-requires-clause-long
feed_digest-requires-clause-long g c κs within = λ t.
    subst (λ n. length (bytes_of (g.F.Folder.held c.args.folder.now) n) ≡ c.args.len) (sym (c.as_str.ensures.value ∙ c.in-Ok.ensures))
    (room_known (g.F.Folder.held c.args.folder.now) (segment_in c.args.image.now c.args.name.now) c.args.len (c.requires.there t))
