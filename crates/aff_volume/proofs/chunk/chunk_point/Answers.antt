use Rattle.std.proofs.Common.{◌≡◌, ◌*◌, ◌/◌, ◌%◌, take, drop, ap, sym, subst, ◌∙◌}
use Rattle.aff_model.specs.Held.{IsInside, bytes_of}
use Rattle.aff_spec.specs.Names.{index_name}
use Rattle.aff_volume.proofs.Chunks.{point_inside, point_read}
use Rattle.aff_volume.proofs.chunk.chunk_point.Goals as goal

pub read_at-requires : goal.read_at-requires
read_at-requires g c = λ t.
    let name : c.as_str.result.now ≡ index_name c.args.info.now.stream (c.args.chunk / 1024) = c.as_str.ensures.value ∙ c.in-Ok.ensures in
    subst (λ v. IsInside (g.F.Folder.held c.args.folder.now) v (12 * (c.args.chunk % 1024)) 12) (sym name)
    (point_inside (g.F.Folder.held c.args.folder.now) c.args.info.now (c.requires.there t) c.args.chunk c.requires.low)

pub returns-in-Ok-read_at-clause-point : goal.returns-in-Ok-read_at-clause-point
returns-in-Ok-read_at-clause-point g c = λ t.
    let name : c.as_str.result.now ≡ index_name c.args.info.now.stream (c.args.chunk / 1024) = c.as_str.ensures.value ∙ c.in-Ok.ensures in
    point_read (g.F.Folder.held c.args.folder.now) c.args.info.now.stream c.args.chunk c.read_at.new.out c.read_point.result c.read_point.ensures.value
    (c.in-Ok-read_at.ensures.bytes t ∙ ap (λ v. take 12 (drop (12 * (c.args.chunk % 1024)) (bytes_of (g.F.Folder.held c.args.folder.now) v))) name)
