use Rattle.std.proofs.Common.{◌≡◌, [], ◌∷◌, ◌∙◌, subst}
use Rattle.std.specs.List.{flat_map}
use Rattle.aff_fields.specs.Point.{point_bytes}
use Rattle.aff_spec.specs.Appends.{Reaches}
use Rattle.aff_spec.specs.Names.{index_name}
use Rattle.aff_spec.specs.Streams.{full_points}
use Rattle.aff_bevvy.proofs.index.append.Goals as goal

pub returns-clause-part : goal.returns-clause-part
returns-clause-part g c = λ t.
    let same : c.deref.result.now ≡ flat_map point_bytes (full_points c.args.count) = c.deref.ensures.value ∙ c.in-Ok.ensures in
    subst (λ v. Reaches (g.F.Folder.held c.args.folder.now) ((index_name c.args.stream.now c.args.bevvy, v) ∷ []) (g.F.Folder.held c.append.new.folder)) same (c.in-Err-append.ensures.part t)
