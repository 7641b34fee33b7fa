use Rattle.std.proofs.Common.{◌≡◌, ◌/◌, length, take, drop, ap, sym, subst, ◌∙◌}
use Rattle.std.proofs.lemmas.Result.{on_ok_weaker}
use Rattle.aff_model.specs.Held.{IsInside, bytes_of}
use Rattle.aff_spec.specs.Names.{bevvy_name}
use Rattle.aff_bevvy.proofs.Parts.{part_inside, part_is}
use Rattle.aff_bevvy.proofs.reader.StreamReader.read_part.Goals as goal

pub read_at-requires : goal.read_at-requires
read_at-requires g c = λ t.
    let name : c.as_str.result.now ≡ bevvy_name c.args.self.now.stream (c.args.chunk / 1024) =
    c.as_str.ensures.value ∙ c.in-Ok-segment_name.ensures ∙ ap (λ s. bevvy_name s.stream (c.args.chunk / 1024)) c.self.view_is in
    subst (λ h. IsInside h c.as_str.result.now c.saturating_add.result (length c.args.out.now)) (sym (c.in-Ok.ensures.same t))
    (subst (λ v. IsInside (g.F.Folder.held c.args.folder.now) v c.saturating_add.result (length c.args.out.now)) (sym name)
    (part_inside (g.F.Folder.held c.args.folder.now) c.args.self.now.stream c.args.self.now.size c.args.chunk (c.requires.stream t) c.requires.low
    c.in-Ok.point c.args.skip (length c.args.out.now) c.saturating_add.result (c.in-Ok.ensures.point t) c.requires.inside c.saturating_add.ensures))

pub returns-clause-bytes : goal.returns-clause-bytes
returns-clause-bytes g c =
    let name : c.as_str.result.now ≡ bevvy_name c.args.self.now.stream (c.args.chunk / 1024) =
    c.as_str.ensures.value ∙ c.in-Ok-segment_name.ensures ∙ ap (λ s. bevvy_name s.stream (c.args.chunk / 1024)) c.self.view_is in
    on_ok_weaker c.read_at.result (λ bytes t. bytes t
    ∙ ap (λ h. take (length c.args.out.now) (drop c.saturating_add.result (bytes_of h c.as_str.result.now))) (c.in-Ok.ensures.same t)
    ∙ ap (λ v. take (length c.args.out.now) (drop c.saturating_add.result (bytes_of (g.F.Folder.held c.args.folder.now) v))) name
    ∙ part_is (g.F.Folder.held c.args.folder.now) c.args.self.now.stream c.args.self.now.size c.args.chunk (c.requires.stream t) c.requires.low
    c.in-Ok.point c.args.skip (length c.args.out.now) c.saturating_add.result (c.in-Ok.ensures.point t) c.requires.inside c.saturating_add.ensures)
    c.read_at.ensures.bytes
