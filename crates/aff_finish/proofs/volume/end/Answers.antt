use Rattle.std.proofs.Common.{ap, subst, ◌∙◌}
use Rattle.aff_spec.specs.Appends.{applied, Reaches}
use Rattle.aff_finish.proofs.Finishing.{end_is}
use Rattle.aff_finish.proofs.volume.end.Goals as goal

pub returns-in-Ok-end_with-clause-ok : goal.returns-in-Ok-end_with-clause-ok
returns-in-Ok-end_with-clause-ok g c = λ t.
    c.in-Ok-end_with.ensures.ok t
    ∙ ap (applied (g.F.Folder.held c.args.folder.now))
    (end_is c.args.uuid.now c.args.stream.now.urn c.args.stream.now.chunks c.args.entries.now c.in-Ok.segments.map c.in-Ok.segments.idx c.requires.urn c.in-Ok.ensures.map c.in-Ok.ensures.idx)

pub returns-in-Err-end_with-clause-part : goal.returns-in-Err-end_with-clause-part
returns-in-Err-end_with-clause-part g c = λ t.
    subst (λ v. Reaches (g.F.Folder.held c.args.folder.now) v (g.F.Folder.held c.end_with.new.folder))
    (end_is c.args.uuid.now c.args.stream.now.urn c.args.stream.now.chunks c.args.entries.now c.in-Ok.segments.map c.in-Ok.segments.idx c.requires.urn c.in-Ok.ensures.map c.in-Ok.ensures.idx)
    (c.in-Err-end_with.ensures.part t)
