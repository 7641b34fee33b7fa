use Rattle.std.proofs.Common.{refl, ap, subst, ◌∙◌}
use Rattle.std.proofs.lemmas.Result.{on_ok_weaker, on_err_weaker}
use Rattle.aff_spec.specs.Appends.{applied, Reaches}
use Rattle.aff_bevvy.proofs.Closing.{full_index-last}
use Rattle.aff_bevvy.proofs.writer.close_full.Goals as goal

pub returns-clause-ok : goal.returns-clause-ok
returns-clause-ok g c =
    on_ok_weaker c.append.result
    (λ ok t. ok t ∙ ap (applied (g.F.Folder.held c.args.folder.now)) (full_index-last c.args.stream.now c.args.chunk _ refl c.if-count.false))
    c.append.ensures.ok

pub returns-clause-part : goal.returns-clause-part
returns-clause-part g c =
    on_err_weaker c.append.result
    (λ part t. subst (λ v. Reaches (g.F.Folder.held c.args.folder.now) v (g.F.Folder.held c.append.new.folder)) (full_index-last c.args.stream.now c.args.chunk _ refl c.if-count.false) (part t))
    c.append.ensures.part
