use Rattle.std.proofs.lemmas.Result.{on_err_weaker, on_ok_weaker}
use Rattle.aff_store.proofs.Steps.{end_both, end_second}
use Rattle.aff_store.proofs.stream.Stream.finish.Goals as goal

pub returns-clause-ok : goal.returns-clause-ok
returns-clause-ok g c =
    on_ok_weaker c.finish-2.result
    (λ ok. λ t. end_both _ _ _ _ _ c.self.view_is c.self.invariant c.requires.going (g.F.Folder.held c.args.folder.now) (g.F.Folder.held c.finish.new.folder) (g.F.Folder.held c.finish-2.new.folder) (c.in_default.ensures.ok t) (ok t))
    c.finish-2.ensures.ok

pub returns-clause-part : goal.returns-clause-part
returns-clause-part g c =
    on_err_weaker c.finish-2.result
    (λ part. λ t. end_second _ _ _ _ _ c.self.view_is c.self.invariant c.requires.going (g.F.Folder.held c.args.folder.now) (g.F.Folder.held c.finish.new.folder) (g.F.Folder.held c.finish-2.new.folder) (c.in_default.ensures.ok t) (part t))
    c.finish-2.ensures.part
