use Rattle.std.proofs.Common.{◌≡◌, ◌%◌, ◌≤◌, sym, ap, subst, ◌∙◌}
use Rattle.aff_spec.specs.Appends.{applied}
use Rattle.aff_bevvy.specs.Written.{last_index}
use Rattle.aff_bevvy.proofs.Growing.{is_ended, none_last, one_last}
use Rattle.aff_bevvy.proofs.writer.StreamWriter.finish.Goals as goal

pub returns-then-rest-eq0-clause-ended : goal.returns-then-rest-eq0-clause-ended
returns-then-rest-eq0-clause-ended g c = λ t.
    is_ended (g.F.Folder.held c.args.folder.now) (g.F.Folder.held c.args.folder.now) c.args.self.now.stream c.args.self.now.count
    (subst (λ s. s.count ≤ 102400000000) c.self.view_is c.self.invariant)
    (ap (applied (g.F.Folder.held c.args.folder.now)) (sym (none_last c.args.self.now.stream c.args.self.now.count (subst (λ s. s.count % 1024 ≡ 0) c.self.view_is c.if-rest-eq0.true))))

pub returns-clause-ended : goal.returns-clause-ended
returns-clause-ended g c = λ t.
    is_ended (g.F.Folder.held c.args.folder.now) (g.F.Folder.held c.append.new.folder) c.args.self.now.stream c.args.self.now.count
    (subst (λ s. s.count ≤ 102400000000) c.self.view_is c.self.invariant)
    (c.in_default.ensures.ok t
    ∙ ap (applied (g.F.Folder.held c.args.folder.now)) (sym (one_last c.self.inside.stream c.self.inside.count c.if-rest-eq0.false))
    ∙ ap (λ s. applied (g.F.Folder.held c.args.folder.now) (last_index s.stream s.count)) c.self.view_is)
