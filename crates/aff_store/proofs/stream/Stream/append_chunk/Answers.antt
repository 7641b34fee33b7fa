use Rattle.aff_store.proofs.Steps.{first_part, second_part, both_parts, in_step, next_view}
use Rattle.aff_store.proofs.stream.Stream.append_chunk.Goals as goal

pub returns-in-Err-clause-part : goal.returns-in-Err-clause-part
returns-in-Err-clause-part g c = λ t.
    first_part _ _ _ _ _ c.self.view_is c.self.invariant c.requires.going c.args.chunk.now _ c.requires.sums
    (g.F.Folder.held c.args.folder.now) (g.F.Folder.held c.append_chunk.new.folder) (c.in-Err.ensures.part t)

pub returns-in-Err-push-clause-part : goal.returns-in-Err-push-clause-part
returns-in-Err-push-clause-part g c = λ t.
    second_part _ _ _ _ _ c.self.view_is c.self.invariant c.requires.going c.args.chunk.now _ c.requires.sums
    (g.F.Folder.held c.args.folder.now) (g.F.Folder.held c.append_chunk.new.folder) (g.F.Folder.held c.push.new.folder) (c.in-Ok.ensures.ok t) (c.in-Err-push.ensures.part t)

pub invariant_of-self-2 : goal.invariant_of-self-2
invariant_of-self-2 g c =
    in_step _ _ _ _ _ c.self.view_is c.self.invariant c.requires.going c.args.chunk.now _ c.requires.sums
    c.append_chunk.new.self c.push.new.self c.in-Ok.ensures.next c.in_default.ensures.state _ c.with_next.ensures c.requires.len

pub returns-clause-next : goal.returns-clause-next
returns-clause-next g c =
    next_view _ _ _ _ _ c.self.view_is c.self.invariant c.requires.going c.args.chunk.now _ c.requires.sums
    c.append_chunk.new.self c.push.new.self c.in-Ok.ensures.next c.in_default.ensures.state _ c.with_next.ensures c.requires.len

pub returns-clause-ok : goal.returns-clause-ok
returns-clause-ok g c = λ t.
    both_parts _ _ _ _ _ c.self.view_is c.self.invariant c.requires.going c.args.chunk.now _ c.requires.sums
    (g.F.Folder.held c.args.folder.now) (g.F.Folder.held c.append_chunk.new.folder) (g.F.Folder.held c.push.new.folder) (c.in-Ok.ensures.ok t) (c.in_default.ensures.ok t)
