use Rattle.std.proofs.Common.{◌≡◌, length, subst₂}
use denote.Exit.{unseen}
use denote.Param.Send.{Quiet-if}
use mir.Syntax.{of_param}
use Rattle.aff_book.specs.Pages.{list_of, run_of}
use Rattle.aff_run.specs.Tasks.{HasRun}
use Rattle.aff_run.proofs.Crews.{can_at}
use Rattle.aff_run.proofs.tasks.run_tasks.Goals as goal

pub for_each_mut-requires-clause-accepts : goal.for_each_mut-requires-clause-accepts
for_each_mut-requires-clause-accepts g c κs within = λ i p below is. (
  (
    c.requires.claims,
    c.requires.plan,
    c.requires.ranking,
    can_at (λ d. (goal.Device-dyn g (d.vtable, d.value)).device_content d.value) (λ d. (goal.Device-dyn g (d.vtable, d.value)).device_block d.value) (λ d. (goal.Device-dyn g (d.vtable, d.value)).device_size d.value)
        (λ d. (goal.Device-dyn g (d.vtable, d.value)).device_faults d.value) (list_of (run_of g.C.Case g.N.Named)) c.args.claims.now g.N.Named.run_workers g.C.Case.content c.args.plan.now c.args.tasks.now i p.now below is c.requires.tasks,
  ),
  (
    record { owned = c.type_bounds.send-C.owned; leaving = λ k. Quiet-if (k (of_param 0)) unseen unseen (λ x w. tt) (λ x w. tt) },
    record { owned = c.type_bounds.send-N.owned; leaving = λ k. Quiet-if (k (of_param 1)) unseen unseen (λ x w. tt) (λ x w. tt) },
    record { owned = c.type_bounds.send-F.owned; leaving = λ k. Quiet-if (k (of_param 2)) unseen unseen (λ x w. tt) (λ x w. tt) },
    record { owned = c.type_bounds.send-F-Receipt.owned; leaving = λ k. Quiet-if (k (of_param 5)) unseen unseen (λ x w. tt) (λ x w. tt) },
    record { owned = c.type_bounds.send-F-Peek.owned; leaving = λ k. Quiet-if (k (of_param 6)) unseen unseen (λ x w. tt) (λ x w. tt) },
    record { shared = c.type_bounds.sync-C.shared },
    record { shared = c.type_bounds.sync-N.shared },
    record { shared = c.type_bounds.sync-G.shared },
    record { shared = c.type_bounds.sync-W.shared },
    record { shared = c.type_bounds.sync-F-Receipt.shared },
  ),
)

pub returns-clause-each : goal.returns-clause-each
returns-clause-each g c = λ k d below.
    let changes = (c.for_each_mut.ensures k d below).1 in
    subst₂
    (HasRun (list_of (run_of g.C.Case g.N.Named)) c.args.plan.now g.F.Receipt.Telling.receipt_tells g.F.Receipt.Telling.told g.F.Peek.Peek.peek_faults (λ d. (goal.Device-dyn g (d.vtable, d.value)).device_content d.value)
    (λ d. (goal.Device-dyn g (d.vtable, d.value)).device_block d.value) (λ d. (goal.Device-dyn g (d.vtable, d.value)).device_size d.value) (λ d. (goal.Device-dyn g (d.vtable, d.value)).device_faults d.value)
    (λ e. (goal.Examiner-dyn g (e.vtable, e.value)).rule e.value) (λ e. (goal.Examiner-dyn g (e.vtable, e.value)).text e.value) (λ e. (goal.Examiner-dyn g (e.vtable, e.value)).state e.value))
    changes.argument_is changes.left changes.call
