use Rattle.std.proofs.Common.{◌≡◌, subst, sym}
use Rattle.aff_book.specs.Pages.{list_of, run_of}
use Rattle.aff_run.specs.Tasks.{CanRun, HasRun}
use Rattle.aff_run.specs.declared.tasks.Task.TheVariants.{Look, Watch}
use Rattle.aff_run.proofs.Lives.{lived}
use Rattle.aff_run.proofs.Watches.{watched}
use Rattle.aff_run.proofs.tasks.run_task.Goals as goal

pub returns-in-Look : goal.returns-in-Look
returns-in-Look g c =
    let e = c.live.ensures in
    let list = list_of (run_of g.C.Case g.N.Named) in
    subst
    (λ t.
    HasRun list c.args.plan.now g.F.Receipt.Telling.receipt_tells g.F.Receipt.Telling.told g.F.Peek.Peek.peek_faults (λ d. (goal.Device-dyn g (d.vtable, d.value)).device_content d.value) (λ d. (goal.Device-dyn g (d.vtable, d.value)).device_block d.value)
    (λ d. (goal.Device-dyn g (d.vtable, d.value)).device_size d.value) (λ d. (goal.Device-dyn g (d.vtable, d.value)).device_faults d.value)
    (λ e. (goal.Examiner-dyn g (e.vtable, e.value)).rule e.value) (λ e. (goal.Examiner-dyn g (e.vtable, e.value)).text e.value) (λ e. (goal.Examiner-dyn g (e.vtable, e.value)).state e.value) t (Look c.in-Look.number c.live.new.self))
    (sym c.in-Look.is)
    (lived g.F.Receipt.Telling.receipt_tells g.F.Receipt.Telling.told g.F.Peek.Peek.peek_faults c.args.plan.now c.args.claims.now list c.in-Look.session c.live.new.self
    (subst (CanRun list c.args.claims.now g.N.Named.run_workers g.C.Case.content c.args.plan.now (λ d. (goal.Device-dyn g (d.vtable, d.value)).device_content d.value) (λ d. (goal.Device-dyn g (d.vtable, d.value)).device_block d.value) (λ d. (goal.Device-dyn g (d.vtable, d.value)).device_size d.value)) c.in-Look.is c.requires.task)
    e.kept e.answers e.fault e.cause)

pub returns-in-Watch : goal.returns-in-Watch
returns-in-Watch g c =
    let e = c.live-in-Watch.ensures in
    let list = list_of (run_of g.C.Case g.N.Named) in
    subst
    (λ t.
    HasRun list c.args.plan.now g.F.Receipt.Telling.receipt_tells g.F.Receipt.Telling.told g.F.Peek.Peek.peek_faults (λ d. (goal.Device-dyn g (d.vtable, d.value)).device_content d.value) (λ d. (goal.Device-dyn g (d.vtable, d.value)).device_block d.value)
    (λ d. (goal.Device-dyn g (d.vtable, d.value)).device_size d.value) (λ d. (goal.Device-dyn g (d.vtable, d.value)).device_faults d.value)
    (λ e. (goal.Examiner-dyn g (e.vtable, e.value)).rule e.value) (λ e. (goal.Examiner-dyn g (e.vtable, e.value)).text e.value) (λ e. (goal.Examiner-dyn g (e.vtable, e.value)).state e.value) t (Watch c.live-in-Watch.new.self))
    (sym c.in-Watch.is)
    (watched g.F.Receipt.Telling.receipt_tells g.F.Receipt.Telling.told g.F.Peek.Peek.peek_faults (λ e. (goal.Examiner-dyn g (e.vtable, e.value)).rule e.value) (λ e. (goal.Examiner-dyn g (e.vtable, e.value)).text e.value) (λ e. (goal.Examiner-dyn g (e.vtable, e.value)).state e.value)
    c.args.plan.now list c.in-Watch.examination c.live-in-Watch.new.self
    (subst (CanRun list c.args.claims.now g.N.Named.run_workers g.C.Case.content c.args.plan.now (λ d. (goal.Device-dyn g (d.vtable, d.value)).device_content d.value) (λ d. (goal.Device-dyn g (d.vtable, d.value)).device_block d.value) (λ d. (goal.Device-dyn g (d.vtable, d.value)).device_size d.value)) c.in-Watch.is c.requires.task)
    e.on e.inside e.fold e.kept e.fault e.cause)
