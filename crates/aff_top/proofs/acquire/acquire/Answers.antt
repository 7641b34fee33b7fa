use Rattle.std.specs.Prelude.{vec_len}
use Rattle.aff_model.specs.Causes.{Rose}
use Rattle.aff_run.specs.Ends.{HasFailed, asked}
use Rattle.aff_top.proofs.Outcome.{says_of}
use Rattle.aff_top.proofs.acquire.acquire.Goals as goal

pub returns-clause-says : goal.returns-clause-says
returns-clause-says g c =
    let run = c.acquire-end.result in
    says_of (λ e. (goal.Examiner-dyn g (e.vtable, e.value)).rule e.value) (λ e. (goal.Examiner-dyn g (e.vtable, e.value)).text e.value) (λ e. (goal.Examiner-dyn g (e.vtable, e.value)).state e.value) c.args.examiners.items run.examiners.items
    g.C.Case.content g.F.Folder.tells g.F.Receipt.Telling.told (asked c.args.uuid.now c.args.plan.now (vec_len c.args.devices) (vec_len c.args.examiners)) c.args.script.now (g.F.Folder.held run.folder)
    (Rose (g.F.Folder.folder_faults c.args.folder) (g.F.Folder.folder_faults run.folder)) (HasFailed g.F.Peek.Peek.peek_faults run.peeks.items) run.end c.said.result c.acquire-end.ensures.leaves c.acquire-end.ensures.examined c.said.ensures
