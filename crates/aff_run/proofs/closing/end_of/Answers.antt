use Rattle.std.proofs.Common.{◌≡◌, ◌∙◌, List, map, ap, subst, inr, Ok, Err}
use Rattle.std.specs.Prelude.{IfErr, IfOk, Result}
use Rattle.std.specs.Arc.{arc_value}
use Rattle.aff_session.specs.declared.fault.SessionFault.{SessionFault}
use Rattle.aff_run.specs.Ends.{AreAnsweredAll, HasFailed}
use Rattle.aff_run.specs.Sessions.{IsCaused}
use Rattle.aff_run.proofs.Replies.{left_whole}
use Rattle.aff_run.proofs.closing.end_of.Goals as goal

pub returns-in-Ok-clause-leaves : goal.returns-in-Ok-clause-leaves
returns-in-Ok-clause-leaves g c = λ ask script held peeks sound whole answered caused follow.
    c.end_examined.ensures.leaves ask script held peeks sound whole
    (subst (λ r. IfOk r (λ a. AreAnsweredAll ask.plan g.F.Folder.tells g.F.Receipt.Telling.told (map arc_value c.args.pieces.items) script (map (λ a. a.items) a.items))) c.in-Ok.is answered) follow

pub returns-in-Err-Failed-clause-leaves : goal.returns-in-Err-Failed-clause-leaves
returns-in-Err-Failed-clause-leaves g c = λ ask script held peeks sound whole answered caused follow.
    inr (
      subst (λ r. IfErr r (IsCaused g.F.Folder.tells (HasFailed g.F.Peek.Peek.peek_faults peeks))) (c.in-Err-Failed.is ∙ ap Err (rw c.in-Err-Failed.is at c.in-Err-Failed.field-0-is)) caused,
      left_whole g.C.Case.content g.F.Folder.tells ask held c.args.pieces.items c.args.hashes whole,
    )

pub returns-in-Err-Damaged-clause-leaves : goal.returns-in-Err-Damaged-clause-leaves
returns-in-Err-Damaged-clause-leaves g c = λ ask script held peeks sound whole answered caused follow. (
  subst (λ r. IfErr r (IsCaused g.F.Folder.tells (HasFailed g.F.Peek.Peek.peek_faults peeks))) (c.in-Err-Damaged.is ∙ ap Err (rw c.in-Err-Damaged.is at c.in-Err-Damaged.field-0-is)) caused,
  left_whole g.C.Case.content g.F.Folder.tells ask held c.args.pieces.items c.args.hashes whole,
)

pub returns-clause-leaves : goal.returns-clause-leaves
returns-clause-leaves g c = λ ask script held peeks sound whole answered caused follow. inr (left_whole g.C.Case.content g.F.Folder.tells ask held c.args.pieces.items c.args.hashes whole)
