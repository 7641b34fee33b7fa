use Rattle.std.proofs.Common.{◌≡◌, ◌∙◌, List, Some, map, refl, ap, subst, inr}
use Rattle.std.specs.Prelude.{IfSome, Option}
use Rattle.aff_run.specs.Ends.{HasFailed}
use Rattle.aff_run.specs.Examinations.{IsFollowCaused}
use Rattle.aff_run.proofs.Replies.{acquired, left_whole}
use Rattle.aff_run.proofs.closing.end_examined.Goals as goal

pub returns-in-Ok-clause-leaves : goal.returns-in-Ok-clause-leaves
returns-in-Ok-clause-leaves g c = λ ask script held peeks sound whole answered follow.
    acquired g.C.Case.content g.F.Folder.tells g.F.Receipt.Telling.told ask held c.args.pieces.items c.args.hashes script (map (λ a. a.items) c.args.sessions.items) whole sound answered

pub returns-in-Ok-clause-done : goal.returns-in-Ok-clause-done
returns-in-Ok-clause-done g c = (refl, c.in-None.is, c.in-Ok.ensures)

pub returns-in-None-clause-leaves : goal.returns-in-None-clause-leaves
returns-in-None-clause-leaves g c = λ ask script held peeks sound whole answered follow. inr (left_whole g.C.Case.content g.F.Folder.tells ask held c.args.pieces.items c.args.hashes whole)

pub returns-in-Some-Failed-clause-leaves : goal.returns-in-Some-Failed-clause-leaves
returns-in-Some-Failed-clause-leaves g c = λ ask script held peeks sound whole answered follow.
    inr (
      subst (λ o. IfSome o (IsFollowCaused g.F.Folder.tells (HasFailed g.F.Peek.Peek.peek_faults peeks))) (c.in-Some-Failed.is ∙ ap Some (rw c.in-Some-Failed.is at c.in-Some-Failed.field-0-is)) follow,
      left_whole g.C.Case.content g.F.Folder.tells ask held c.args.pieces.items c.args.hashes whole,
    )

pub returns-in-Some-Damaged-clause-leaves : goal.returns-in-Some-Damaged-clause-leaves
returns-in-Some-Damaged-clause-leaves g c = λ ask script held peeks sound whole answered follow. (
  subst (λ o. IfSome o (IsFollowCaused g.F.Folder.tells (HasFailed g.F.Peek.Peek.peek_faults peeks))) (c.in-Some-Damaged.is ∙ ap Some (rw c.in-Some-Damaged.is at c.in-Some-Damaged.field-0-is)) follow,
  left_whole g.C.Case.content g.F.Folder.tells ask held c.args.pieces.items c.args.hashes whole,
)

pub returns-clause-leaves : goal.returns-clause-leaves
returns-clause-leaves g c = λ ask script held peeks sound whole answered follow. inr (left_whole g.C.Case.content g.F.Folder.tells ask held c.args.pieces.items c.args.hashes whole)
