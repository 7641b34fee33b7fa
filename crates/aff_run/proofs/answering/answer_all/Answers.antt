use Rattle.std.proofs.Common.{◌≡◌, Some, None, List, map, sym, ap, ◌++◌, ◌∙◌, subst, Vec, Global}
use Rattle.std.specs.Arc.{arc_value}
use Rattle.aff_script.specs.Answered.{Answered}
use Rattle.aff_session.specs.Sittings.{Sitting}
use Rattle.aff_run.specs.Sessions.{first_fault}
use Rattle.aff_run.proofs.Replies.{answered, faulty, taken}
use Rattle.aff_run.proofs.answering.answer_all.Goals as goal

pub returns-in-None-clause-answers : goal.returns-in-None-clause-answers
returns-in-None-clause-answers g c = λ plan planned.
    let late = c.answer_late in
    let news = late.new.sessions in
    let slice = c.deref_mut in
    let len = late.ensures.count ∙ slice.ensures.len in
    answered g.F.Receipt.Telling.receipt_tells g.F.Receipt.Telling.told g.F.Peek.Peek.peek_faults (map arc_value c.args.pieces.now) c.args.sessions.items slice.result.now news slice.ensures.value late.ensures.count late.ensures.each
    (taken news _ c.args.sessions.len len (λ (l : List (Sitting g.row.F-Receipt.Denot g.row.F-Peek.Denot)). first_fault l ≡ None) (sym c.part-answers.ensures.fault ∙ c.in-None.is)) plan planned
    (map (λ (v : Vec Answered Global). v.items) c.part-answers.result.0.items) (taken news _ c.args.sessions.len len (λ (l : List (Sitting g.row.F-Receipt.Denot g.row.F-Peek.Denot)). map (λ (v : Vec Answered Global). v.items) c.part-answers.result.0.items ≡ map (λ s. s.answers) l) c.part-answers.ensures.answers)

pub returns-in-Some-clause-fault : goal.returns-in-Some-clause-fault
returns-in-Some-clause-fault g c =
    let late = c.answer_late in
    let news = late.new.sessions in
    let slice = c.deref_mut in
    let len = late.ensures.count ∙ slice.ensures.len in
    faulty g.F.Receipt.Telling.receipt_tells g.F.Receipt.Telling.told g.F.Peek.Peek.peek_faults (map arc_value c.args.pieces.now) c.args.sessions.items slice.result.now news slice.ensures.value late.ensures.count late.ensures.each c.in-Some.fault
    (taken news _ c.args.sessions.len len (λ (l : List (Sitting g.row.F-Receipt.Denot g.row.F-Peek.Denot)). first_fault l ≡ Some c.in-Some.fault) (sym c.part-answers.ensures.fault ∙ c.in-Some.is))
    c.part-answers.new.peeks.items c.args.peeks.now.items (taken news _ c.args.sessions.len len (λ (l : List (Sitting g.row.F-Receipt.Denot g.row.F-Peek.Denot)). c.part-answers.new.peeks.items ≡ c.args.peeks.now.items ++ map (λ s. s.peek) l) c.part-answers.ensures.peeks)
