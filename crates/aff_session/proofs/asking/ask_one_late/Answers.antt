use Rattle.std.proofs.Common.{◌≡◌, List, [], ◌∷◌, ◌++◌, map, ⊎_elim}
use Rattle.std.specs.Arc.{arc_value}
use Rattle.aff_script.specs.declared.script.Request.{Request}
use Rattle.aff_session.specs.Shown.{AreAnsweredBy}
use Rattle.aff_session.proofs.Growing.{keeps_after, keeps_await, keeps_raise, keeps_read}
use Rattle.aff_session.proofs.Looks.{to_ok}
use Rattle.aff_session.proofs.asking.ask_one_late.Goals as goal

pub returns-in_ok-answer-in-Read-clause-answers : goal.returns-in_ok-answer-in-Read-clause-answers
returns-in_ok-answer-in-Read-clause-answers g c =
    let plan = c.args.looker.now.plan in
    let tells = g.F.Receipt.Telling.receipt_tells in
    let told = g.F.Receipt.Telling.told in
    let pieces = map arc_value c.args.pieces.now in
    let olds = c.args.answers.now.items in
    let news = c.keep.new.answers.items in
    let a = c.in_ok-answer-in-Read.answer in
    to_ok c.keep.result (news ≡ olds ++ a ∷ [])
    ((done : List Request) → AreAnsweredBy plan tells told pieces done olds → AreAnsweredBy plan tells told pieces (done ++ c.args.request ∷ []) news) c.keep.ensures.kept
    (λ kept. keeps_read plan tells told pieces c.args.request c.in-Read.at c.in-Read.len olds news a c.in-Read.is kept c.in_ok-answer-in-Read.ensures.answer)

pub returns-in-Raise-clause-answers : goal.returns-in-Raise-clause-answers
returns-in-Raise-clause-answers g c =
    let plan = c.args.looker.now.plan in
    let tells = g.F.Receipt.Telling.receipt_tells in
    let told = g.F.Receipt.Telling.told in
    let pieces = map arc_value c.args.pieces.now in
    let olds = c.args.answers.now.items in
    ⊎_elim (λ raise. keeps_raise plan tells told pieces c.args.request olds raise)
    (λ other. ⊎_elim (λ await. keeps_await plan tells told pieces c.args.request olds await.0 await.1) (λ after. keeps_after plan tells told pieces c.args.request olds after) other) c.in-Raise.is
