use Rattle.std.proofs.Common.{◌≡◌, List, [], ◌∷◌, ◌++◌, IfSome}
use Rattle.aff_script.specs.declared.script.Request.{Request}
use Rattle.aff_session.specs.Looking.{IsWholeAnswer}
use Rattle.aff_session.specs.Shown.{AreAnsweredBy}
use Rattle.aff_session.proofs.Growing.{keeps_after, keeps_await, keeps_raise, keeps_read}
use Rattle.aff_session.proofs.Looks.{any_ok, any_viewer, to_ok, to_viewer}
use Rattle.aff_session.proofs.asking.ask_one.Goals as goal

pub returns-in_ok-answer-in-Read-clause-answers : goal.returns-in_ok-answer-in-Read-clause-answers
returns-in_ok-answer-in-Read-clause-answers g c =
    let plan = c.args.looker.now.plan in
    let tells = g.F.Receipt.Telling.receipt_tells in
    let told = g.F.Receipt.Telling.told in
    let viewer = c.ask.new.self.viewer in
    let olds = c.args.answers.now.items in
    let news = c.keep.new.answers.items in
    let a = c.in_ok-answer-in-Read.answer in
    to_ok c.keep.result (news ≡ olds ++ a ∷ [])
    (IfSome viewer (λ v. (done : List Request) → AreAnsweredBy plan tells told v.pieces done olds → AreAnsweredBy plan tells told v.pieces (done ++ c.args.request ∷ []) news)) c.keep.ensures.kept
    (λ kept. to_viewer viewer (λ v. IsWholeAnswer plan tells told v.pieces c.in-Read.at c.in-Read.len a)
    (λ v. (done : List Request) → AreAnsweredBy plan tells told v.pieces done olds → AreAnsweredBy plan tells told v.pieces (done ++ c.args.request ∷ []) news) c.in_ok-answer-in-Read.ensures.answer
    (λ v whole. keeps_read plan tells told v.pieces c.args.request c.in-Read.at c.in-Read.len olds news a c.in-Read.is kept whole))

pub returns-in-Await-clause-answers : goal.returns-in-Await-clause-answers
returns-in-Await-clause-answers g c =
    let plan = c.args.looker.now.plan in
    let tells = g.F.Receipt.Telling.receipt_tells in
    let told = g.F.Receipt.Telling.told in
    let viewer = c.wait.new.self.viewer in
    let olds = c.args.answers.now.items in
    any_ok c.wait.result (IfSome viewer (λ v. (done : List Request) → AreAnsweredBy plan tells told v.pieces done olds → AreAnsweredBy plan tells told v.pieces (done ++ c.args.request ∷ []) olds))
    (any_viewer viewer (λ v. (done : List Request) → AreAnsweredBy plan tells told v.pieces done olds → AreAnsweredBy plan tells told v.pieces (done ++ c.args.request ∷ []) olds)
    (λ v. keeps_await plan tells told v.pieces c.args.request olds c.in-Await.count c.in-Await.is))

pub returns-in-Raise-clause-answers : goal.returns-in-Raise-clause-answers
returns-in-Raise-clause-answers g c =
    let plan = c.args.looker.now.plan in
    let tells = g.F.Receipt.Telling.receipt_tells in
    let told = g.F.Receipt.Telling.told in
    let viewer = c.raise.new.self.viewer in
    let olds = c.args.answers.now.items in
    any_viewer viewer (λ v. (done : List Request) → AreAnsweredBy plan tells told v.pieces done olds → AreAnsweredBy plan tells told v.pieces (done ++ c.args.request ∷ []) olds)
    (λ v. keeps_raise plan tells told v.pieces c.args.request olds (c.in-Raise.at, c.in-Raise.len, c.in-Raise.is))

pub returns-in-After-clause-answers : goal.returns-in-After-clause-answers
returns-in-After-clause-answers g c =
    let plan = c.args.looker.now.plan in
    let tells = g.F.Receipt.Telling.receipt_tells in
    let told = g.F.Receipt.Telling.told in
    let viewer = c.args.looker.now.viewer in
    let olds = c.args.answers.now.items in
    any_viewer viewer (λ v. (done : List Request) → AreAnsweredBy plan tells told v.pieces done olds → AreAnsweredBy plan tells told v.pieces (done ++ c.args.request ∷ []) olds)
    (λ v. keeps_after plan tells told v.pieces c.args.request olds c.in-After.is)
