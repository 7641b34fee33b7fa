use Rattle.std.proofs.Common.{◌≡◌, length, map, sym}
use Rattle.aff_model.specs.History.{publication_of}
use Rattle.aff_model.specs.Kinds.{spread}
use Rattle.aff_analyst.specs.Answers.{IsReadBy}
use Rattle.aff_session.specs.Looking.{IsWholeAnswer}
use Rattle.aff_session.proofs.Looks.{both_viewer, by_viewer, can_look, whole_answer}
use Rattle.aff_session.proofs.Rows.{answer_len}
use Rattle.aff_session.proofs.looker.Looker.ask.Goals as goal

pub answer-requires-clause-whole : goal.answer-requires-clause-whole
answer-requires-clause-whole g c κs within =
    let plan = c.args.self.now.plan in
    let new = c.look.new.self in
    by_viewer new.viewer (λ v. IsReadBy plan g.F.Receipt.Telling.receipt_tells g.F.Receipt.Telling.told v.pieces c.args.at c.args.len new.bytes new.runs) (length (spread new.runs) ≡ c.args.len)
    (can_look c.args.self.now.viewer new.viewer c.requires.viewer c.look.ensures.looked.viewer) c.in_ok-front.ensures.read
    (λ v read. answer_len plan.extents (map publication_of v.pieces) c.args.at c.args.len new.runs read.answer)

pub returns-in-Ok-clause-answer : goal.returns-in-Ok-clause-answer
returns-in-Ok-clause-answer g c =
    let plan = c.args.self.now.plan in
    let new = c.look.new.self in
    let tells = g.F.Receipt.Telling.receipt_tells in
    let told = g.F.Receipt.Telling.told in
    both_viewer new.viewer (λ v. length v.pieces ≡ c.in_ok-front.front) (λ v. IsReadBy plan tells told v.pieces c.args.at c.args.len new.bytes new.runs) (λ v. IsWholeAnswer plan tells told v.pieces c.args.at c.args.len c.in-Ok.answer)
    c.in_ok-front.ensures.front c.in_ok-front.ensures.read
    (λ v front read. whole_answer plan tells told v.pieces c.args.at c.args.len c.in_ok-front.front new.bytes new.runs c.in-Ok.answer read (sym front) c.in-Ok.ensures.range c.answer.ensures.room c.in-Ok.ensures.lines)
