use Rattle.std.proofs.Common.{length, map, sym}
use Rattle.std.specs.Arc.{arc_value}
use Rattle.std.proofs.lemmas.List.{length-map}
use Rattle.aff_model.specs.History.{publication_of}
use Rattle.aff_session.proofs.Looks.{whole_answer}
use Rattle.aff_session.proofs.Rows.{answer_len}
use Rattle.aff_session.proofs.looker.Looker.ask_all.Goals as goal

pub answer-requires-clause-whole : goal.answer-requires-clause-whole
answer-requires-clause-whole g c κs within = answer_len c.args.self.now.plan.extents (map publication_of (map arc_value c.args.pieces.now)) c.args.at c.args.len c.look_at.new.self.runs c.in_ok-look_at.ensures.read.answer

pub returns-in-Ok-clause-answer : goal.returns-in-Ok-clause-answer
returns-in-Ok-clause-answer g c =
    let new = c.look_at.new.self in
    let pieces = map arc_value c.args.pieces.now in
    whole_answer c.args.self.now.plan g.F.Receipt.Telling.receipt_tells g.F.Receipt.Telling.told pieces c.args.at c.args.len (length c.args.pieces.now) new.bytes new.runs c.in-Ok.answer c.in_ok-look_at.ensures.read (sym (length-map c.args.pieces.now arc_value)) c.in-Ok.ensures.range c.answer.ensures.room c.in-Ok.ensures.lines
