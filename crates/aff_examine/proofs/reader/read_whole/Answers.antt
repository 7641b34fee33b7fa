use Rattle.std.proofs.Common.{◌≡◌, ◌/◌, sym, ap, subst, ◌∙◌, arith}
use Rattle.std.specs.Prelude.{Contains}
use Rattle.aff_model.specs.History.{Part}
use Rattle.aff_examine.proofs.Showing.{is_read, sectored_at}
use Rattle.aff_examine.proofs.reader.read_whole.Goals as goal

pub returns-clause-read : goal.returns-clause-read
returns-clause-read g c =
    let plan = c.args.analyst.now.plan in
    let p = c.args.piece.now in
    let e = c.args.extent.now in
    let bad : c.deref.result.now ≡ p.bad = c.deref.ensures.value ∙ ap (λ (q : Part _). q.bad) c.piece.view_is in
    is_read g.C.Case.content plan g.F.Receipt.Telling.receipt_tells g.F.Receipt.Telling.told p e c.gather.new.out c.blank.new.bytes c.requires.planned (sectored_at plan p.extent e c.requires.plan c.requires.planned) c.requires.small c.requires.sound
    (omega (arith, c.requires.room, c.gather.ensures.len)) (c.in_ok-gather.ensures.bytes p c.requires.one) (record {
      len = c.blank.ensures.len;
      zero = λ k low has. c.blank.ensures.zero k low (subst (λ l. Contains l (k / 512)) (sym bad) has);
      same = λ k low none. c.blank.ensures.same k low (λ has. none (subst (λ l. Contains l (k / 512)) bad has));
    })
