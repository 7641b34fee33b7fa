use Rattle.std.proofs.Common.{◌≡◌, ℕ, sym, ap, subst, ◌∙◌}
use Rattle.std.specs.Prelude.{Contains}
use Rattle.std.proofs.lemmas.Bool.{false≢true}
use Rattle.aff_model.specs.History.{Part, Published}
use Rattle.aff_book.specs.Pages.{Pages}
use Rattle.aff_run.proofs.Sweeping.{extents, has_pushed, none_added, not_out, stay_pushed}
use Rattle.aff_run.proofs.sweep.sweep_one.Goals as goal

pub returns-in-Done-clause-published : goal.returns-in-Done-clause-published
returns-in-Done-clause-published g c = λ _.
    let a = c.in-Done.ensures.answer.1 in
    has_pushed c.sweep.new.self.pieces c.put.new.self.pieces a.piece c.args.number a.pieces (ap (λ (q : Published). q.extent) a.is.is)

pub returns-in-Done-clause-stay : goal.returns-in-Done-clause-stay
returns-in-Done-clause-stay g c = λ k has.
    let a = c.in-Done.ensures.answer.1 in
    let same = ap (λ (b : Pages g.row.F-Receipt.Denot). b.pieces) c.sweep.ensures.seat.1 in
    stay_pushed c.sweep.new.self.pieces c.put.new.self.pieces a.piece k a.pieces (subst (λ ps. Contains (extents ps) k) (sym same) has)

pub returns : goal.returns
returns g c =
    let same = ap (λ (b : Pages g.row.F-Receipt.Denot). b.pieces) c.sweep.ensures.seat.1 in
    let still = none_added g.F.Folder.tells g.F.Receipt.Telling.told _ _ _ c.sweep.new.self c.put.new.self c.put.result c.in_default-matches.not-Done c.put.ensures.answer in
    let read = c.in-Ok-read_planned.ensures in
    record {
      published = λ no. absurd (false≢true no);
      stay = λ k has. subst (λ ps. Contains (extents ps) k) (sym (still ∙ same)) has;
      once = λ has. absurd (not_out c.sweep.new.self.seat.out c.args.number c.in-Claimed.claimant c.sweep.result c.sweep.ensures.out.0 c.in-Claimed.is
          (subst (λ l. Contains l c.args.number) c.sweep.ensures.pieces (subst (λ ps. Contains (extents ps) c.args.number) (sym same) has)));
      kept = read.kept;
    }
