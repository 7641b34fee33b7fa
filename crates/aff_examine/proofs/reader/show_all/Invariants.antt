use Rattle.std.proofs.Common.{◌≡◌, ◌-◌, ◌≤◌, length, map}
use Rattle.std.specs.Arc.{arc_value}
use Rattle.aff_examine.specs.Following.{between}
use Rattle.aff_examine.specs.Sights.{IsFold}
use Rattle.aff_examine.proofs.reader.show_all.Given as goal

abbrev pub invariant-loop-shown : goal.invariant-loop-shown
invariant-loop-shown g l =
    let first = goal.Examiner-dyn g l.initial.examiner.now in
    let examiner = goal.Examiner-dyn g l.examiner.now in
    record {
      plan : l.reader.plan ≡ l.initial.reader.plan;
      more : l.initial.shown ≤ l.shown;
      inside : l.shown ≤ length l.pieces;
      fold : IsFold l.initial.reader.plan g.F.Receipt.Telling.receipt_tells g.F.Receipt.Telling.told (first.rule l.initial.examiner.now.1) l.initial.shown (between l.initial.shown l.shown (map arc_value l.pieces)) (first.state l.initial.examiner.now.1) (examiner.state l.examiner.now.1);
      ruled : examiner.rule l.examiner.now.1 ≡ first.rule l.initial.examiner.now.1;
      printed : examiner.text l.examiner.now.1 ≡ first.text l.initial.examiner.now.1;
      later : g.F.Peek.Peek.peek_faults l.initial.reader.peek ≤ g.F.Peek.Peek.peek_faults l.reader.peek;
    }

abbrev pub decreases-loop-shown : goal.decreases-loop-shown
decreases-loop-shown g l = length l.pieces - l.shown
