use Rattle.std.proofs.Common.{◌≡◌, ◌-◌, ◌≤◌, length}
use Rattle.aff_examine.specs.Following.{HasGoneOn, between, seen_by}
use Rattle.aff_examine.specs.Sights.{IsFold}
use Rattle.aff_examine.proofs.follower.Follower.follow.Given as goal

abbrev pub invariant-loop-self : goal.invariant-loop-self
invariant-loop-self g l =
    let first = goal.Examiner-dyn g l.initial.examiner.now in
    let examiner = goal.Examiner-dyn g l.examiner.now in
    record {
      on : HasGoneOn l.initial.self l.self;
      inside : l.self.shown ≤ length (seen_by l.self);
      fold : IsFold l.initial.self.plan g.F.Receipt.Telling.receipt_tells g.F.Receipt.Telling.told (first.rule l.initial.examiner.now.1) l.initial.self.shown (between l.initial.self.shown l.self.shown (seen_by l.self)) (first.state l.initial.examiner.now.1) (examiner.state l.examiner.now.1);
      ruled : examiner.rule l.examiner.now.1 ≡ first.rule l.initial.examiner.now.1;
      printed : examiner.text l.examiner.now.1 ≡ first.text l.initial.examiner.now.1;
      later : g.F.Peek.Peek.peek_faults l.initial.self.peek ≤ g.F.Peek.Peek.peek_faults l.self.peek;
    }

abbrev pub decreases-loop-self : goal.decreases-loop-self
decreases-loop-self g l = length l.self.plan.extents - l.self.shown
