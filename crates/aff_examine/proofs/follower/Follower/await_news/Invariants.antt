use Rattle.std.proofs.Common.{◌≡◌, ◌-◌, ◌<◌, ◌≤◌, length}
use Rattle.aff_model.specs.declared.limits.TheConstants.{TURNS}
use Rattle.aff_examine.specs.Following.{HasGoneOn, seen_by}
use Rattle.aff_examine.proofs.follower.Follower.await_news.Given as goal

abbrev pub invariant-loop-self : goal.invariant-loop-self
invariant-loop-self g l = record {
  on : HasGoneOn l.initial.self l.self;
  peek : l.self.peek ≡ l.initial.self.peek;
  shown : l.self.shown ≡ l.initial.self.shown;
  inside : l.self.shown ≤ length (seen_by l.self);
  patient : l.self.idle ≤ TURNS;
  all : 0 < l.self.idle → l.self.shown ≡ length (seen_by l.self);
}

abbrev pub decreases-loop-self : goal.decreases-loop-self
decreases-loop-self g l = TURNS - l.self.idle
