use Rattle.std.proofs.Common.{◌<◌, length, sym, ap, subst, ◌∙◌, rules, arith}
use Rattle.std.specs.Prelude.{MatchBool}
use Rattle.aff_examine.specs.Following.{Following, MayEnd, seen_by}
use Rattle.aff_examine.proofs.Goings.{follow_step, gone_trans, may_end}
use Rattle.aff_examine.proofs.follower.Follower.follow.Goals as goal
use Rattle.aff_examine.proofs.follower.Follower.follow.Goals.{then-loop-self-test+else-await_news, else-loop-self-test}

pub loop-self-preserved : goal.loop-self-preserved
loop-self-preserved g c =
    let inv = c.loop-self.invariant in
    let old = c.loop-self.self in
    let mid = c.await_news.new.self in
    let new = c.show_seen.new.self in
    record {
      on = gone_trans c.args.self.now mid new (gone_trans c.args.self.now old mid inv.on c.await_news.ensures.on) c.show_seen.ensures.on;
      inside = c.show_seen.ensures.inside;
      fold = follow_step g.F.Receipt.Telling.receipt_tells g.F.Receipt.Telling.told c.args.self.now old mid new _ _ _ _ _ inv.on inv.inside c.await_news.ensures.on c.await_news.ensures.same.1 c.show_seen.ensures.on c.show_seen.ensures.viewer inv.ruled inv.fold c.show_seen.ensures.fold;
      ruled = c.show_seen.ensures.kept.ruled ∙ inv.ruled;
      printed = c.show_seen.ensures.kept.printed ∙ inv.printed;
      later = search rules;
    }

pub returns-in_err-show_seen-clause-on : goal.returns-in_err-show_seen-clause-on
returns-in_err-show_seen-clause-on g c =
    gone_trans c.args.self.now c.await_news.new.self c.show_seen.new.self (gone_trans c.args.self.now c.loop-self.self c.await_news.new.self c.loop-self.invariant.on c.await_news.ensures.on) c.show_seen.ensures.on

pub returns-in_err-show_seen-clause-fold : goal.returns-in_err-show_seen-clause-fold
returns-in_err-show_seen-clause-fold g c =
    let inv = c.loop-self.invariant in
    follow_step g.F.Receipt.Telling.receipt_tells g.F.Receipt.Telling.told c.args.self.now c.loop-self.self c.await_news.new.self c.show_seen.new.self _ _ _ _ _ inv.on inv.inside c.await_news.ensures.on c.await_news.ensures.same.1 c.show_seen.ensures.on c.show_seen.ensures.viewer inv.ruled inv.fold c.show_seen.ensures.fold

pub returns-clause-ends : goal.returns-clause-ends
returns-clause-ends g c = elim c.loop-self-test.branch [
  | then-loop-self-test+else-await_news w ↦ subst MayEnd (sym w.self-is) (subst (λ b. MatchBool b (w.await_news.new.self.shown < length (seen_by w.await_news.new.self)) (MayEnd w.await_news.new.self)) w.if-await_news.false w.await_news.ensures.news)
  | else-loop-self-test w ↦ subst MayEnd (sym w.self-is) (may_end c.loop-self.self
      (omega (arith, w.loop-self-test.false, c.count.ensures, ap (λ (f : Following _ _). length f.plan.extents) c.self.view_is, ap (λ (f : Following _ _). f.shown) c.self.view_is)))
]
