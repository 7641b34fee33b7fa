use Rattle.std.proofs.Common.{◌≡◌, ◌+◌, ◌≤◌, List, length, sym, ap, subst, ◌∙◌, arith}
use Rattle.std.specs.Prelude.{All, IfSome}
use Rattle.std.proofs.lemmas.List.Elements.{All-pop, All-push}
use Rattle.aff_examine.specs.Following.{Following}
use Rattle.aff_snapshot.specs.Lists.{Beginning, ListName}
use Rattle.aff_run.specs.Examinations.{IsNew}
use Rattle.aff_run.proofs.making.followers_of.Goals as goal

pub loop-preserved : goal.loop-preserved
loop-preserved g c =
    let i = c.loop.invariant in
    let p = c.push_reserved.ensures in
    let o = c.follower_of.ensures in
    let k = c.in-Ok.ensures in
    let left = All-pop (λ (v : Beginning g.row.F-Receipt.Denot). v.list.plan ≡ c.args.plan.now) c.loop.viewers.items c.pop.new.self.items c.pop.result c.pop.ensures.items i.plans in
    let same = λ (list : ListName) (all : All (λ (v : Beginning g.row.F-Receipt.Denot). v.list ≡ list) c.args.viewers.now.items).
    All-pop (λ (v : Beginning g.row.F-Receipt.Denot). v.list ≡ list) c.loop.viewers.items c.pop.new.self.items c.pop.result c.pop.ensures.items (i.lists list all) in
    record {
      len = omega (arith, p.len, i.len);
      room = p.capacity ∙ i.room;
      peeks_len = omega (arith, o.peeks.0, i.peeks_len);
      peeks_room = o.peeks.1 ∙ i.peeks_room;
      plans = left.0;
      lists = λ list all. (same list all).0;
      new = λ list all. subst (All (λ (f : Following g.row.F-Receipt.Denot g.row.F-Peek.Denot). IsNew c.args.plan.now list f)) (sym p.items)
          (All-push (λ (f : Following g.row.F-Receipt.Denot g.row.F-Peek.Denot). IsNew c.args.plan.now list f) c.loop.followers.items c.in-Ok.follower (i.new list all) (k.follower list (same list all).1));
    }

pub follower_of-requires-clause-viewer : goal.follower_of-requires-clause-viewer
follower_of-requires-clause-viewer g c κs within =
    (All-pop (λ (v : Beginning g.row.F-Receipt.Denot). v.list.plan ≡ c.args.plan.now) c.loop.viewers.items c.pop.new.self.items c.pop.result c.pop.ensures.items c.loop.invariant.plans).1
