use Rattle.std.proofs.Common.{◌≡◌, ◌+◌, ◌≤◌, ◌∷◌, [], ◌++◌, Some, List, length, map, take, sym, ap, subst, ◌∙◌, arith}
use Rattle.std.specs.Prelude.{All, IfSome}
use Rattle.std.proofs.lemmas.List.{map-append, take_more}
use Rattle.std.proofs.lemmas.List.Elements.{All-pop, All-push}
use Rattle.aff_script.specs.Script.{IsSession}
use Rattle.aff_script.specs.declared.script.Request.{Request}
use Rattle.aff_session.specs.Sittings.{Sitting}
use Rattle.aff_snapshot.specs.Lists.{Beginning, ListName}
use Rattle.aff_run.specs.Sessions.{IsFresh}
use Rattle.aff_run.proofs.making.sessions_of.Goals as goal

pub loop-wanted-preserved : goal.loop-wanted-preserved
loop-wanted-preserved g c =
    let i = c.loop-wanted.invariant in
    let p = c.push_reserved.ensures in
    let o = c.session_of.ensures in
    let k = c.in-Ok.ensures in
    let left = All-pop (λ (v : Beginning g.row.F-Receipt.Denot). v.list.plan ≡ c.args.plan.now) c.loop-wanted.viewers.items c.pop-viewer.new.self.items c.pop-viewer.result c.pop-viewer.ensures.items i.plans in
    let same = λ (list : ListName) (all : All (λ (v : Beginning g.row.F-Receipt.Denot). v.list ≡ list) c.args.viewers.now.items).
    All-pop (λ (v : Beginning g.row.F-Receipt.Denot). v.list ≡ list) c.loop-wanted.viewers.items c.pop-viewer.new.self.items c.pop-viewer.result c.pop-viewer.ensures.items (i.lists list all) in
    record {
      table = o.seat.0 ∙ i.table;
      out = o.seat.1 ∙ i.out;
      made = omega (arith, o.made, i.made);
      len = omega (arith, p.len, i.len);
      room = p.capacity ∙ i.room;
      peeks_len = omega (arith, k.peeks, i.peeks_len);
      peeks_room = o.room.1 ∙ i.peeks_room;
      plans = left.0;
      lists = λ list all. (same list all).0;
      fresh = λ list all. subst (All (λ (s : Sitting g.row.F-Receipt.Denot g.row.F-Peek.Denot). IsFresh c.args.plan.now c.args.claims.now list s)) (sym p.items)
          (All-push (λ (s : Sitting g.row.F-Receipt.Denot g.row.F-Peek.Denot). IsFresh c.args.plan.now c.args.claims.now list s) c.loop-wanted.sessions.items c.in-Ok.session (i.fresh list all) (k.session list (same list all).1));
      asks = ap (map (λ (s : Sitting g.row.F-Receipt.Denot g.row.F-Peek.Denot). s.requests)) p.items ∙ (map-append (λ (s : Sitting g.row.F-Receipt.Denot g.row.F-Peek.Denot). s.requests) c.loop-wanted.sessions.items (c.in-Ok.session ∷ [])
          ∙ (ap (λ l. l ++ c.in-Ok.session.requests ∷ []) i.asks ∙ (ap (λ x. take c.loop-wanted.wanted-index c.deref-wanted-items.result.now ++ x ∷ []) (k.wanted ∙ c.wanted-item.is)
          ∙ sym (take_more c.deref-wanted-items.result.now c.loop-wanted.wanted-index c.wanted-item.result c.loop-wanted-test.true))));
    }

pub session_of-requires-clause-viewer : goal.session_of-requires-clause-viewer
session_of-requires-clause-viewer g c κs within =
    (All-pop (λ (v : Beginning g.row.F-Receipt.Denot). v.list.plan ≡ c.args.plan.now) c.loop-wanted.viewers.items c.pop-viewer.new.self.items c.pop-viewer.result c.pop-viewer.ensures.items c.loop-wanted.invariant.plans).1

pub session_of-requires-clause-wanted : goal.session_of-requires-clause-wanted
session_of-requires-clause-wanted g c κs within =
    let all = subst (All (IsSession c.args.plan.now.size)) (sym c.script.view_is ∙ sym c.deref-wanted-items.ensures.value) c.requires.script.each in
    subst (IsSession c.args.plan.now.size) (sym c.wanted-item.is) (all c.loop-wanted.wanted-index c.wanted-item.result c.loop-wanted-test.true)
