use Rattle.std.proofs.Common.{◌≡◌, ℕ, ◌+◌, ◌<◌, ◌≤◌, arith, sym, ap, subst, ◌∙◌, length}
use Rattle.std.specs.Prelude.{All}
use Rattle.aff_claim.specs.declared.view.BookView.{BookView}
use Rattle.aff_snapshot.specs.Lists.{Beginning}
use Rattle.aff_run.specs.declared.crew.Kit.{Kit}
use Rattle.aff_run.proofs.making.make.Goals as goal

pub overflow_cast-readers : goal.overflow_cast-readers
overflow_cast-readers g c = omega (arith, c.len-sessions.ensures, c.script.inside.sessions.ok.0, ap length c.script.view_is, c.requires.script.few, c.requires.few.1)

pub readers_of-requires-clause-seat : goal.readers_of-requires-clause-seat
readers_of-requires-clause-seat g c κs within =
    let kits = c.in_ok-kits.ensures in
    let claims = c.in_ok-claims.ensures in
    (c.kits_of.ensures.seat.0 ∙ claims.seat.0, omega (arith, kits.made, c.in_ok-orders.ensures, c.requires.few.0))

pub readers_of-requires-clause-extents : goal.readers_of-requires-clause-extents
readers_of-requires-clause-extents g c κs within = c.in_ok-claims.ensures.plan.0

pub returns-in-Ok-clause-claims : goal.returns-in-Ok-clause-claims
returns-in-Ok-clause-claims g c = (c.in_ok-claims.ensures.plan.0, c.in_ok-claims.ensures.workers)

pub returns-in-Ok-clause-ranking : goal.returns-in-Ok-clause-ranking
returns-in-Ok-clause-ranking g c = c.in_ok-claims.ensures.plan.1

pub returns-in-Ok-clause-seat : goal.returns-in-Ok-clause-seat
returns-in-Ok-clause-seat g c =
    let readers = c.readers_of.ensures.seat in
    let kits = c.kits_of.ensures.seat in
    let claims = c.in_ok-claims.ensures.seat in
    (readers.0 ∙ (kits.0 ∙ claims.0), readers.1 ∙ (kits.1 ∙ ap (λ (b : BookView). b.out) claims.1))

pub returns-in-Ok-clause-list : goal.returns-in-Ok-clause-list
returns-in-Ok-clause-list g c = (c.in_ok-publisher.ensures.plan, c.in_ok-publisher.ensures.empty)

pub returns-in-Ok-clause-count : goal.returns-in-Ok-clause-count
returns-in-Ok-clause-count g c = c.in_ok-kits.ensures.count ∙ c.in_ok-orders.ensures

pub returns-in-Ok-clause-kits : goal.returns-in-Ok-clause-kits
returns-in-Ok-clause-kits g c = subst (λ (n : ℕ). All (λ (k : Kit). (k.pass.claims ≡ c.in_ok-claims.claims) × (k.pass.view.number < n)) c.in_ok-kits.kits.items) c.in_ok-orders.ensures c.in_ok-kits.ensures.kits

pub returns-in-Ok-clause-sessions : goal.returns-in-Ok-clause-sessions
returns-in-Ok-clause-sessions g c = c.in-Ok.ensures.sessions c.in_ok-publisher.publisher.list (λ k d below. ap (λ (v : Beginning g.row.F-Receipt.Denot). v.list) (c.in_ok-publisher.ensures.viewers k d below))

pub returns-in-Ok-clause-script : goal.returns-in-Ok-clause-script
returns-in-Ok-clause-script g c = c.in-Ok.ensures.script

pub returns-in-Ok-clause-followers : goal.returns-in-Ok-clause-followers
returns-in-Ok-clause-followers g c =
    (c.in-Ok.ensures.count, c.in-Ok.ensures.followers c.in_ok-publisher.publisher.list (λ k d below. ap (λ (v : Beginning g.row.F-Receipt.Denot). v.list) (c.in_ok-publisher.ensures.viewers k d below)))

pub returns-in-Ok-clause-none : goal.returns-in-Ok-clause-none
returns-in-Ok-clause-none g c = c.in_ok-room.ensures.none

pub returns-in-Ok-clause-room : goal.returns-in-Ok-clause-room
returns-in-Ok-clause-room g c =
    let room = c.in_ok-room.ensures.room in
    let count = c.len-sessions.ensures in
    let len = c.script.inside.sessions.ok.0 in
    let script = ap length c.script.view_is in
    (omega (arith, count, len, script, room.0), omega (arith, count, len, script, room.1), omega (arith, count, len, script, room.2), omega (arith, count, len, script, room.3), omega (arith, count, len, script, room.4), room.5)

pub returns-in-Ok-clause-peeks : goal.returns-in-Ok-clause-peeks
returns-in-Ok-clause-peeks g c = c.in-Ok.ensures.peeks
