use Rattle.std.proofs.Common.{◌≡◌, ◌<◌, subst, sym, ap, ◌∙◌, arith, length, Contains}
use mathlib.Core.Option.{none}
use Rattle.std.specs.Arc.{arc_value}
use Rattle.atomic_table.specs.Table.{Allows, step}
use Rattle.aff_claim.specs.Demands.{ArePlanned}
use Rattle.aff_claim.specs.Rule.{IsClaimTable}
use Rattle.aff_claim.specs.Steps.{demand_loads}
use Rattle.aff_claim.specs.Words.{demand_count, demand_place}
use Rattle.aff_claim.proofs.DemandSteps.{demand_load_allows}
use Rattle.aff_claim.proofs.Remembering.{remembers_same}
use Rattle.aff_claim.proofs.Seated.{same_claims}
use Rattle.aff_claim.proofs.claims.Claims.demands.Goals as goal

pub load-requires : goal.load-requires
load-requires c =
    let i = c.self.invariant in
    let p = c.pass.invariant in
    let table = c.self.inside.table.shared in
    let seat = c.pass.inside.seat in
    let same = ap (λ t. t.claims) c.pass.view_is ∙ (c.requires.table ∙ sym c.self.view_is) in
    let key = ap (λ k. k.extents) i.0 in
    let count = ap (λ t. t.table.extents) c.self.view_is in
    let words = i.1 in
    let len : c.len.result ≡ table.key.extents = c.len.ensures.priorities ∙ (ap (λ r. length r.priorities) c.deref.ensures ∙ sym key) in
    let number = c.requires.number in
    let inside : c.args.number < demand_count table.key.extents = omega arith in
    let place : c.demand_place-place.result ≡ demand_place table.key.extents c.args.number = c.demand_place-place.ensures ∙ ap (λ n. demand_place n c.args.number) len in (
      ap (λ t. t.table.id) same,
      omega arith,
      subst (λ w. Allows (IsClaimTable table.key) table.table_id.slots seat.id seat.me w (λ x. x) (demand_loads (step table.table_id.slots w 0 0 none) seat.me)) (sym place)
          (demand_load_allows table.key table.table_id.slots seat.id seat.me p.seat c.args.number inside),
    )

pub invariant_of-pass : goal.invariant_of-pass
invariant_of-pass c =
    let count : c.len.result ≡ c.args.self.now.table.extents = c.len.ensures.priorities ∙ (ap (λ r. length r.priorities) c.deref.ensures ∙ ap (λ t. t.table.extents) c.self.view_is) in
    let own : c.pass.inside.seat.me.0.extents ≡ c.args.self.now.table.extents = ap (λ t. t.claims.table.extents) c.pass.view_is ∙ ap (λ t. t.table.extents) c.requires.table in
    let place = c.demand_place-place.ensures ∙ ap (λ n. demand_place n c.args.number) (count ∙ sym own) in
    let told = (c.load.ensures.2 c.args.number place).0 in
    remembers_same (arc_value c.pass.inside.ranking) c.pass.inside.seen.items c.pass.inside.served.items c.pass.inside.front c.pass.inside.number c.pass.inside.seat.me.0 c.load.new.seat.me.0
    (ap (λ m. m.0.is_book) told) (ap (λ m. m.0.pass.number) told) c.pass.invariant (ap (λ m. m.0.pass.known) told)

pub returns-clause-table : goal.returns-clause-table
returns-clause-table c =
    let count : c.len.result ≡ c.args.self.now.table.extents = c.len.ensures.priorities ∙ (ap (λ r. length r.priorities) c.deref.ensures ∙ ap (λ t. t.table.extents) c.self.view_is) in
    let own : c.pass.inside.seat.me.0.extents ≡ c.args.self.now.table.extents = ap (λ t. t.claims.table.extents) c.pass.view_is ∙ ap (λ t. t.table.extents) c.requires.table in
    let place = c.demand_place-place.ensures ∙ ap (λ n. demand_place n c.args.number) (count ∙ sym own) in
    let told = (c.load.ensures.2 c.args.number place).0 in
    same_claims c.load.new.seat.table_id c.pass.inside.seat.table_id c.load.new.seat.me.0 c.pass.inside.seat.me.0 (arc_value c.pass.inside.ranking) c.load.ensures.0 (ap (λ m. m.0.extents) told)
    (ap (λ m. m.0.workers) told) ∙ ap (λ t. t.claims) c.pass.view_is

pub returns-clause-planned : goal.returns-clause-planned
returns-clause-planned c =
    let count : c.len.result ≡ c.args.self.now.table.extents = c.len.ensures.priorities ∙ (ap (λ r. length r.priorities) c.deref.ensures ∙ ap (λ t. t.table.extents) c.self.view_is) in
    let own : c.pass.inside.seat.me.0.extents ≡ c.args.self.now.table.extents = ap (λ t. t.claims.table.extents) c.pass.view_is ∙ ap (λ t. t.table.extents) c.requires.table in
    let place = c.demand_place-place.ensures ∙ ap (λ n. demand_place n c.args.number) (count ∙ sym own) in
    let told = (c.load.ensures.2 c.args.number place).1 in
    subst (λ m. ArePlanned m c.args.number c.load.result) own told.planned

pub returns-clause-before : goal.returns-clause-before
returns-clause-before c old i has bit =
    let count : c.len.result ≡ c.args.self.now.table.extents = c.len.ensures.priorities ∙ (ap (λ r. length r.priorities) c.deref.ensures ∙ ap (λ t. t.table.extents) c.self.view_is) in
    let own : c.pass.inside.seat.me.0.extents ≡ c.args.self.now.table.extents = ap (λ t. t.claims.table.extents) c.pass.view_is ∙ ap (λ t. t.table.extents) c.requires.table in
    let place = c.demand_place-place.ensures ∙ ap (λ n. demand_place n c.args.number) (count ∙ sym own) in
    let told = (c.load.ensures.2 c.args.number place).1 in
    told.before old i (subst (λ p. Contains p.looked (c.args.number, old)) (sym (ap (λ t. t.view) c.pass.view_is)) has) bit
