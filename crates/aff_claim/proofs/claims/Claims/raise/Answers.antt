use Rattle.std.proofs.Common.{◌≡◌, ◌/◌, ◌%◌, ◌^◌, ◌<◌, subst, sym, ap, ◌∙◌, arith, length}
use mathlib.Core.Option.{none}
use Rattle.std.specs.Arc.{arc_value}
use Rattle.std.specs.Prelude.{bit_or}
use Rattle.atomic_table.specs.Table.{Allows, step}
use Rattle.aff_claim.specs.Rule.{IsClaimTable}
use Rattle.aff_claim.specs.Steps.{raises}
use Rattle.aff_claim.specs.Words.{demand_place}
use Rattle.aff_claim.proofs.DemandSteps.{raise_allows}
use Rattle.aff_claim.proofs.Remembering.{remembers_same}
use Rattle.aff_claim.proofs.claims.Claims.raise.Goals as goal

pub fetch_or-requires : goal.fetch_or-requires
fetch_or-requires c =
    let i = c.self.invariant in
    let p = c.pass.invariant in
    let table = c.self.inside.table.shared in
    let seat = c.pass.inside.seat in
    let same = ap (λ t. t.claims) c.pass.view_is ∙ (c.requires.table ∙ sym c.self.view_is) in
    let key = ap (λ k. k.extents) i.0 in
    let count = ap (λ t. t.table.extents) c.self.view_is in
    let words = i.1 in
    let len : c.len.result ≡ table.key.extents = c.len.ensures.priorities ∙ (ap (λ r. length r.priorities) c.deref.ensures ∙ sym key) in
    let planned = c.requires.planned in
    let inside : c.args.extent < table.key.extents = omega arith in
    let bit = c.demand_bit.ensures in
    let place : c.demand_place-place.result ≡ demand_place table.key.extents (c.args.extent / 64) = c.demand_place-place.ensures ∙ (λ j. demand_place (len j) (c.demand_number.ensures j)) in (
      ap (λ t. t.table.id) same,
      omega arith,
      subst (λ k. Allows (IsClaimTable table.key) table.table_id.slots seat.id seat.me c.demand_place-place.result (λ x. bit_or x k) (raises (step table.table_id.slots c.demand_place-place.result k 0 none) seat.me)) (sym bit)
          (subst (λ w. Allows (IsClaimTable table.key) table.table_id.slots seat.id seat.me w (λ x. bit_or x (2 ^ (c.args.extent % 64))) (raises (step table.table_id.slots w (2 ^ (c.args.extent % 64)) 0 none) seat.me)) (sym place)
          (raise_allows table.key table.table_id.slots seat.id seat.me p.seat c.args.extent inside)),
    )

pub invariant_of-pass : goal.invariant_of-pass
invariant_of-pass c =
    let count : c.len.result ≡ c.args.self.now.table.extents = c.len.ensures.priorities ∙ (ap (λ r. length r.priorities) c.deref.ensures ∙ ap (λ t. t.table.extents) c.self.view_is) in
    let own : c.pass.inside.seat.me.0.extents ≡ c.args.self.now.table.extents = ap (λ t. t.claims.table.extents) c.pass.view_is ∙ ap (λ t. t.table.extents) c.requires.table in
    let place = c.demand_place-place.ensures ∙ (λ j. demand_place ((count ∙ sym own) j) (c.demand_number.ensures j)) in
    let told = c.fetch_or.ensures.2 c.args.extent place c.demand_bit.ensures in
    remembers_same (arc_value c.pass.inside.ranking) c.pass.inside.seen.items c.pass.inside.served.items c.pass.inside.front c.pass.inside.number c.pass.inside.seat.me.0 c.fetch_or.new.seat.me.0
    (ap (λ m. m.0.is_book) told) (ap (λ m. m.0.pass.number) told) c.pass.invariant (ap (λ m. m.0.pass.known) told)
