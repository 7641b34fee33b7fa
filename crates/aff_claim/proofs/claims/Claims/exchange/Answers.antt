use Rattle.std.proofs.Common.{◌≡◌, ◌+◌, ◌*◌, ◌<◌, ◌==◌, subst, sym, ap, ◌∙◌, arith, length}
use mathlib.Core.Option.{none}
use prog.Atomic.{either}
use Rattle.std.specs.Arc.{arc_value}
use Rattle.atomic_table.specs.Table.{Allows, step}
use Rattle.aff_claim.specs.Rule.{IsClaimTable}
use Rattle.aff_claim.specs.Steps.{claims}
use Rattle.aff_claim.specs.Words.{word_of}
use Rattle.aff_claim.proofs.Allowed.{claim_allowed}
use Rattle.aff_claim.proofs.Remembering.{remembers_more, tried_number, tried_known}
use Rattle.aff_claim.proofs.Seated.{same_claims}
use Rattle.aff_claim.proofs.claims.Claims.exchange.Goals as goal

pub compare_exchange-found-requires : goal.compare_exchange-found-requires
compare_exchange-found-requires c =
    let i = c.self.invariant in
    let p = c.pass.invariant in
    let table = c.self.inside.table.shared in
    let seat = c.pass.inside.seat in
    let same = ap (λ t. t.claims) c.pass.view_is ∙ (c.requires.table ∙ sym c.self.view_is) in
    let key = ap (λ k. k.extents) i.0 in
    let key_workers = ap (λ k. k.workers) i.0 in
    let count = ap (λ t. t.table.extents) c.self.view_is in
    let workers = ap (λ t. t.table.workers) c.self.view_is in
    let planned = c.requires.planned in
    let words = i.1 in
    let inside : c.args.extent < table.key.extents = omega arith in
    let own = subst (λ v. v.view.number < c.args.self.now.table.workers) (sym c.pass.view_is) c.requires.worker in
    let worker : seat.me.0.pass.number < table.key.workers = omega arith in
    let number : seat.me.0.pass.number ≡ c.from.result = p.numbered ∙ sym c.from.ensures in (
      ap (λ t. t.table.id) same,
      omega arith,
      subst (λ k. Allows (IsClaimTable table.key) table.table_id.slots seat.id seat.me c.claim_place.result (λ x. either (x == 0) (2 * k + 1) x) (claims (step table.table_id.slots c.claim_place.result 0 (2 * k + 1) none) seat.me)) number
          (subst (λ w. Allows (IsClaimTable table.key) table.table_id.slots seat.id seat.me w (λ x. either (x == 0) (2 * seat.me.0.pass.number + 1) x) (claims (step table.table_id.slots w 0 (2 * seat.me.0.pass.number + 1) none) seat.me)) (sym c.claim_place.ensures)
          (claim_allowed table.key table.table_id.slots seat.id seat.me p.seat c.args.extent inside worker)),
    )

pub invariant_of-pass : goal.invariant_of-pass
invariant_of-pass c =
    let p = c.pass.invariant in
    let v = c.pass.inside.seat.me.0 in
    let w = word_of c.compare_exchange-found.result in
    let told = (c.compare_exchange-found.ensures.2 c.args.extent c.claim_place.ensures).0 in
    let same = ap (λ t. t.claims) c.pass.view_is ∙ (c.requires.table ∙ sym c.self.view_is) in
    let priorities = ap (λ t. length t.ranking.priorities) same in
    let count = ap (λ t. t.table.extents) c.self.view_is in
    let planned = c.requires.planned in
    let marks = p.count in
    let inside : c.args.extent < length c.pass.inside.seen.items = omega arith in
    remembers_more (arc_value c.pass.inside.ranking) c.pass.inside.seen.items c.pass.inside.served.items c.pass.inside.front c.pass.inside.number v c.compare_exchange-found.new.seat.me.0 (ap (λ m. m.0.is_book) told)
    (ap (λ m. m.0.pass.number) told ∙ tried_number v.pass c.args.extent w) p c.args.extent inside (ap (λ m. m.0.pass.known) told ∙ tried_known v.pass c.args.extent w)

pub read_word-requires : goal.read_word-requires
read_word-requires c k named =
    let told = (c.compare_exchange-found.ensures.2 c.args.extent c.claim_place.ensures).1 in
    let le = told.number k named in
    let workers = ap (λ t. t.claims.table.workers) c.pass.view_is ∙ ap (λ t. t.table.workers) (c.requires.table ∙ sym c.self.view_is) in
    let small = c.self.invariant.4 in
    omega arith

pub returns-clause-table : goal.returns-clause-table
returns-clause-table c =
    let told = (c.compare_exchange-found.ensures.2 c.args.extent c.claim_place.ensures).0 in
    same_claims c.compare_exchange-found.new.seat.table_id c.pass.inside.seat.table_id c.compare_exchange-found.new.seat.me.0 c.pass.inside.seat.me.0 (arc_value c.pass.inside.ranking)
    c.compare_exchange-found.ensures.0 (ap (λ m. m.0.extents) told) (ap (λ m. m.0.workers) told)
    ∙ ap (λ t. t.claims) c.pass.view_is
