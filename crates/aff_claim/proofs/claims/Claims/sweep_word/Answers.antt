use Rattle.std.proofs.Common.{◌≡◌, ◌↔◌, ◌+◌, ◌*◌, ◌<◌, ◌==◌, ap, arith, subst, sym, ◌∙◌, Contains}
use mathlib.Core.Option.{none}
use prog.Atomic.{either}
use Rattle.atomic_table.specs.Table.{Allows, step}
use Rattle.aff_claim.specs.Rule.{IsClaimTable}
use Rattle.aff_claim.specs.Steps.{sweeps, swept}
use Rattle.aff_claim.specs.Words.{IsPublished, Names}
use Rattle.aff_claim.proofs.Allowed.{sweep_allowed}
use Rattle.aff_claim.proofs.Seated.{same_table}
use Rattle.aff_claim.proofs.claims.Claims.sweep_word.Goals as goal

pub compare_exchange-found-requires : goal.compare_exchange-found-requires
compare_exchange-found-requires c =
    let i = c.self.invariant in
    let table = c.self.inside.table.shared in
    let seat = c.seat.inside.seat in
    let same = ap (λ t. t.table) c.seat.view_is ∙ (c.requires.table ∙ sym (ap (λ t. t.table) c.self.view_is)) in
    let key = ap (λ k. k.extents) i.0 in
    let count = ap (λ t. t.table.extents) c.self.view_is in
    let planned = c.requires.planned in
    let words = i.1 in
    let inside : c.args.extent < table.key.extents = omega arith in
    let number : table.key.workers ≡ c.from.result = ap (λ k. k.workers) i.0 ∙ sym c.from.ensures in (
      ap (λ t. t.id) same,
      omega arith,
      subst (λ k. Allows (IsClaimTable table.key) table.table_id.slots seat.id seat.me c.claim_place.result (λ x. either (x == 0) (2 * k + 1) x) (sweeps (step table.table_id.slots c.claim_place.result 0 (2 * k + 1) none) seat.me)) number
          (subst (λ w. Allows (IsClaimTable table.key) table.table_id.slots seat.id seat.me w (λ x. either (x == 0) (2 * table.key.workers + 1) x) (sweeps (step table.table_id.slots w 0 (2 * table.key.workers + 1) none) seat.me)) (sym c.claim_place.ensures)
          (sweep_allowed table.key table.table_id.slots seat.id seat.me c.seat.invariant c.args.extent inside)),
    )

pub invariant_of-seat : goal.invariant_of-seat
invariant_of-seat c = ap (λ m. m.0.is_book) (c.compare_exchange-found.ensures.2 c.args.extent c.claim_place.ensures).0 ∙ c.seat.invariant

pub read_word-requires : goal.read_word-requires
read_word-requires c k named =
    let told = (c.compare_exchange-found.ensures.2 c.args.extent c.claim_place.ensures).1 in
    let le = told.number k named in
    let workers = ap (λ t. t.table.workers) c.seat.view_is ∙ ap (λ t. t.workers) (c.requires.table ∙ sym (ap (λ t. t.table) c.self.view_is)) in
    let small = c.self.invariant.4 in
    omega arith

pub returns-clause-table : goal.returns-clause-table
returns-clause-table c =
    let told = (c.compare_exchange-found.ensures.2 c.args.extent c.claim_place.ensures).0 in
    same_table c.compare_exchange-found.new.seat.table_id c.seat.inside.seat.table_id c.compare_exchange-found.new.seat.me.0 c.seat.inside.seat.me.0 c.compare_exchange-found.ensures.0
    (ap (λ m. m.0.extents) told) (ap (λ m. m.0.workers) told)
    ∙ ap (λ t. t.table) c.seat.view_is

pub returns-clause-view : goal.returns-clause-view
returns-clause-view c =
    let told = (c.compare_exchange-found.ensures.2 c.args.extent c.claim_place.ensures).0 in
    let workers = ap (λ t. t.table.workers) c.seat.view_is ∙ ap (λ t. t.workers) c.requires.table in
    let view = ap (λ t. t.view) c.seat.view_is in
    ap (λ m. m.0.book) told ∙ (λ i. swept (view i) c.args.extent (workers i) (sym c.read_word.ensures i))

pub returns-clause-number : goal.returns-clause-number
returns-clause-number c k named =
    let told = (c.compare_exchange-found.ensures.2 c.args.extent c.claim_place.ensures).1 in
    let le = told.number k (subst (λ w. Names w k) c.read_word.ensures named) in
    let workers = ap (λ t. t.table.workers) c.seat.view_is ∙ ap (λ t. t.workers) c.requires.table in
    omega arith

pub returns-clause-out : goal.returns-clause-out
returns-clause-out c =
    let told = (c.compare_exchange-found.ensures.2 c.args.extent c.claim_place.ensures).1 in
    let now = subst (λ w. Contains c.seat.inside.seat.me.0.book.out c.args.extent ↔ IsPublished w) (sym c.read_word.ensures) told.out in
    subst (λ b. Contains b.out c.args.extent ↔ IsPublished c.read_word.result) (ap (λ t. t.view) c.seat.view_is) now
