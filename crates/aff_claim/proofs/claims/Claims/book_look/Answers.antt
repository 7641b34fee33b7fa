use Rattle.std.proofs.Common.{◌↔◌, ◌<◌, subst, sym, ap, ◌∙◌, arith, Contains}
use mathlib.Core.Option.{none}
use Rattle.atomic_table.specs.Table.{Allows, step}
use Rattle.aff_claim.specs.Rule.{IsClaimTable}
use Rattle.aff_claim.specs.Steps.{book_loads}
use Rattle.aff_claim.specs.Words.{Names, IsPublished}
use Rattle.aff_claim.proofs.Allowed.{book_load_allowed}
use Rattle.aff_claim.proofs.Seated.{same_table}
use Rattle.aff_claim.proofs.claims.Claims.book_look.Goals as goal

pub load-found-requires : goal.load-found-requires
load-found-requires c =
    let i = c.self.invariant in
    let table = c.self.inside.table.shared in
    let seat = c.seat.inside.seat in
    let same = ap (λ t. t.table) c.seat.view_is ∙ (c.requires.table ∙ sym (ap (λ t. t.table) c.self.view_is)) in
    let key = ap (λ k. k.extents) i.0 in
    let count = ap (λ t. t.table.extents) c.self.view_is in
    let planned = c.requires.planned in
    let words = i.1 in
    let inside : c.args.extent < table.key.extents = omega arith in (
      ap (λ t. t.id) same,
      omega arith,
      subst (λ w. Allows (IsClaimTable table.key) table.table_id.slots seat.id seat.me w (λ x. x) (book_loads (step table.table_id.slots w 0 0 none) seat.me)) (sym c.claim_place.ensures)
          (book_load_allowed table.key table.table_id.slots seat.id seat.me c.seat.invariant c.args.extent inside),
    )

pub invariant_of-seat : goal.invariant_of-seat
invariant_of-seat c = ap (λ m. m.0.is_book) (c.load-found.ensures.2 c.args.extent c.claim_place.ensures).0 ∙ c.seat.invariant

pub read_word-requires : goal.read_word-requires
read_word-requires c k named =
    let told = (c.load-found.ensures.2 c.args.extent c.claim_place.ensures).1 in
    let le = told.number k named in
    let workers = ap (λ t. t.table.workers) c.seat.view_is ∙ ap (λ t. t.workers) (c.requires.table ∙ sym (ap (λ t. t.table) c.self.view_is)) in
    let small = c.self.invariant.4 in
    omega arith

pub returns-clause-table : goal.returns-clause-table
returns-clause-table c =
    let told = (c.load-found.ensures.2 c.args.extent c.claim_place.ensures).0 in
    same_table c.load-found.new.seat.table_id c.seat.inside.seat.table_id c.load-found.new.seat.me.0 c.seat.inside.seat.me.0 c.load-found.ensures.0 (ap (λ m. m.0.extents) told) (ap (λ m. m.0.workers) told)
    ∙ ap (λ t. t.table) c.seat.view_is

pub returns-clause-number : goal.returns-clause-number
returns-clause-number c k named =
    let told = (c.load-found.ensures.2 c.args.extent c.claim_place.ensures).1 in
    let le = told.number k (subst (λ w. Names w k) c.read_word.ensures named) in
    let workers = ap (λ t. t.table.workers) c.seat.view_is ∙ ap (λ t. t.workers) c.requires.table in
    omega arith

pub returns-clause-out : goal.returns-clause-out
returns-clause-out c =
    let told = (c.load-found.ensures.2 c.args.extent c.claim_place.ensures).1 in
    let view = ap (λ t. t.view) c.seat.view_is in
    let now = subst (λ w. Contains c.seat.inside.seat.me.0.book.out c.args.extent ↔ IsPublished w) (sym c.read_word.ensures) told.out in
    subst (λ b. Contains b.out c.args.extent ↔ IsPublished c.read_word.result) view now

pub returns-clause-held : goal.returns-clause-held
returns-clause-held c k held =
    let told = (c.load-found.ensures.2 c.args.extent c.claim_place.ensures).1 in
    let view = ap (λ t. t.view) c.seat.view_is in
    subst (λ w. Names w k) (sym c.read_word.ensures) (told.held k (subst (λ b. Contains b.held (c.args.extent, k)) (sym view) held))
