use Rattle.std.proofs.Common.{◌<◌, subst, sym, ap, ◌∙◌, arith, Contains, length}
use mathlib.Core.Option.{none}
use Rattle.std.specs.Arc.{arc_value}
use Rattle.atomic_table.specs.Table.{Allows, step}
use Rattle.aff_claim.specs.Rule.{IsClaimTable}
use Rattle.aff_claim.specs.Steps.{loads}
use Rattle.aff_claim.specs.Words.{Names}
use Rattle.aff_claim.proofs.Allowed.{load_allowed}
use Rattle.aff_claim.proofs.Remembering.{remembers_looked}
use Rattle.aff_claim.proofs.Seated.{same_claims}
use Rattle.aff_claim.proofs.claims.Claims.look.Goals as goal

pub load-found-requires : goal.load-found-requires
load-found-requires c =
    let i = c.self.invariant in
    let p = c.pass.invariant in
    let table = c.self.inside.table.shared in
    let seat = c.pass.inside.seat in
    let same = ap (λ t. t.claims) c.pass.view_is ∙ (c.requires.table ∙ sym c.self.view_is) in
    let key = ap (λ k. k.extents) i.0 in
    let count = ap (λ t. t.table.extents) c.self.view_is in
    let planned = c.requires.planned in
    let words = i.1 in
    let inside : c.args.extent < table.key.extents = omega arith in (
      ap (λ t. t.table.id) same,
      omega arith,
      subst (λ w. Allows (IsClaimTable table.key) table.table_id.slots seat.id seat.me w (λ x. x) (loads (step table.table_id.slots w 0 0 none) seat.me)) (sym c.claim_place.ensures)
          (load_allowed table.key table.table_id.slots seat.id seat.me p.seat c.args.extent inside),
    )

pub invariant_of-pass : goal.invariant_of-pass
invariant_of-pass c =
    let p = c.pass.invariant in
    let v = c.pass.inside.seat.me.0 in
    let told = (c.load-found.ensures.2 c.args.extent c.claim_place.ensures).0 in
    let same = ap (λ t. t.claims) c.pass.view_is ∙ (c.requires.table ∙ sym c.self.view_is) in
    let priorities = ap (λ t. length t.ranking.priorities) same in
    let count = ap (λ t. t.table.extents) c.self.view_is in
    let planned = c.requires.planned in
    let marks = p.count in
    let inside : c.args.extent < length c.pass.inside.seen.items = omega arith in
    remembers_looked (arc_value c.pass.inside.ranking) c.pass.inside.seen.items c.pass.inside.served.items c.pass.inside.front c.pass.inside.number v c.load-found.new.seat.me.0 (ap (λ m. m.0.is_book) told) (ap (λ m. m.0.pass.number) told) p
    c.args.extent c.load-found.result c.index_mut.result.now inside c.index_mut.ensures.value (ap (λ m. m.0.pass.known) told)

pub read_word-requires : goal.read_word-requires
read_word-requires c k named =
    let told = (c.load-found.ensures.2 c.args.extent c.claim_place.ensures).1 in
    let le = told.number k named in
    let workers = ap (λ t. t.claims.table.workers) c.pass.view_is ∙ ap (λ t. t.table.workers) (c.requires.table ∙ sym c.self.view_is) in
    let small = c.self.invariant.4 in
    omega arith

pub returns-clause-table : goal.returns-clause-table
returns-clause-table c =
    let told = (c.load-found.ensures.2 c.args.extent c.claim_place.ensures).0 in
    same_claims c.load-found.new.seat.table_id c.pass.inside.seat.table_id c.load-found.new.seat.me.0 c.pass.inside.seat.me.0 (arc_value c.pass.inside.ranking)
    c.load-found.ensures.0 (ap (λ m. m.0.extents) told) (ap (λ m. m.0.workers) told)
    ∙ ap (λ t. t.claims) c.pass.view_is

pub returns-clause-number : goal.returns-clause-number
returns-clause-number c k named =
    let told = (c.load-found.ensures.2 c.args.extent c.claim_place.ensures).1 in
    let le = told.number k (subst (λ w. Names w k) c.read_word.ensures named) in
    let workers = ap (λ t. t.claims.table.workers) c.pass.view_is ∙ ap (λ t. t.table.workers) c.requires.table in
    omega arith

pub returns-clause-mine : goal.returns-clause-mine
returns-clause-mine c mine =
    let told = (c.load-found.ensures.2 c.args.extent c.claim_place.ensures).1 in
    let view = ap (λ t. t.view) c.pass.view_is in
    let named = told.mine (subst (λ p. Contains p.mine c.args.extent) (sym view) mine) in
    subst (λ p. Names c.read_word.result p.number) view (subst (λ w. Names w c.pass.inside.seat.me.0.pass.number) (sym c.read_word.ensures) named)

pub returns-clause-known : goal.returns-clause-known
returns-clause-known c known free =
    let told = (c.load-found.ensures.2 c.args.extent c.claim_place.ensures).1 in
    let view = ap (λ t. t.view) c.pass.view_is in
    told.known (subst (λ p. Contains p.known c.args.extent) (sym view) known) (sym c.read_word.ensures ∙ free)
