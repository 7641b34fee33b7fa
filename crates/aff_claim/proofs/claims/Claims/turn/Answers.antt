use Rattle.std.proofs.Common.{◌≡◌, ◌+◌, ◌%◌, ◌^◌, subst, sym, ap, ◌∙◌, arith, length}
use mathlib.Core.Option.{none}
use Rattle.atomic_table.specs.Table.{Allows, step}
use Rattle.aff_claim.specs.Rule.{IsClaimTable}
use Rattle.aff_claim.specs.Steps.{turns}
use Rattle.aff_claim.specs.Words.{cursor_place}
use Rattle.aff_claim.proofs.Allowed.{turn_allowed}
use Rattle.aff_claim.proofs.claims.Claims.turn.Goals as goal

pub fetch_add-requires : goal.fetch_add-requires
fetch_add-requires c =
    let i = c.self.invariant in
    let p = c.pass.invariant in
    let table = c.self.inside.table.shared in
    let seat = c.pass.inside.seat in
    let same = ap (λ t. t.claims) c.pass.view_is ∙ (c.requires ∙ sym c.self.view_is) in
    let key = ap (λ k. k.extents) i.0 in
    let words = i.1 in
    let ranking = c.deref.ensures in
    let len : c.len.result ≡ table.key.extents = c.len.ensures.priorities ∙ (ap (λ r. length r.priorities) c.deref.ensures ∙ sym key) in
    let cursor : c.cursor_place-cursor.result ≡ cursor_place table.key.extents = c.cursor_place-cursor.ensures ∙ ap cursor_place len in (
      ap (λ t. t.table.id) same,
      omega arith,
      subst (λ w. Allows (IsClaimTable table.key) table.table_id.slots seat.id seat.me w (λ x. (x + 1) % 2 ^ 64) (turns (step table.table_id.slots w 1 0 none) seat.me)) (sym cursor)
          (turn_allowed table.key table.table_id.slots seat.id seat.me p.seat),
    )
