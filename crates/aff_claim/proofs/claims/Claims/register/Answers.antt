use Rattle.std.proofs.Common.{◌-◌, ◌^◌, ◌<◌, subst, sym, ap, ◌∙◌, arith}
use Rattle.aff_claim.proofs.Allowed.{register_allowed, splits_allowed}
use Rattle.aff_claim.proofs.claims.Claims.register.Goals as goal

pub fetch_add-number-requires : goal.fetch_add-number-requires
fetch_add-number-requires c =
    let i = c.self.invariant in
    let table = c.self.inside.table.shared in
    let seat = c.seat.inside.seat in
    let same = ap (λ t. t.table) c.seat.view_is ∙ (c.requires.table ∙ sym (ap (λ t. t.table) c.self.view_is)) in
    let words = i.1 in
    let room = subst (λ v. v.view.made < 2 ^ 32 - 1) (sym c.seat.view_is) c.requires.room in
    (ap (λ t. t.id) same, omega arith, register_allowed table.key table.table_id.slots seat.id seat.me c.seat.invariant room)

pub split_seat-pass-requires : goal.split_seat-pass-requires
split_seat-pass-requires c =
    let i = c.self.invariant in
    let table = c.self.inside.table.shared in
    let drawn = c.fetch_add-number in
    let same = ap (λ t. t.table) c.seat.view_is ∙ (c.requires.table ∙ sym (ap (λ t. t.table) c.self.view_is)) in
    let words = i.1 in
    let told = drawn.ensures.2.0 in (
      drawn.ensures.0 ∙ ap (λ t. t.id) same,
      omega arith,
      splits_allowed table.key table.table_id.slots drawn.new.seat.id drawn.new.seat.me (ap (λ m. m.0.is_book) told ∙ c.seat.invariant) drawn.result (ap (λ m. m.0.book.drawn) told),
    )
