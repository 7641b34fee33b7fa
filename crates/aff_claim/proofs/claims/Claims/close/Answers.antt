use Rattle.std.proofs.Common.{◌≡◌, ◌<◌, subst, sym, ap, ◌∙◌, arith, length}
use Rattle.std.specs.Mem.Slots.{slots_items}
use Rattle.aff_claim.specs.Rule.{AreLastWords}
use Rattle.aff_claim.proofs.Opening.{closes}
use Rattle.aff_claim.proofs.claims.Claims.close.Goals as goal

pub returns-in-Ok : goal.returns-in-Ok
returns-in-Ok c =
    let i = c.self.invariant in
    let table = c.self.inside.table.shared in
    let seat = c.seat.inside.seat in
    let closed = c.close_with-closed in
    let key = ap (λ k. k.extents) i.0 in
    let extents = key ∙ ap (λ t. t.table.extents) c.self.view_is in
    let workers = ap (λ k. k.workers) i.0 ∙ ap (λ t. t.table.workers) c.self.view_is in
    let len : c.len.result ≡ table.key.extents = c.len.ensures.priorities ∙ (ap (λ r. length r.priorities) c.deref.ensures ∙ sym key) in
    let words = c.in-Ok.words.items in
    let last = closes table.key (slots_items closed.result.words) (slots_items closed.result.slots) seat.id seat.me.0 words c.seat.invariant closed.ensures.values.2 (c.in-Ok.ensures.count ∙ len)
    (λ e l. let low : e < c.len.result = omega arith in c.in-Ok.ensures.words e low) in
    subst (λ b. AreLastWords c.args.self.table.extents c.args.self.table.workers b words) (ap (λ t. t.view) c.seat.view_is)
    (subst (λ n. AreLastWords n c.args.self.table.workers seat.me.0.book words) extents (subst (λ w. AreLastWords table.key.extents w seat.me.0.book words) workers last))
