use Rattle.std.proofs.Common.{◌≡◌, ℕ, ◌<◌, ◌≤◌, true, length, get_or, sym, ap, subst, ◌∙◌}
use Rattle.std.specs.Prelude.{None}
use Rattle.std.specs.Arc.{arc_value}
use Rattle.aff_model.specs.declared.extent.Extent.{Extent}
use Rattle.aff_image.specs.Sound.{IsSound}
use Rattle.aff_reader_rows.proofs.Halves.{half, half_sound, if_ok}
use Rattle.aff_reader_rows.proofs.pieces.stored.Goals as goal

pub returns-clause-sound : goal.returns-clause-sound
returns-clause-sound c =
    let chunk = c.deref-2.result.now in
    let same : chunk ≡ c.in_ok-chunk.chunk.items = c.deref-2.ensures.value in
    let long : length chunk ≡ 32768 = ap length same ∙ c.in_ok-chunk.ensures.len in
    let zeros : (k : ℕ) → 512 ≤ k → k < 32768 → get_or chunk k 0 ≡ 0 = λ k from to. ap (λ l. get_or l k 0) same ∙ c.in_ok-chunk.ensures.zeros k from to in
    let told : c.in_ok-receipt.receipt ≡ chunk = c.in_ok-receipt.ensures.receipt ∙ c.deref.ensures.value ∙ sym same in
    if_ok c.half_read.result (λ p. arc_value p ≡ half c.args.extent c.in_ok-receipt.receipt chunk) (λ p. (e : Extent) → e.len ≡ 1024 → IsSound None 512 e true (λ bytes. bytes) (arc_value p))
    (λ p is. λ e len. subst (IsSound None 512 e true (λ bytes. bytes)) (sym is) (half_sound true (λ bytes. bytes) c.args.extent c.in_ok-receipt.receipt chunk e len long zeros (λ t. told)))
    c.half_read.ensures
