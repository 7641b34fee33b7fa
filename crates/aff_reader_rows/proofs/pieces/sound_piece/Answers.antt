use Rattle.std.proofs.Common.{◌≡◌, sym, subst}
use Rattle.std.specs.Prelude.{None}
use Rattle.std.specs.Arc.{arc_value}
use Rattle.aff_model.specs.declared.extent.Extent.{Extent}
use Rattle.aff_image.specs.Sound.{IsSound}
use Rattle.aff_reader_rows.proofs.Halves.{half, half_sound, if_ok}
use Rattle.aff_reader_rows.proofs.pieces.sound_piece.Goals as goal

pub returns-clause-sound : goal.returns-clause-sound
returns-clause-sound g c =
    let tells = g.R.Telling.receipt_tells in
    let told = g.R.Telling.told in
    let chunk = c.args.chunk.now in
    if_ok c.half_read.result (λ p. arc_value p ≡ half 0 c.args.receipt chunk) (λ p. (e : Extent) → e.len ≡ 1024 → IsSound None 512 e tells told (arc_value p))
    (λ p is. λ e len. subst (IsSound None 512 e tells told) (sym is) (half_sound tells told 0 c.args.receipt chunk e len c.requires.len c.requires.zeros c.requires.told))
    c.half_read.ensures
