use Rattle.std.proofs.Common.{◌≡◌, ℕ, ◌+◌, ◌-◌, ◌<◌, Some, length, get_or, subst, ◌∙◌, arith}
use borrow.Rule.Slice.PartMut.{same_len_mid, mid_len}
use Rattle.aff_spec.specs.Volumes.{volume_byte}
use Rattle.aff_volume.specs.Image.{named_by}
use Rattle.aff_volume.proofs.Reading.{more_are}
use Rattle.aff_volume.proofs.linear.fill_buffer.Goals as goal

pub loop-filled-preserved : goal.loop-filled-preserved
loop-filled-preserved g c =
    let i = c.loop-filled.invariant in
    let n = length c.loop-filled.buffer - c.loop-filled.filled in
    let mid = mid_len c.loop-filled.filled (length c.loop-filled.buffer) c.loop-filled.buffer (omega arith) in
    let len = same_len_mid c.loop-filled.filled n c.loop-filled.buffer c.fill_piece.new.buffer c.fill_piece.auto.buffer in
    record {
      low = omega (arith, len, mid, c.in-Ok.ensures.few, i.low);
      inside = omega (arith, c.in-Ok.ensures.inside);
      bytes = λ t.
          more_are (g.F.Folder.held c.args.folder.now) (named_by c.args.info.now) c.args.at c.loop-filled.filled n c.in-Ok.count c.loop-filled.buffer c.fill_piece.new.buffer
          i.low (omega (arith, c.in-Ok.ensures.few, c.fill_piece.auto.buffer)) (i.bytes t)
          (subst (λ h. (k : ℕ) → k < c.in-Ok.count → volume_byte h (named_by c.args.info.now) (c.args.at + c.loop-filled.filled + k) ≡ Some (get_or c.fill_piece.new.buffer k 0)) (i.same t) (c.in-Ok.ensures.bytes t));
      same = λ t. c.in-Ok.ensures.same t ∙ i.same t;
      later = omega (arith, c.in-Ok.ensures.cause.later, i.later);
    }
