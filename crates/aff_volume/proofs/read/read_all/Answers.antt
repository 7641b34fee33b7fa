use Rattle.std.proofs.Common.{◌+◌, ◌-◌, length, subst, ◌∙◌, arith}
use borrow.Rule.Slice.PartMut.{same_len_mid, mid_len}
use Rattle.aff_volume.specs.Image.{named_by}
use Rattle.aff_volume.specs.Reading.{AreFirst}
use Rattle.aff_volume.proofs.Reading.{more_bytes}
use Rattle.aff_volume.proofs.read.read_all.Goals as goal

pub loop-filled-preserved : goal.loop-filled-preserved
loop-filled-preserved g c =
    let i = c.loop-filled.invariant in
    let n = length c.loop-filled.out - c.loop-filled.filled in
    let mid = mid_len c.loop-filled.filled (length c.loop-filled.out) c.loop-filled.out (omega arith) in
    let len = same_len_mid c.loop-filled.filled n c.loop-filled.out c.read_piece.new.out c.read_piece.auto.out in
    record {
      low = omega (arith, len, mid, c.in-Ok.ensures.few, i.low);
      room = c.read_piece.auto.chunk ∙ i.room;
      bytes = λ t.
          more_bytes (g.F.Folder.held c.args.folder.now) (named_by c.args.info.now) c.args.at c.loop-filled.filled n c.in-Ok.count c.loop-filled.out c.read_piece.new.out
          i.low (omega (arith, c.in-Ok.ensures.few, c.read_piece.auto.out)) (i.bytes t)
          (subst (λ h. AreFirst h (named_by c.args.info.now) (c.args.at + c.loop-filled.filled) c.in-Ok.count c.read_piece.new.out) (i.same t) (c.in-Ok.ensures.bytes t));
      same = λ t. c.in-Ok.ensures.same t ∙ i.same t;
      later = omega (arith, c.in-Ok.ensures.cause.later, i.later);
    }
