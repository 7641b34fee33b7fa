use Rattle.std.proofs.Common.{◌-◌, sym, ap, ◌∙◌, refl, subst}
use Rattle.aff_memory.proofs.Appends.{IsCopied, concat_more, copied_more}
use Rattle.std.specs.Prelude.{length, ◌+◌}
use borrow.Rule.Slice.PartMut.{put_mid}
use Rattle.aff_memory.proofs.kept.copy_appends.Goals as goal

pub loop-shared-preserved : goal.loop-shared-preserved
loop-shared-preserved c =
    let now = put_mid c.loop-shared.filled (length c.loop-shared.out - c.loop-shared.filled) c.loop-shared.out c.copy_part-filled.new.out in
    subst (λ all. IsCopied all c.args.at c.args.out.now now (c.loop-shared.filled + c.copy_part-filled.result) c.saturating_sub-skip.result)
    (sym (concat_more c.args.appends.now c.loop-shared.shared-index c.shared-item.result c.loop-shared-test.true c.shared-item.is))
    (copied_more _ c.shared-item.result c.args.at c.args.out.now c.loop-shared.out _ c.copy_part-filled.new.out c.loop-shared.filled c.loop-shared.skip c.copy_part-filled.result _ c.loop-shared.invariant
    refl c.copy_part-filled.ensures.count c.copy_part-filled.ensures.bytes (c.saturating_sub-skip.ensures ∙ ap (λ k. c.loop-shared.skip - k) c.len.ensures))
