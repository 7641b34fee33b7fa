use Rattle.std.proofs.Common.{◌≡◌, ℕ, ◌+◌, ◌<◌, List, length, get_or, sym, ap, ◌∙◌, subst}
use Rattle.std.proofs.lemmas.List.{length_push}
use Rattle.aff_model.specs.declared.extent.Extent.{Extent}
use Rattle.aff_chunk.specs.declared.kind.Cut.{Cut}
use Rattle.aff_chunk.specs.Cut.{IsCutOf}
use Rattle.aff_chunk.proofs.Cuts.{IsCutOf-read, each_push}
use Rattle.aff_chunk.proofs.chunks.cuts.Goals as goal

pub loop-j-preserved : goal.loop-j-preserved
loop-j-preserved c =
    let items = c.in_ok-push.ensures.items in
    let last = IsCutOf-read c.args.bytes.now c.args.bad.now c.in_ok-marks.marks.items c.deref.result.now c.part-chunk.result.now c.part-sectors.result.now c.loop-j.j c.cut_of.result c.in_ok-marks.ensures c.deref.ensures.value c.part-chunk.ensures c.part-sectors.ensures c.cut_of.ensures in
    record {
      count = ap length items ∙ length_push c.loop-j.cuts.items c.cut_of.result ∙ ap (λ n. n + 1) c.loop-j.invariant.count;
      each = subst (λ (cs : List Cut). (e : Extent) (j : ℕ) (d : Cut) → e.len ≡ length c.args.bytes.now → j < length cs → IsCutOf e c.args.bytes.now c.args.bad.now j (get_or cs j d)) (sym items)
          (each_push c.args.bytes.now c.args.bad.now c.loop-j.cuts.items c.cut_of.result c.loop-j.j c.loop-j.invariant.count c.loop-j.invariant.each last);
    }
