use Rattle.std.proofs.Common.{◌≡◌, ◌+◌, Bool, Global, Vec, length, take, sym, subst, rules}
use Rattle.aff_chunk.specs.Cut.{AreMarks}
use Rattle.aff_chunk.proofs.Marks.{AreMarks-more, AreMarks-skip}
use Rattle.aff_chunk.proofs.chunks.marks.Goals as goal
use Rattle.aff_chunk.proofs.chunks.marks.Goals.{then-sector-len, else-sector-len}

pub loop-sector-preserved : goal.loop-sector-preserved
loop-sector-preserved c =
    let count : c.len.result ≡ length c.loop-sector.marks.items = search rules in
    elim c.if-sector-len.branch [
      | then-sector-len w ↦ subst (λ (v : Vec Bool Global). AreMarks (take (c.loop-sector.sector-index + 1) c.args.bad.now) c.args.sectors v.items) (sym w.marks-is)
          (AreMarks-more c.args.bad.now c.loop-sector.sector-index c.args.sectors c.len.result c.loop-sector.marks.items c.loop-sector-test.true c.loop-sector.invariant count w.if-sector-len.true)
      | else-sector-len w ↦ subst (λ (v : Vec Bool Global). AreMarks (take (c.loop-sector.sector-index + 1) c.args.bad.now) c.args.sectors v.items) (sym w.marks-is)
          (AreMarks-skip c.args.bad.now c.loop-sector.sector-index c.args.sectors c.len.result c.loop-sector.marks.items c.loop-sector-test.true c.loop-sector.invariant count w.if-sector-len.false)
    ]
