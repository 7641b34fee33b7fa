use Rattle.std.proofs.Common.{subst}
use Rattle.std.proofs.lemmas.List.{take_all}
use Rattle.aff_map.specs.Finding.{IsGapEnd}
use Rattle.aff_map.proofs.Covering.{gap_end-more, gap_end-none}
use Rattle.aff_map.proofs.map.gap_end.Goals as goal

pub loop-entry-init : goal.loop-entry-init
loop-entry-init c = gap_end-none c.args.size c.args.at c.requires

pub loop-entry-preserved : goal.loop-entry-preserved
loop-entry-preserved c =
    gap_end-more c.args.entries.now c.loop-entry.entry-index _ c.args.size c.args.at c.loop-entry.end _ c.loop-entry-test.true c.loop-entry.invariant c.nearer-end.ensures

pub returns : goal.returns
returns c =
    subst (λ xs. IsGapEnd xs c.args.size c.args.at c.loop-entry.end) (take_all c.loop-entry.entry-index c.args.entries.now c.loop-entry-test.false) c.loop-entry.invariant
