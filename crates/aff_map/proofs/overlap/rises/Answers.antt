use Rattle.std.proofs.Common.{arith, refl}
use Rattle.std.proofs.lemmas.Bool.{false≢true}
use Rattle.aff_map.proofs.Overlaps.{apart-from_rises, meet-not_apart, rises-more}
use Rattle.aff_map.proofs.overlap.rises.Goals as goal

pub loop-k-preserved : goal.loop-k-preserved
loop-k-preserved c =
    rises-more c.args.entries.now c.loop-k.k (omega arith) c.loop-k.invariant (λ early. false≢true (c.if-begins_early.ensures.1 early))

pub returns-then-begins_early : goal.returns-then-begins_early
returns-then-begins_early c = (
  λ e. absurd (false≢true e),
  λ apart. absurd (meet-not_apart c.args.entries.now c.requires.sorted c.requires.bytes c.loop-k.k (omega arith) (omega arith) (c.if-begins_early.ensures.0 refl) apart),
)

pub returns : goal.returns
returns c = (λ _. apart-from_rises c.args.entries.now c.requires.sorted (λ i l. c.loop-k.invariant i (omega arith)), λ _. refl)
