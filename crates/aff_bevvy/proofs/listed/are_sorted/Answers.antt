use Rattle.std.proofs.Common.{◌+◌, ◌<◌, ◌≤◌, suc, length, sym, ◌∙◌, arith}
use Rattle.aff_bevvy.proofs.Sorted.{DoRise, one_rises_more, rising}
use Rattle.aff_bevvy.proofs.listed.are_sorted.Goals as goal

pub loop-place-init : goal.loop-place-init
loop-place-init c = λ k d below. absurd (omega (arith, below))

pub loop-place-preserved : goal.loop-place-preserved
loop-place-preserved c = one_rises_more c.args.segments.now c.loop-place.place _ _ c.loop-place.auto.place c.loop-place-test.true c.index-segments-place.is c.index-segments-place-in-loop-place.is (sym c.compare_two.ensures ∙ c.in-Less.is) c.loop-place.invariant

pub returns : goal.returns
returns c = λ _. rising c.args.segments.now (λ k d below. c.loop-place.invariant k d (omega (arith, below, c.loop-place-test.false)))
