use Rattle.std.proofs.Common.{rules}
use Rattle.aff_core.proofs.Kept.{kept-start, state-start}
use Rattle.aff_core.proofs.state.State.new.Goals as goal

pub invariant_of-result : goal.invariant_of-result
invariant_of-result c = kept-start _ _ _ _ c.extents-count.ensures.plan (search rules) (search rules) (search rules)

pub returns : goal.returns
returns c = state-start c.args.plan.now c.args.passes c.args.sessions _ _ (search rules) (search rules)
