use Rattle.std.proofs.Common.{refl}
use Rattle.aff_core.proofs.Kept.{free-next, kept-claimed, step-claimed}
use Rattle.aff_core.proofs.state.State.claim.Goals as goal

pub invariant_of-self : goal.invariant_of-self
invariant_of-self c = kept-claimed _ _ _ _ _ _ c.self.invariant (free-next _ _ _ _ _ c.self.view_is refl c.self.invariant (c.is_free.ensures.0 c.if-not-is_free.false))

pub returns-clause-step : goal.returns-clause-step
returns-clause-step c = step-claimed _ _ _ _ _ _ c.self.view_is refl c.self.invariant c.if-self.false c.if-claimant-self.false (c.is_free.ensures.0 c.if-not-is_free.false)
