use Rattle.std.proofs.Common.{◌≡◌}
use Rattle.aff_claim.specs.Next.{IsLater}
use Rattle.aff_claim.proofs.Serving.{AreServed}
use Rattle.aff_claim.proofs.claims.Claims.claim_asked.Given as goal

-- the pass has claimed nothing, and has served the words so far
abbrev pub invariant-loop-number : goal.invariant-loop-number
invariant-loop-number l = (l.pass.claims ≡ l.initial.pass.claims) × IsLater l.initial.pass.view l.pass.view × (l.pass.view.mine ≡ l.initial.pass.view.mine) × AreServed l.number l.pass.view
