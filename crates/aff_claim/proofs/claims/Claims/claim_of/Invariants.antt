use Rattle.std.proofs.Common.{◌≡◌, ◌+◌, ◌*◌, ◌<◌, ℕ, Contains}
use Rattle.aff_claim.specs.Demands.{Has}
use Rattle.aff_claim.specs.Next.{IsLater}
use Rattle.aff_claim.proofs.claims.Claims.claim_of.Given as goal

-- the pass has claimed nothing, and knows those of the extents so far that are asked for
abbrev pub invariant-loop-bit : goal.invariant-loop-bit
invariant-loop-bit l =
    (l.pass.claims ≡ l.initial.pass.claims) × IsLater l.initial.pass.view l.pass.view × (l.pass.view.mine ≡ l.initial.pass.view.mine) × (l.pass.view.looked ≡ l.initial.pass.view.looked)
    × ((i : ℕ) → i < l.bit → Has l.bits i → Contains l.pass.view.known (64 * l.number + i))
