use Rattle.std.proofs.Common.{◌≡◌, ℕ, ◌<◌, Contains, slice_index}
use Rattle.aff_claim.specs.Next.{IsLater}
use Rattle.aff_claim.proofs.claims.Claims.claim_first.Given as goal

-- the pass has claimed nothing, and knows the extents so far
abbrev pub invariant-loop-place : goal.invariant-loop-place
invariant-loop-place l =
    (l.pass.claims ≡ l.initial.pass.claims) × IsLater l.initial.pass.view l.pass.view × (l.pass.view.mine ≡ l.initial.pass.view.mine)
    × ((i : ℕ) → i < l.place → Contains l.pass.view.known (slice_index l.initial.pass.claims.ranking.falling i)) × (l.pass.view.looked ≡ l.initial.pass.view.looked)
