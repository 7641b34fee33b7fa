use Rattle.std.proofs.Common.{◌≡◌, ◌<◌, subst, sym, ap, ◌∙◌, arith, refl, inr, length}
use Rattle.aff_claim.specs.Next.{IsLater, HasClaimed, HasServed}
use Rattle.aff_claim.specs.Values.{Passing}
use Rattle.aff_claim.proofs.Later.{later_same, claimed_now}
use Rattle.aff_claim.proofs.claims.Claims.claim_suggested.Goals as goal
use Rattle.aff_claim.proofs.claims.Claims.claim_suggested.Goals.{else-planned-via-then-planned+then-may_claim+else-claim, else-planned-via-then-planned+else-may_claim, else-planned-via-else-planned}

pub returns-then-claim-clause-some : goal.returns-then-claim-clause-some
returns-then-claim-clause-some c =
    let old = c.args.pass.now in
    let priorities = ap (λ t. t.ranking.priorities) c.requires.table in
    let ranking = c.deref.ensures ∙ (ap (λ t. t.ranking) c.self.view_is ∙ sym (ap (λ t. t.ranking) c.requires.table)) in
    let count : c.len.result ≡ length old.claims.ranking.priorities = c.len.ensures.priorities ∙ ap (λ r. length r.priorities) ranking in
    let low = c.if-planned.true in
    let inside : c.in_ok-extent.extent < length old.claims.ranking.priorities = omega arith in
    let extents : length old.claims.ranking.priorities ≡ c.args.self.now.table.extents = ap (λ r. length r.priorities) (sym ranking) ∙ (ap (λ r. length r.priorities) c.deref.ensures ∙ ap (λ t. t.table.extents) c.self.view_is) in
    let due = inr (subst (λ n. HasServed n old.view.looked old.view.known) (sym extents) c.requires.served, c.if-may_claim.ensures.urgent refl) in
    subst (λ ps. HasClaimed ps c.in_ok-extent.extent old.view c.claim.new.pass.view) priorities
    (claimed_now old.claims.ranking.priorities c.in_ok-extent.extent old.view c.claim.new.pass.view inside due (c.if-claim.ensures.claimed refl))

pub returns-then-claim-clause-all_known : goal.returns-then-claim-clause-all_known
returns-then-claim-clause-all_known c all =
    let count : c.len.result ≡ c.args.self.now.table.extents = c.len.ensures.priorities ∙ (ap (λ r. length r.priorities) c.deref.ensures ∙ ap (λ t. t.table.extents) c.self.view_is) in
    let low = c.if-planned.true in
    absurd (c.if-may_claim.ensures.unknown refl (all c.in_ok-extent.extent (omega arith)))

pub returns-else-planned-clause-later : goal.returns-else-planned-clause-later
returns-else-planned-clause-later c =
    let old = c.args.pass.now.view in
    let P : Passing → Type 0 = λ p. IsLater old p.view in
    elim c.else-planned.branch [
      | else-planned-via-then-planned+then-may_claim+else-claim w ↦ subst P (sym w.pass-is) w.claim.ensures.later
      | else-planned-via-then-planned+else-may_claim w ↦ subst P (sym w.pass-is) (later_same old)
      | else-planned-via-else-planned w ↦ subst P (sym w.pass-is) (later_same old)
    ]
