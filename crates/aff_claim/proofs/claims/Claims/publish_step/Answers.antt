use Rattle.std.proofs.Common.{◌≡◌, sym, refl, true≢false}
use Rattle.aff_claim.proofs.PublishSteps.{published_claim, published_other, is_claim}
use Rattle.aff_claim.proofs.claims.Claims.publish_step.Goals as goal

pub returns-then-is_claim_of-clause-ok : goal.returns-then-is_claim_of-clause-ok
returns-then-is_claim_of-clause-ok c = published_claim c.args.seat.now.view c.args.extent c.args.claimant c.publish_word-found.result c.publish_word-found.new.seat.view (c.if-is_claim_of.ensures.0 refl) c.publish_word-found.ensures.view

pub returns-else-is_claim_of-clause-err : goal.returns-else-is_claim_of-clause-err
returns-else-is_claim_of-clause-err c =
    let other : c.publish_word-found.result ≡ _ → _ = (λ is. true≢false (sym (c.if-is_claim_of.ensures.1 is))) in
    (other, published_other c.args.seat.now.view c.args.extent c.args.claimant c.publish_word-found.result c.publish_word-found.new.seat.view other c.publish_word-found.ensures.view)

pub returns-else-is_claim_of-clause-succeeds : goal.returns-else-is_claim_of-clause-succeeds
returns-else-is_claim_of-clause-succeeds c held new =
    c.if-is_claim_of.ensures.1 (is_claim c.publish_word-found.result c.args.claimant (c.publish_word-found.ensures.held c.args.claimant held) (λ out. new (c.publish_word-found.ensures.out.1 out)))
