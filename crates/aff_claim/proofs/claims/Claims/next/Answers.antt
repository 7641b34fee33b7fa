use Rattle.std.proofs.Common.{subst, sym}
use Rattle.aff_claim.specs.Next.{IsLater, HasServed, KnowsAll}
use Rattle.aff_claim.specs.Values.{Passing}
use Rattle.aff_claim.proofs.Later.{later_after, served_later}
use Rattle.aff_claim.proofs.claims.Claims.next.Goals as goal

pub returns-in-Some-claim_suggested-clause-later : goal.returns-in-Some-claim_suggested-clause-later
returns-in-Some-claim_suggested-clause-later c =
    let turned = subst (λ (p : Passing). IsLater c.args.pass.now.view p.view) (sym c.turn-turn.ensures) c.in_default.ensures.later in
    later_after c.args.pass.now.view c.turn-turn.new.pass.view c.claim_suggested.new.pass.view turned c.in-Some-claim_suggested.ensures.later

pub returns-in-Some-claim_suggested-clause-all_known : goal.returns-in-Some-claim_suggested-clause-all_known
returns-in-Some-claim_suggested-clause-all_known c all =
    let P : Passing → Type 0 = λ p. KnowsAll c.args.self.now.table.extents p.view in
    c.in-Some-claim_suggested.ensures.all_known (subst P (sym c.turn-turn.ensures) (λ e l. c.in_default.ensures.later.known e (all e l)))

pub claim_first-requires-clause-served : goal.claim_first-requires-clause-served
claim_first-requires-clause-served c =
    let P : Passing → Type 0 = λ p. HasServed c.args.self.now.table.extents p.view.looked p.view.known in
    let turned = subst P (sym c.turn-turn.ensures) c.in_default.ensures.none.1 in
    let none = c.in_default-claim_suggested.ensures in
    served_later c.args.self.now.table.extents c.turn-turn.new.pass.view c.claim_suggested.new.pass.view none.none.1 none.later.known turned

pub returns-clause-later : goal.returns-clause-later
returns-clause-later c =
    let old = c.args.pass.now.view in
    let turned = subst (λ (p : Passing). IsLater old p.view) (sym c.turn-turn.ensures) c.in_default.ensures.later in
    let suggested = later_after old c.turn-turn.new.pass.view c.claim_suggested.new.pass.view turned c.in_default-claim_suggested.ensures.later in
    later_after old c.claim_suggested.new.pass.view c.claim_first.new.pass.view suggested c.claim_first.ensures.later

pub returns-clause-all_known : goal.returns-clause-all_known
returns-clause-all_known c all =
    let P : Passing → Type 0 = λ p. KnowsAll c.args.self.now.table.extents p.view in
    let turned = subst P (sym c.turn-turn.ensures) (λ e l. c.in_default.ensures.later.known e (all e l)) in
    c.claim_first.ensures.all_known (λ e l. c.in_default-claim_suggested.ensures.later.known e (turned e l))
