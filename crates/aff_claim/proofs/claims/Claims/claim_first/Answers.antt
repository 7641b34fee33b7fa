use Rattle.std.proofs.Common.{◌≡◌, ℕ, ◌+◌, ◌<◌, subst, sym, ap, ◌∙◌, arith, refl, inr, length, below_more, Contains, slice_index, true≢false}
use Rattle.aff_claim.specs.Next.{IsLater, HasClaimed, HasServed, KnowsAll}
use Rattle.aff_claim.specs.Ranking.{IsRanking}
use Rattle.aff_claim.specs.Values.{Passing}
use Rattle.aff_claim.proofs.Later.{later_after, claimed_now, claimed_since, served_later}
use Rattle.aff_claim.proofs.Urgency.{urgent_known, knows_all}
use Rattle.aff_claim.proofs.claims.Claims.claim_first.Goals as goal
use Rattle.aff_claim.proofs.claims.Claims.claim_first.Goals.{else-not-knows-via-then-not-knows+else-claim, else-not-knows-via-else-not-knows}

pub knows-requires : goal.knows-requires
knows-requires c =
    let i = c.loop-place.invariant in
    let ranking = c.deref-in-loop-place.ensures ∙ ap (λ t. t.ranking) c.self.view_is in
    let claims = i.0 ∙ c.requires.table in
    let count = ap (λ r. length r.priorities) (ranking ∙ sym (ap (λ t. t.ranking) claims)) in
    let low = c.at-extent.ensures.planned in
    omega arith

-- what was known of the extents so far is known after an exchange
pub set_front-requires-clause-behind : goal.set_front-requires-clause-behind
set_front-requires-clause-behind c =
    let i = c.loop-place.invariant in
    let claims = c.if-claim.ensures.table ∙ i.0 in
    λ k l. subst (λ t. Contains c.claim.new.pass.view.known (slice_index t.ranking.falling k)) (sym claims) (c.if-claim.ensures.later.known _ (i.3 k l))

pub returns-then-claim-clause-later : goal.returns-then-claim-clause-later
returns-then-claim-clause-later c =
    let P : Passing → Type 0 = λ p. IsLater c.args.pass.now.view p.view in
    subst P (sym c.set_front.ensures) (later_after c.args.pass.now.view c.loop-place.pass.view c.claim.new.pass.view c.loop-place.invariant.1 c.if-claim.ensures.later)

pub returns-then-claim-clause-some : goal.returns-then-claim-clause-some
returns-then-claim-clause-some c =
    let i = c.loop-place.invariant in
    let before = c.loop-place.pass.view in
    let now = c.claim.new.pass.view in
    let r = c.args.self.now.ranking in
    let e = c.at-extent.result in
    let ranking = c.deref-in-loop-place.ensures ∙ ap (λ t. t.ranking) c.self.view_is in
    let ok = subst IsRanking (c.deref.ensures ∙ ap (λ t. t.ranking) c.self.view_is) c.len-extents.ensures.ranking in
    let is : e ≡ slice_index r.falling c.loop-place.place = c.at-extent.ensures.extent ∙ ap (λ x. slice_index x.falling c.loop-place.place) ranking in
    let inside = subst (λ x. e < length x.priorities) ranking c.at-extent.ensures.planned in
    let behind = subst (λ t. (k : ℕ) → k < c.loop-place.place → Contains before.known (slice_index t.ranking.falling k)) c.requires.table i.3 in
    let count : length r.priorities ≡ c.args.self.now.table.extents = sym (ap (λ t. length t.ranking.priorities) c.self.view_is) ∙ ap (λ t. t.table.extents) c.self.view_is in
    let same : slice_index r.priorities (slice_index r.falling c.loop-place.place) ≡ slice_index r.priorities e = ap (λ x. slice_index r.priorities x) (sym is) in
    let urgent = urgent_known r ok before.known c.loop-place.place e behind (λ l. omega arith) in
    let due = inr (subst (λ n. HasServed n before.looked before.known) (sym count) (served_later c.args.self.now.table.extents c.args.pass.now.view before i.4 i.1.known c.requires.served), urgent) in
    let P : Passing → Type 0 = λ p. HasClaimed r.priorities e c.args.pass.now.view p.view in
    subst P (sym c.set_front.ensures) (claimed_since r.priorities e c.args.pass.now.view before now i.2 (claimed_now r.priorities e before now inside due (c.if-claim.ensures.claimed refl)))

pub returns-then-claim-clause-all_known : goal.returns-then-claim-clause-all_known
returns-then-claim-clause-all_known c all =
    let ranking = c.deref-in-loop-place.ensures ∙ ap (λ t. t.ranking) c.self.view_is in
    let count = ap (λ t. t.table.extents) c.self.view_is in
    let few = ap (λ r. length r.priorities) c.deref-in-loop-place.ensures in
    let low = c.at-extent.ensures.planned in
    let inside : c.at-extent.result < c.args.self.now.table.extents = omega arith in
    let known = c.loop-place.invariant.1.known c.at-extent.result (all c.at-extent.result inside) in
    absurd (true≢false (sym (c.knows.ensures.1 known) ∙ c.if-not-knows.true))

pub loop-place-preserved : goal.loop-place-preserved
loop-place-preserved c =
    let i = c.loop-place.invariant in
    let old = c.args.pass.now in
    let before = c.loop-place.pass in
    let place = c.loop-place.place in
    let ranking = c.deref-in-loop-place.ensures ∙ (ap (λ t. t.ranking) c.self.view_is ∙ sym (ap (λ t. t.ranking) c.requires.table)) in
    let is : c.at-extent.result ≡ slice_index old.claims.ranking.falling place = c.at-extent.ensures.extent ∙ ap (λ x. slice_index x.falling place) ranking in
    let P : Passing → Type 0 = λ p. (p.claims ≡ old.claims) × IsLater old.view p.view × (p.view.mine ≡ old.view.mine) × ((k : ℕ) → k < place + 1 → Contains p.view.known (slice_index old.claims.ranking.falling k)) × (p.view.looked ≡ old.view.looked) in
    elim c.else-not-knows.branch [
      | else-not-knows-via-then-not-knows+else-claim w ↦
          let now = w.claim.new.pass in
          subst P (sym w.pass-is) (
            w.claim.ensures.table ∙ i.0,
            later_after old.view before.view now.view i.1 w.claim.ensures.later,
            (w.if-claim.ensures.lost refl).0 ∙ i.2,
            below_more (λ k. Contains now.view.known (slice_index old.claims.ranking.falling k)) place (λ k l. w.claim.ensures.later.known _ (i.3 k l)) (subst (λ x. Contains now.view.known x) is w.claim.ensures.known),
            (w.if-claim.ensures.lost refl).1 ∙ i.4,
          )
      | else-not-knows-via-else-not-knows w ↦
          subst P (sym w.pass-is) (
            i.0,
            i.1,
            i.2,
            below_more (λ k. Contains before.view.known (slice_index old.claims.ranking.falling k)) place i.3 (subst (λ x. Contains before.view.known x) is (c.knows.ensures.0 w.if-not-knows.false)),
            i.4,
          )
    ]

pub set_front-requires-2-clause-behind : goal.set_front-requires-2-clause-behind
set_front-requires-2-clause-behind c =
    let i = c.loop-place.invariant in
    let end = c.loop-place-test.false in
    λ k l. subst (λ t. Contains c.loop-place.pass.view.known (slice_index t.ranking.falling k)) (sym i.0) (i.3 k (omega arith))

pub returns-clause-none : goal.returns-clause-none
returns-clause-none c =
    let i = c.loop-place.invariant in
    let last = c.loop-place.pass.view in
    let end = c.loop-place-test.false in
    let r = c.args.self.now.ranking in
    let ranking = c.deref.ensures ∙ ap (λ t. t.ranking) c.self.view_is in
    let ok = subst IsRanking ranking c.len-extents.ensures.ranking in
    let many : c.len-extents.result ≡ length r.falling = c.len-extents.ensures.falling ∙ ap (λ x. length x.falling) ranking in
    let count = ap (λ t. t.table.extents) c.self.view_is in
    let same : length r.priorities ≡ c.args.self.now.table.extents = sym (ap (λ t. length t.ranking.priorities) c.self.view_is) ∙ count in
    let behind = subst (λ t. (k : ℕ) → k < c.loop-place.place → Contains last.known (slice_index t.ranking.falling k)) c.requires.table i.3 in
    let all = subst (λ n. KnowsAll n last) same (knows_all r ok last (λ k l. behind k (omega arith))) in
    let P : Passing → Type 0 = λ p. (p.view.mine ≡ c.args.pass.now.view.mine) × KnowsAll c.args.self.now.table.extents p.view in
    subst P (sym c.set_front-2.ensures) (i.2, all)
