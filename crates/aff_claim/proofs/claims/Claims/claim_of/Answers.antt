use Rattle.std.proofs.Common.{◌≡◌, ℕ, ◌+◌, ◌*◌, ◌/◌, ◌%◌, ◌<◌, subst, sym, ap, ◌∙◌, inl, arith, refl, length, below_more, Contains, true≢false}
use Rattle.std.proofs.lemmas.Nat.Bits.{shr_and_one}
use Rattle.aff_claim.specs.Demands.{Has, IsAskedIn}
use Rattle.aff_claim.specs.Next.{IsLater}
use Rattle.aff_claim.specs.Values.{Passing}
use Rattle.aff_claim.proofs.Later.{later_after, claimed_now, claimed_since}
use Rattle.aff_claim.proofs.claims.Claims.claim_of.Goals as goal
use Rattle.aff_claim.proofs.claims.Claims.claim_of.Goals.{then-bits-bit-eq1+else-not-knows, else-not-knows-via-then-not-knows+else-claim, else-not-knows-via-else-not-knows, else-bits-bit-eq1}

pub knows-requires : goal.knows-requires
knows-requires c =
    let has : Has c.args.bits c.loop-bit.bit = sym (shr_and_one c.args.bits c.loop-bit.bit) ∙ c.if-bits-bit-eq1.true in
    let planned = c.requires.planned c.loop-bit.bit has in
    let sized = c.requires.sized.0 in
    let count = ap (λ t. length t.ranking.priorities) (c.loop-bit.invariant.0 ∙ c.requires.table) in
    omega arith

pub returns-then-claim-clause-some : goal.returns-then-claim-clause-some
returns-then-claim-clause-some c =
    let i = c.loop-bit.invariant in
    let old = c.args.pass.now.view in
    let before = c.loop-bit.pass.view in
    let now = c.claim.new.pass.view in
    let priorities = c.args.self.now.ranking.priorities in
    let bit = c.loop-bit.bit in
    let e : ℕ = 64 * c.args.number + bit in
    let has : Has c.args.bits c.loop-bit.bit = sym (shr_and_one c.args.bits c.loop-bit.bit) ∙ c.if-bits-bit-eq1.true in
    let planned = c.requires.planned bit has in
    let low : bit < 64 = planned.0 in
    let sized = c.requires.sized.0 in
    let inside : e < length priorities = omega arith in
    let word : c.args.number ≡ e / 64 = omega arith in
    let place : bit ≡ e % 64 = omega arith in
    let asked : IsAskedIn before.looked e = record {
      bits = c.args.bits;
      found = subst (λ l. Contains l (e / 64, c.args.bits)) (sym i.3) (subst (λ d. Contains old.looked (d, c.args.bits)) word c.requires.found);
      has = subst (λ k. Has c.args.bits k) place has;
    } in
    claimed_since priorities e old before now i.2 (claimed_now priorities e before now inside (inl asked) (c.if-claim.ensures.claimed refl))

pub returns-then-claim-clause-all_known : goal.returns-then-claim-clause-all_known
returns-then-claim-clause-all_known c all =
    let bit = c.loop-bit.bit in
    let has : Has c.args.bits c.loop-bit.bit = sym (shr_and_one c.args.bits c.loop-bit.bit) ∙ c.if-bits-bit-eq1.true in
    let planned = c.requires.planned bit has in
    let known = c.loop-bit.invariant.1.known (64 * c.args.number + bit) (all (64 * c.args.number + bit) planned.1) in
    absurd (true≢false (sym (c.knows.ensures.1 known) ∙ c.if-not-knows.true))

pub loop-bit-preserved : goal.loop-bit-preserved
loop-bit-preserved c =
    let i = c.loop-bit.invariant in
    let old = c.args.pass.now in
    let before = c.loop-bit.pass in
    let bit = c.loop-bit.bit in
    let bits = c.args.bits in
    let number = c.args.number in
    let P : Passing → Type 0 = λ p. (p.claims ≡ old.claims) × IsLater old.view p.view × (p.view.mine ≡ old.view.mine) × (p.view.looked ≡ old.view.looked)
    × ((k : ℕ) → k < bit + 1 → Has bits k → Contains p.view.known (64 * number + k)) in
    elim c.if-bits-bit-eq1.branch [
      | then-bits-bit-eq1+else-not-knows w ↦ subst P (sym w.pass-is) (elim w.else-not-knows.branch [
        | else-not-knows-via-then-not-knows+else-claim x ↦
            let now = x.claim.new.pass in
            subst P (sym x.pass-is) (
              x.claim.ensures.table ∙ i.0,
              later_after old.view before.view now.view i.1 x.claim.ensures.later,
              (x.if-claim.ensures.lost refl).0 ∙ i.2,
              (x.if-claim.ensures.lost refl).1 ∙ i.3,
              below_more (λ k. Has bits k → Contains now.view.known (64 * number + k)) bit (λ k l h. x.claim.ensures.later.known _ (i.4 k l h)) (λ _. x.claim.ensures.known),
            )
        | else-not-knows-via-else-not-knows x ↦
            subst P (sym x.pass-is) (i.0, i.1, i.2, i.3, below_more (λ k. Has bits k → Contains before.view.known (64 * number + k)) bit i.4 (λ _. w.knows.ensures.0 x.if-not-knows.false))
      ])
      | else-bits-bit-eq1 w ↦
          subst P (sym w.pass-is) (
            i.0,
            i.1,
            i.2,
            i.3,
            below_more (λ k. Has bits k → Contains before.view.known (64 * number + k)) bit i.4 (λ h. absurd (w.if-bits-bit-eq1.false (shr_and_one bits bit ∙ h))),
          )
    ]
