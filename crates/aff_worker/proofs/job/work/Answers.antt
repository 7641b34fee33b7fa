use Rattle.std.proofs.Common.{◌≡◌, ℕ, ◌<◌, ◌≤◌, List, [], ◌∷◌, ◌++◌, length, map, true, ap, sym, subst, ◌∙◌, arith}
use Rattle.std.specs.Prelude.{Contains}
use Rattle.std.proofs.lemmas.Bool.{false≢true}
use Rattle.std.proofs.lemmas.List.{length-map}
use Rattle.std.proofs.lemmas.List.Elements.{Contains-append_left, Contains-push}
use Rattle.aff_model.specs.Plan.{Planned}
use Rattle.aff_claim.specs.declared.view.PassView.{PassView}
use Rattle.aff_claim.specs.declared.word.Word.{Word}
use Rattle.aff_claim.specs.declared.word.Word.TheVariants.{Published}
use Rattle.aff_claim.specs.Next.{KnowsAll}
use Rattle.aff_claim.specs.Values.{Passing, Table}
use Rattle.aff_worker.proofs.Claims.{AreFound, found_later, found_push, found_same}
use Rattle.aff_worker.proofs.job.work.Goals as goal
use Rattle.aff_worker.proofs.job.work.Goals.{in-None, in-Some+in_default, in-Some+in-Some-next+in-Failed, in-Some+in-Some-next+in-Memory}

pub read_and_put-requires-clause-planned : goal.read_and_put-requires-clause-planned
read_and_put-requires-clause-planned g c κs within =
    omega (arith, c.in-Some-next.ensures.some.planned, ap length c.requires.ranking, length-map c.args.plan.now.extents (λ e. e.priority))

pub wait_for-requires-clause-planned : goal.wait_for-requires-clause-planned
wait_for-requires-clause-planned g c =
    let below : c.in-Some-next.extent < length c.args.plan.now.extents = omega (arith, c.in-Some-next.ensures.some.planned, ap length c.requires.ranking, length-map c.args.plan.now.extents (λ e. e.priority)) in
    omega (arith, below, ap (λ (p : Planned). length p.extents) c.requires.plan, ap (λ (t : Table). t.extents) c.requires.claims)

pub wait_for-requires-clause-mine : goal.wait_for-requires-clause-mine
wait_for-requires-clause-mine g c =
    subst (λ (p : Passing). Contains p.view.mine c.in-Some-next.extent) (sym c.read_and_put.ensures.pass)
    (subst (λ l. Contains l c.in-Some-next.extent) (sym c.in-Some-next.ensures.some.mine) (Contains-push c.loop.worker.pass.view.mine c.in-Some-next.extent))

pub loop-preserved : goal.loop-preserved
loop-preserved g c =
    let i = c.loop.invariant in
    let n = c.next-in-loop.ensures in
    let r = c.read_and_put.ensures in
    let w = c.wait_for.ensures in
    let old : PassView = c.args.worker.pass.view in
    let mid : PassView = c.loop.worker.pass.view in
    let now : PassView = c.wait_for.new.pass.view in
    let number : c.read_and_put.new.worker.pass.view.number ≡ old.number = ap (λ (p : Passing). p.view.number) r.pass ∙ (n.later.number ∙ i.3) in
    let more : (x : ℕ × Word) → Contains mid.found x → Contains now.found x =
    λ x has. w.before x.0 x.1 (subst (λ (p : Passing). Contains p.view.found x) (sym r.pass) (found_later mid.found c.next-in-loop.new.pass.view.found x n.later.found has)) in (
      tt,
      tt,
      w.claims ∙ (ap (λ (p : Passing). p.claims) r.pass ∙ (n.table ∙ i.2)),
      w.number ∙ number,
      r.kept.holds ∙ i.4,
      r.kept.blocks ∙ i.5,
      r.kept.sized ∙ i.6,
      omega (arith, i.7, r.kept.later),
      i.8,
      i.9,
      found_push old mid now c.in-Some-next.extent i.10 (w.mine ∙ (ap (λ (p : Passing). p.view.mine) r.pass ∙ c.in-Some-next.ensures.some.mine)) more
          (subst (λ k. Contains now.found (c.in-Some-next.extent, Published k)) number w.published),
    )

pub returns-clause-known : goal.returns-clause-known
returns-clause-known g c = λ stopped memory.
    elim c.match-next.branch [
      | in-None w ↦ absurd (false≢true w.in-None.ensures.steps)
      | in-Some+in_default w ↦
          let pass : c.match-next.worker.pass ≡ w.next-in-loop.new.pass = (λ i. (w.worker-is i).pass) in
          λ e below. subst (λ (p : Passing). Contains p.view.known e) (sym pass)
          (w.in_default.ensures.none.1 e (omega (arith, below, ap (λ (p : Planned). length p.extents) c.requires.plan, ap (λ (t : Table). t.extents) c.requires.claims)))
      | in-Some+in-Some-next+in-Failed w ↦ absurd (false≢true (sym stopped ∙ w.stopped-is))
      | in-Some+in-Some-next+in-Memory w ↦ absurd (false≢true (sym memory ∙ w.memory-is))
    ]

pub returns-clause-published : goal.returns-clause-published
returns-clause-published g c = λ stopped memory.
    elim c.match-next.branch [
      | in-None w ↦ absurd (false≢true w.in-None.ensures.steps)
      | in-Some+in_default w ↦
          let pass : c.match-next.worker.pass ≡ w.next-in-loop.new.pass = (λ i. (w.worker-is i).pass) in
          let mid : PassView = c.loop.worker.pass.view in
          let now : PassView = w.next-in-loop.new.pass.view in
          subst (λ (p : Passing). AreFound c.args.worker.pass.view p.view) (sym pass)
          (found_same c.args.worker.pass.view mid now c.loop.invariant.10 w.in_default.ensures.none.0 (λ x has. found_later mid.found now.found x w.in_default.ensures.later.found has))
      | in-Some+in-Some-next+in-Failed w ↦ absurd (false≢true (sym stopped ∙ w.stopped-is))
      | in-Some+in-Some-next+in-Memory w ↦ absurd (false≢true (sym memory ∙ w.memory-is))
    ]
