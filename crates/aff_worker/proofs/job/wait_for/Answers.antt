use Rattle.std.proofs.Common.{◌≡◌, ℕ, List, [], ◌∷◌, ap, sym, subst, ◌∙◌}
use Rattle.std.specs.Prelude.{Contains}
use Rattle.std.proofs.lemmas.Bool.{false≢true}
use Rattle.std.proofs.lemmas.List.Elements.{Contains-append_left}
use Rattle.aff_claim.specs.declared.view.PassView.{PassView}
use Rattle.aff_claim.specs.declared.word.Word.{Word}
use Rattle.aff_claim.specs.declared.word.Word.TheVariants.{Published}
use Rattle.aff_claim.specs.Values.{Passing}
use Rattle.aff_claim.specs.Words.{Names}
use Rattle.aff_worker.proofs.Claims.{known_more, look_finds}
use Rattle.aff_worker.proofs.job.wait_for.Goals as goal
use Rattle.aff_worker.proofs.job.wait_for.Goals.{in-None, in-Some+in-Published}

pub loop-preserved : goal.loop-preserved
loop-preserved g c =
    let i = c.loop.invariant in
    let v = c.look.ensures.view in (
      tt,
      tt,
      c.look.ensures.table ∙ i.2,
      ap (λ (p : PassView). p.number) v ∙ i.3,
      ap (λ (p : PassView). p.mine) v ∙ i.4,
      λ e has. subst (λ (p : PassView). Contains p.known e) (sym v) (known_more c.loop.pass.view c.args.extent e c.look.result (i.5 e has)),
      λ e word has. subst (λ (p : PassView). Contains p.found (e, word)) (sym v) (Contains-append_left c.loop.pass.view.found ((c.args.extent, c.look.result) ∷ []) (e, word) (i.6 e word has)),
    )

pub returns-clause-known : goal.returns-clause-known
returns-clause-known g c = λ e has.
    let i = c.loop.invariant in
    elim c.match-next.branch [
      | in-None w ↦ subst (λ (p : Passing). Contains p.view.known e) (sym w.pass-is) (i.5 e has)
      | in-Some+in-Published w ↦ subst (λ (p : Passing). Contains p.view.known e) (sym w.pass-is)
          (subst (λ (p : PassView). Contains p.known e) (sym w.look.ensures.view) (known_more c.loop.pass.view c.args.extent e w.look.result (i.5 e has)))
    ]

pub returns-clause-before : goal.returns-clause-before
returns-clause-before g c = λ e word has.
    let i = c.loop.invariant in
    elim c.match-next.branch [
      | in-None w ↦ subst (λ (p : Passing). Contains p.view.found (e, word)) (sym w.pass-is) (i.6 e word has)
      | in-Some+in-Published w ↦ subst (λ (p : Passing). Contains p.view.found (e, word)) (sym w.pass-is)
          (subst (λ (p : PassView). Contains p.found (e, word)) (sym w.look.ensures.view) (Contains-append_left c.loop.pass.view.found ((c.args.extent, w.look.result) ∷ []) (e, word) (i.6 e word has)))
    ]

pub returns-clause-published : goal.returns-clause-published
returns-clause-published g c =
    let i = c.loop.invariant in
    let n : ℕ = c.args.pass.now.view.number in
    elim c.match-next.branch [
      | in-None w ↦ absurd (false≢true w.in-None.ensures.steps)
      | in-Some+in-Published w ↦
          let names : Names w.look.result n = subst (λ k. Names w.look.result k) i.3 (w.look.ensures.mine (subst (λ l. Contains l c.args.extent) (sym i.4) c.requires.mine)) in
          subst (λ (p : Passing). Contains p.view.found (c.args.extent, Published n)) (sym w.pass-is)
          (subst (λ (p : PassView). Contains p.found (c.args.extent, Published n)) (sym w.look.ensures.view) (look_finds c.loop.pass.view c.args.extent _ n w.look.result w.in-Published.is names))
    ]
