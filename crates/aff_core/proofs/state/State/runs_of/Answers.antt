use Rattle.std.proofs.Common.{◌+◌, ◌-◌, ◌%◌, ◌≤◌, All, arith, sym, subst, ap, ◌∙◌, length, ◌++◌, replicate}
use Rattle.std.proofs.lemmas.List.FromFn.{length-map-range_with_len}
use Rattle.aff_model.specs.Plan.{Planned}
use Rattle.aff_model.proofs.Sectors.{IsSectored, sector_plan}
use Rattle.aff_model.specs.Kinds.{kind_at, kinds_of}
use Rattle.aff_core.specs.Steps.{CoreState}
use Rattle.aff_core.proofs.KindLists.{kinds_of-more}
use Rattle.aff_core.proofs.state.State.runs_of.Goals as goal

pub add_run-requires-clause-fits : goal.add_run-requires-clause-fits
add_run-requires-clause-fits c =
    let n = ap length c.loop-done.invariant.kinds in
    let m = length-map-range_with_len (kind_at c.args.self.now.plan.extents c.args.self.now.history) c.args.at c.loop-done.done in
    omega (arith, n, m, c.ranges.len.fits)

pub loop-done-preserved : goal.loop-done-preserved
loop-done-preserved c =
    let i = c.loop-done.invariant in
    let es = c.args.self.now.plan.extents in
    let history = c.args.self.now.history in
    let P : Planned → Type 0 = λ p. All (IsSectored p.size) p.extents in
    let each : P c.args.self.now.plan = subst P (ap (λ (s : CoreState). s.plan) c.self.view_is) (sector_plan _ _ _ c.self.invariant.plan_valid).each in
    let short : c.min-part.result ≤ 512 - (c.args.at + c.loop-done.done) % 512 = omega (arith, c.min-part.ensures) in
    record {
      inside = omega (arith, c.min-part.ensures, c.loop-done-test.true, i.inside);
      kinds = c.in_ok-add_run.ensures.kinds ∙ ap (λ l. l ++ replicate c.min-part.result c.kind.result) i.kinds ∙ ap (λ k. kinds_of es history c.args.at c.loop-done.done ++ replicate c.min-part.result k) c.kind.ensures ∙ sym (kinds_of-more c.args.self.now.plan.size es history c.args.at c.loop-done.done c.min-part.result each short);
      greatest = c.in_ok-add_run.ensures.greatest;
    }
