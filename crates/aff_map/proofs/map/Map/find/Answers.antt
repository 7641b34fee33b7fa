use Rattle.std.proofs.Common.{◌≡◌, ◌∙◌, ap, arith, length, subst, sym}
use Rattle.std.specs.Prelude.{Some, None, find}
use Rattle.aff_spec.specs.Runs.{covers}
use Rattle.aff_map.specs.Finding.{IsGapEnd}
use Rattle.aff_map.specs.Mapped.{Mapped, numbered_target}
use Rattle.aff_map.proofs.Leading.{IsTold, Covers, found_covers, mapped, target_end-small, told-covered, told-gap}
use Rattle.aff_map.proofs.map.Map.find.Goals as goal

pub numbered_target-requires : goal.numbered_target-requires
numbered_target-requires c =
    let p = c.self.inside in
    let found = ap (find (covers c.args.at)) (sym c.deref.ensures.value) ∙ sym c.covering.ensures ∙ c.in-Some.is in
    let f = found_covers (mapped p.entries.items p.targets.items p.size p.stream_size p.gap) c.self.invariant c.args.at c.in-Some.entry found in
    omega (arith, f.entry.known, ap length c.deref-in-Some.ensures.value)

pub spot_in-requires : goal.spot_in-requires
spot_in-requires c =
    let p = c.self.inside in
    let found = ap (find (covers c.args.at)) (sym c.deref.ensures.value) ∙ sym c.covering.ensures ∙ c.in-Some.is in
    let f = found_covers (mapped p.entries.items p.targets.items p.size p.stream_size p.gap) c.self.invariant c.args.at c.in-Some.entry found in
    let small = target_end-small p.stream_size (numbered_target p.targets.items c.in-Some.entry.target) (omega arith) in
    record { from = f.from; to = f.to; fits = omega (arith, f.entry.reaches, small) }

pub gap_end-requires : goal.gap_end-requires
gap_end-requires c = omega (arith, c.requires, ap (λ (v : Mapped). v.size) c.self.view_is)

pub returns-in-Some : goal.returns-in-Some
returns-in-Some c =
    let p = c.self.inside in
    let m = mapped p.entries.items p.targets.items p.size p.stream_size p.gap in
    let found = ap (find (covers c.args.at)) (sym c.deref.ensures.value) ∙ sym c.covering.ensures ∙ c.in-Some.is in
    let target = c.spot_in.ensures.target ∙ c.numbered_target.ensures ∙ ap (λ v. numbered_target v c.in-Some.entry.target) c.deref-in-Some.ensures.value in
    let here = told-covered m c.self.invariant c.args.at c.in-Some.entry c.spot_in.result found target c.spot_in.ensures.place c.spot_in.ensures.end in
    let t = subst (λ v. IsTold v c.args.at c.spot_in.result) c.self.view_is here in
    record { leads = t.leads; ends = t.ends; some = t.some; inside = t.inside; reaches = t.reaches; goes_on = t.goes_on }

pub returns-in-None : goal.returns-in-None
returns-in-None c =
    let p = c.self.inside in
    let m = mapped p.entries.items p.targets.items p.size p.stream_size p.gap in
    let found = ap (find (covers c.args.at)) (sym c.deref.ensures.value) ∙ sym c.covering.ensures ∙ c.in-None.is in
    let gap = subst (λ v. IsGapEnd v p.size c.args.at c.gap_end.result) c.deref-in-None.ensures.value c.gap_end.ensures in
    let here = told-gap m c.args.at c.spot_of_gap.result c.gap_end.result found gap c.spot_of_gap.ensures.target c.spot_of_gap.ensures.place c.spot_of_gap.ensures.end in
    let t = subst (λ v. IsTold v c.args.at c.spot_of_gap.result) c.self.view_is here in
    record { leads = t.leads; ends = t.ends; some = t.some; inside = t.inside; reaches = t.reaches; goes_on = t.goes_on }
