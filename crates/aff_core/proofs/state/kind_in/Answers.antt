use Rattle.std.proofs.Common.{List, ap, arith, cond, get_or, length, sym, ◌<◌, ◌∙◌}
use Rattle.std.proofs.lemmas.List.{length-map}
use Rattle.aff_model.specs.declared.cell.Kind.TheVariants.{Known, Unreadable}
use Rattle.aff_model.specs.declared.extent.Extent.{Extent}
use Rattle.aff_model.specs.Cells.{is_bad_at}
use Rattle.aff_model.specs.Index.{no_extent}
use Rattle.aff_model.specs.History.{Published}
use Rattle.aff_model.proofs.Sectors.{sector_plan}
use Rattle.aff_core.proofs.KindLists.{holder, kind-outside, kind-published, kind-unpublished}
use Rattle.aff_core.proofs.Standings.{placed-at, placed-none}
use Rattle.aff_core.proofs.state.kind_in.Goals as goal

pub returns-in_default : goal.returns-in_default
returns-in_default c = sym (kind-outside c.args.plan.now.extents c.args.history.now c.args.at (sym c.in_default.ensures.some))

pub bounds : goal.bounds
bounds c = let h = holder c.args.plan.now.extents c.in-Some.number c.args.at c.in-Some.ensures.has_it in omega (arith, h.inside, c.requires.count)

pub returns-in_default-standings : goal.returns-in_default-standings
returns-in_default-standings c =
    let h = holder c.args.plan.now.extents c.in-Some.number c.args.at c.in-Some.ensures.has_it in
    sym (kind-unpublished _ _ _ _ _ _ (sector_plan _ _ _ c.extents-extents.ensures.plan) c.requires.tracks h (placed-none c.args.standings.now c.in-Some.number (omega (arith, h.inside, c.requires.count)) c.in_default-standings.not-Published))

pub bounds-history-place : goal.bounds-history-place
bounds-history-place c =
    let h = holder c.args.plan.now.extents c.in-Some.number c.args.at c.in-Some.ensures.has_it in
    let placed = placed-at c.args.standings.now c.in-Some.number c.in-Published.place (omega (arith, h.inside, c.requires.count)) c.in-Published.is in
    let f = c.requires.tracks.found c.in-Some.number c.in-Published.place placed in
    omega (arith, f.0, length-map c.args.history.now (λ (p : Published). p.extent))

pub returns : goal.returns
returns c =
    let h = holder c.args.plan.now.extents c.in-Some.number c.args.at c.in-Some.ensures.has_it in
    let placed = placed-at c.args.standings.now c.in-Some.number c.in-Published.place (omega (arith, h.inside, c.requires.count)) c.in-Published.is in
    let f = c.requires.tracks.found c.in-Some.number c.in-Published.place placed in
    let inside : c.in-Published.place < length c.args.history.now = omega (arith, f.0, length-map c.args.history.now (λ (p : Published). p.extent)) in
    c.kind_published.ensures ∙ ap (λ (es : List Extent). cond (is_bad_at (get_or es c.in-Some.number no_extent) c.index-history-place.result c.args.at) Unreadable Known) c.extents-extents.ensures.extents
    ∙ sym (kind-published _ _ _ _ _ _ _ c.index-history-place.result (sector_plan _ _ _ c.extents-extents.ensures.plan) c.requires.tracks h placed inside c.index-history-place.is)
