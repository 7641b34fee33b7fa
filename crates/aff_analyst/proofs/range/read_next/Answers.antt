use Rattle.std.proofs.Common.{◌≡◌, ℕ, ◌+◌, ◌-◌, ◌%◌, ◌<◌, ◌≤◌, ◌++◌, false, length, map, take, drop, refl, sym, ap, subst, ◌∙◌, arith, length-take, slice_get}
use Rattle.std.specs.Arc.{arc_value}
use Rattle.std.specs.List.{list_any}
use Rattle.std.specs.Prelude.{Err, IfErr}
use Rattle.std.proofs.lemmas.Result.{err_from_is_err_and}
use Rattle.aff_model.specs.History.{publication_of}
use Rattle.aff_model.specs.Kinds.{kind_at}
use Rattle.aff_model.specs.Plan.{has_place}
use Rattle.aff_model.proofs.Sectors.{sector_plan}
use Rattle.aff_analyst.specs.Bytes.{IsShown, Shows}
use Rattle.aff_analyst.specs.Faults.{IsFault}
use Rattle.aff_analyst.specs.Reads.{IsInside, IsReadTo, kind_in}
use Rattle.aff_analyst.proofs.Causes.{fault_of_piece}
use Rattle.aff_analyst.proofs.Parts.{found_in, part_outside, part_published, part_unpublished, seen_at, sound_at}
use Rattle.aff_analyst.proofs.Steps.{take_front}
use Rattle.aff_analyst.proofs.range.read_next.Goals as goal

pub fill_unknown-requires-clause-fits : goal.fill_unknown-requires-clause-fits
fill_unknown-requires-clause-fits g c = omega (arith, length-take c.min-count.result c.args.out.now, c.requires.range.inside, c.requires.small)

pub returns-in_default-clause-read : goal.returns-in_default-clause-read
returns-in_default-clause-read g c =
    let plan = c.args.plan.now in
    let pieces = map arc_value c.args.pieces.now in
    let part = c.fill_unknown.new.out in
    let count : ℕ = c.min-count.result in
    let rest = drop count c.args.out.now in
    let len : length part ≡ count = omega (arith, c.fill_unknown.auto.out, length-take count c.args.out.now, c.min-count.ensures) in
    let none : list_any (has_place c.args.at) plan.extents ≡ false = sym c.in_default.ensures.some in
    subst (λ l. IsReadTo (kind_at plan.extents (map publication_of pieces)) (IsShown g.R.Telling.receipt_tells g.R.Telling.told plan.extents pieces) c.args.at l c.args.runs.now c.fill_unknown.new.runs)
    (sym (take_front count part rest (part ++ rest) len refl))
    (part_outside g.R.Telling.receipt_tells g.R.Telling.told plan.size plan.extents pieces c.args.at part c.args.runs.now c.fill_unknown.new.runs
    (sector_plan _ _ _ c.extents-extents.ensures.plan) (omega (arith, len, c.min-count.ensures)) none c.fill_unknown.ensures)

pub bounds-extents-number : goal.bounds-extents-number
bounds-extents-number g c =
    let f = found_in _ _ _ c.in-Some.number c.args.at (sector_plan _ _ _ c.extents-extents.ensures.plan) c.requires.small c.extents-extents.ensures.extents c.in-Some.ensures.has_it in
    f.inside

pub overflow_add-left : goal.overflow_add-left
overflow_add-left g c =
    let f = found_in _ _ _ c.in-Some.number c.args.at (sector_plan _ _ _ c.extents-extents.ensures.plan) c.requires.small c.extents-extents.ensures.extents c.in-Some.ensures.has_it in
    omega (arith, f.whole.fits)

pub overflow_sub-left : goal.overflow_sub-left
overflow_sub-left g c =
    let f = found_in _ _ _ c.in-Some.number c.args.at (sector_plan _ _ _ c.extents-extents.ensures.plan) c.requires.small c.extents-extents.ensures.extents c.in-Some.ensures.has_it in
    omega (arith, f.to)

pub fill_unknown-requires-in_default-first_of-clause-some : goal.fill_unknown-requires-in_default-first_of-clause-some
fill_unknown-requires-in_default-first_of-clause-some g c =
    let f = found_in _ _ _ c.in-Some.number c.args.at (sector_plan _ _ _ c.extents-extents.ensures.plan) c.requires.small c.extents-extents.ensures.extents c.in-Some.ensures.has_it in
    omega (arith, length-take c.min-count-in_default-first_of.result c.args.out.now, c.min-count-in_default-first_of.ensures, f.to, c.requires.some)

pub fill_unknown-requires-in_default-first_of-clause-fits : goal.fill_unknown-requires-in_default-first_of-clause-fits
fill_unknown-requires-in_default-first_of-clause-fits g c = omega (arith, length-take c.min-count-in_default-first_of.result c.args.out.now, c.requires.range.inside, c.requires.small)

pub returns-in_default-first_of-clause-count : goal.returns-in_default-first_of-clause-count
returns-in_default-first_of-clause-count g c =
    let f = found_in _ _ _ c.in-Some.number c.args.at (sector_plan _ _ _ c.extents-extents.ensures.plan) c.requires.small c.extents-extents.ensures.extents c.in-Some.ensures.has_it in
    record {
      some = omega (arith, c.min-count-in_default-first_of.ensures, f.to, c.requires.some);
      few = omega (arith, c.min-count-in_default-first_of.ensures);
      met = λ less. omega (arith, less, c.min-count-in_default-first_of.ensures, f.to, f.whole.at_whole, f.whole.len_whole);
    }

pub returns-in_default-first_of-clause-read : goal.returns-in_default-first_of-clause-read
returns-in_default-first_of-clause-read g c =
    let plan = c.args.plan.now in
    let pieces = map arc_value c.args.pieces.now in
    let part = c.fill_unknown-in_default-first_of.new.out in
    let count : ℕ = c.min-count-in_default-first_of.result in
    let rest = drop count c.args.out.now in
    let sectors = sector_plan _ _ _ c.extents-extents.ensures.plan in
    let f = found_in _ _ _ c.in-Some.number c.args.at sectors c.requires.small c.extents-extents.ensures.extents c.in-Some.ensures.has_it in
    let len : length part ≡ count = omega (arith, c.fill_unknown-in_default-first_of.auto.out, length-take count c.args.out.now, c.min-count-in_default-first_of.ensures) in
    subst (λ l. IsReadTo (kind_at plan.extents (map publication_of pieces)) (IsShown g.R.Telling.receipt_tells g.R.Telling.told plan.extents pieces) c.args.at l c.args.runs.now c.fill_unknown-in_default-first_of.new.runs)
    (sym (take_front count part rest (part ++ rest) len refl))
    (part_unpublished g.R.Telling.receipt_tells g.R.Telling.told plan.size plan.extents pieces c.in-Some.number c.args.at part c.args.runs.now c.fill_unknown-in_default-first_of.new.runs
    sectors f.holder
    (subst (λ e. IsInside e c.args.at (length part)) f.same (record { from = f.from; to = omega (arith, len, c.min-count-in_default-first_of.ensures, f.to) }))
    (c.in_default-first_of.ensures.none refl) c.fill_unknown-in_default-first_of.ensures)

pub overflow_sub-in_chunk : goal.overflow_sub-in_chunk
overflow_sub-in_chunk g c =
    let f = found_in _ _ _ c.in-Some.number c.args.at (sector_plan _ _ _ c.extents-extents.ensures.plan) c.requires.small c.extents-extents.ensures.extents c.in-Some.ensures.has_it in
    f.from

pub read_chunk-requires-clause-whole : goal.read_chunk-requires-clause-whole
read_chunk-requires-clause-whole g c κs within =
    let f = found_in _ _ _ c.in-Some.number c.args.at (sector_plan _ _ _ c.extents-extents.ensures.plan) c.requires.small c.extents-extents.ensures.extents c.in-Some.ensures.has_it in
    f.whole

pub read_chunk-requires-clause-sound : goal.read_chunk-requires-clause-sound
read_chunk-requires-clause-sound g c κs within =
    let plan = c.args.plan.now in
    let pieces = map arc_value c.args.pieces.now in
    let p = c.deref.result.now in
    let f = found_in _ _ _ c.in-Some.number c.args.at (sector_plan _ _ _ c.extents-extents.ensures.plan) c.requires.small c.extents-extents.ensures.extents c.in-Some.ensures.has_it in
    let seen = seen_at c.args.pieces.now arc_value c.in-Some.number c.in-Some-first_of.place c.index-pieces-place.result p c.in-Some-first_of.ensures.inside c.in-Some-first_of.ensures.is c.in-Some-first_of.ensures.first c.index-pieces-place.is c.deref.ensures in
    (plan.block, sound_at plan g.R.Telling.receipt_tells g.R.Telling.told pieces c.in-Some-first_of.place p _ c.requires.sound seen.there (ap (slice_get plan.extents) seen.of ∙ f.planned))

pub read_chunk-requires-clause-chunk : goal.read_chunk-requires-clause-chunk
read_chunk-requires-clause-chunk g c κs within =
    let f = found_in _ _ _ c.in-Some.number c.args.at (sector_plan _ _ _ c.extents-extents.ensures.plan) c.requires.small c.extents-extents.ensures.extents c.in-Some.ensures.has_it in
    let len = length-take c.min-count-2.result c.args.out.now in
    record {
      inside = record { from = f.from; to = omega (arith, f.to, len, c.min-count-2.ensures, c.min.ensures) };
      one = omega (arith, len, c.min-count-2.ensures, c.min.ensures);
    }

pub returns-in_err-read_chunk-clause-fault : goal.returns-in_err-read_chunk-clause-fault
returns-in_err-read_chunk-clause-fault g c =
    let plan = c.args.plan.now in
    let pieces = map arc_value c.args.pieces.now in
    let p = c.deref.result.now in
    let f = found_in _ _ _ c.in-Some.number c.args.at (sector_plan _ _ _ c.extents-extents.ensures.plan) c.requires.small c.extents-extents.ensures.extents c.in-Some.ensures.has_it in
    let seen = seen_at c.args.pieces.now arc_value c.in-Some.number c.in-Some-first_of.place c.index-pieces-place.result p c.in-Some-first_of.ensures.inside c.in-Some-first_of.ensures.is c.in-Some-first_of.ensures.first c.index-pieces-place.is c.deref.ensures in
    let few : length (take c.min-count-2.result c.args.out.now) ≤ length c.args.out.now = omega (arith, length-take c.min-count-2.result c.args.out.now) in
    let error = err_from_is_err_and c.from_residual.result c.from_residual.ensures.1 in
    subst (λ r. IfErr r (IsFault plan g.R.Telling.receipt_tells pieces c.args.at (length c.args.out.now))) (sym (error.1 ∙ ap Err error.2))
    (fault_of_piece plan g.R.Telling.receipt_tells pieces c.in-Some-first_of.place _ p c.args.at _ (length c.args.out.now) c.in_err-read_chunk.field-0.0 c.requires.range few seen.there (ap (slice_get plan.extents) seen.of ∙ f.planned) c.in_err-read_chunk.ensures.fault)

pub returns-clause-count : goal.returns-clause-count
returns-clause-count g c =
    let f = found_in _ _ _ c.in-Some.number c.args.at (sector_plan _ _ _ c.extents-extents.ensures.plan) c.requires.small c.extents-extents.ensures.extents c.in-Some.ensures.has_it in
    record {
      some = omega (arith, c.min-count-2.ensures, c.min.ensures, f.to, c.requires.some);
      few = omega (arith, c.min-count-2.ensures);
      met = λ less. omega (arith, less, c.min-count-2.ensures, c.min.ensures, f.from, f.to, f.whole.at_whole, f.whole.len_whole);
    }

pub returns-clause-read : goal.returns-clause-read
returns-clause-read g c =
    let plan = c.args.plan.now in
    let pieces = map arc_value c.args.pieces.now in
    let p = c.deref.result.now in
    let tells = g.R.Telling.receipt_tells in
    let told = g.R.Telling.told in
    let part = c.read_chunk.new.out in
    let count : ℕ = c.min-count-2.result in
    let rest = drop count c.args.out.now in
    let sectors = sector_plan _ _ _ c.extents-extents.ensures.plan in
    let f = found_in _ _ _ c.in-Some.number c.args.at sectors c.requires.small c.extents-extents.ensures.extents c.in-Some.ensures.has_it in
    let seen = seen_at c.args.pieces.now arc_value c.in-Some.number c.in-Some-first_of.place c.index-pieces-place.result p c.in-Some-first_of.ensures.inside c.in-Some-first_of.ensures.is c.in-Some-first_of.ensures.first c.index-pieces-place.is c.deref.ensures in
    let len : length part ≡ count = omega (arith, c.read_chunk.auto.out, length-take count c.args.out.now, c.min-count-2.ensures) in
    subst (λ l. IsReadTo (kind_at plan.extents (map publication_of pieces)) (IsShown tells told plan.extents pieces) c.args.at l c.args.runs.now c.read_chunk.new.runs)
    (sym (take_front count part rest (part ++ rest) len refl))
    (part_published tells told plan.size plan.extents pieces c.in-Some.number c.args.at c.in-Some-first_of.place p part c.args.runs.now c.read_chunk.new.runs
    sectors f.holder
    (subst (λ e. IsInside e c.args.at (length part)) f.same (record { from = f.from; to = omega (arith, len, c.min-count-2.ensures, c.min.ensures, f.to) }))
    seen.first seen.there
    (subst (λ e. IsReadTo (kind_in e p) (Shows tells told e p) c.args.at part c.args.runs.now c.read_chunk.new.runs) f.same c.in_ok-read_chunk.ensures.read))
