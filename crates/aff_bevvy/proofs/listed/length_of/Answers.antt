use Rattle.std.proofs.Common.{◌+◌, ◌-◌, ◌/◌, ◌<◌, length, refl, ap, sym, ◌∙◌, arith}
use Rattle.std.specs.Prelude.{Some}
use Rattle.aff_bevvy.proofs.Sorted.{between_all, between_left, between_right, is_listed, not_listed}
use Rattle.aff_bevvy.proofs.listed.length_of.Goals as goal

pub loop-low-init : goal.loop-low-init
loop-low-init c = record { inside = omega arith; between = λ sorted. between_all c.args.segments.now c.args.name.now (length c.args.segments.now) (omega arith) }

pub loop-low-preserved-in-Less : goal.loop-low-preserved-in-Less
loop-low-preserved-in-Less c =
    let there : c.loop-low.low + (c.loop-low.high - c.loop-low.low) / 2 < length c.args.segments.now = omega (arith, c.loop-low.invariant.inside, c.loop-low-test.true) in
    record {
      inside = omega (arith, there);
      between = between_left c.args.segments.now c.args.name.now _ c.index-segments-middle.result there c.index-segments-middle.is c.loop-low.low c.loop-low.high _ _ (sym c.compare.ensures ∙ c.in-Less.is) refl refl c.loop-low.invariant.between;
    }

pub loop-low-preserved : goal.loop-low-preserved
loop-low-preserved c =
    let there : c.loop-low.low + (c.loop-low.high - c.loop-low.low) / 2 < length c.args.segments.now = omega (arith, c.loop-low.invariant.inside, c.loop-low-test.true) in
    record {
      inside = c.loop-low.invariant.inside;
      between = between_right c.args.segments.now c.args.name.now _ c.index-segments-middle.result there c.index-segments-middle.is c.loop-low.low c.loop-low.high _ _ (sym c.compare.ensures ∙ c.in-Greater.is) refl refl c.loop-low.invariant.between;
    }

pub returns-in-Equal-clause-length : goal.returns-in-Equal-clause-length
returns-in-Equal-clause-length c = λ sorted.
    let there : c.loop-low.low + (c.loop-low.high - c.loop-low.low) / 2 < length c.args.segments.now = omega (arith, c.loop-low.invariant.inside, c.loop-low-test.true) in
    ap Some c.len.ensures ∙ sym (is_listed c.args.segments.now sorted c.args.name.now _ c.index-segments-middle.result there c.index-segments-middle.is (sym c.compare.ensures ∙ c.in-Equal.is))

pub returns-clause-length : goal.returns-clause-length
returns-clause-length c = λ sorted. sym (not_listed c.args.segments.now c.args.name.now c.loop-low.low c.loop-low.high c.loop-low-test.false (c.loop-low.invariant.between sorted))
