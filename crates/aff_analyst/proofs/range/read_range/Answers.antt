use Rattle.std.proofs.Common.{◌≡◌, ℕ, ◌+◌, ◌-◌, ◌%◌, ◌<◌, ◌≤◌, length, map, take, drop, refl, sym, subst, ◌∙◌, arith, length-drop, length-take}
use Rattle.std.specs.Arc.{arc_value}
use borrow.Rule.Slice.PartMut.{same_len_mid}
use Rattle.aff_model.specs.History.{publication_of}
use Rattle.aff_model.specs.Kinds.{kind_at}
use Rattle.aff_analyst.specs.Bytes.{IsShown}
use Rattle.aff_analyst.specs.Reads.{IsReadTo}
use Rattle.aff_analyst.proofs.Puts.{take_more_put}
use Rattle.aff_analyst.proofs.Steps.{read_more, room_less, room_more}
use Rattle.aff_analyst.proofs.range.read_range.Goals as goal

pub overflow_add-at : goal.overflow_add-at
overflow_add-at g c = omega (arith, c.loop-done-test.true, c.loop-done.invariant.whole, c.requires.range.inside, c.requires.small)

pub read_next-requires-clause-runs : goal.read_next-requires-clause-runs
read_next-requires-clause-runs g c κs within =
    let inv = c.loop-done.invariant in
    let done : ℕ = c.loop-done.done in
    let len : ℕ = length c.args.out.now in
    let out = c.loop-done.out in
    let pieces = map arc_value c.args.pieces.now in
    let part : length (take (length out - done) (drop done out)) ≡ len - done = omega (arith, length-take (length out - done) (drop done out), length-drop done out, inv.count) in
    let taken : length (take done out) ≡ done = omega (arith, length-take done out, inv.inside, inv.whole, inv.count) in
    room_less (c.args.at + done) _ (len - done) c.loop-done.runs (omega (arith, part))
    (room_more (kind_at c.args.plan.now.extents (map publication_of pieces)) (IsShown g.R.Telling.receipt_tells g.R.Telling.told c.args.plan.now.extents pieces) c.args.at done (len - done) len (take done out) c.args.runs.now c.loop-done.runs
    taken (omega (arith, c.loop-done-test.true)) inv.start (λ some. inv.met some c.loop-done-test.true) c.requires.runs inv.read)

pub loop-done-preserved : goal.loop-done-preserved
loop-done-preserved g c =
    let inv = c.loop-done.invariant in
    let step = c.in_ok-count.ensures.count in
    let done : ℕ = c.loop-done.done in
    let count : ℕ = c.in_ok-count.count in
    let len : ℕ = length c.args.out.now in
    let out = c.loop-done.out in
    let more = c.read_next.new.out in
    let pieces = map arc_value c.args.pieces.now in
    let kind = kind_at c.args.plan.now.extents (map publication_of pieces) in
    let shown = IsShown g.R.Telling.receipt_tells g.R.Telling.told c.args.plan.now.extents pieces in
    let part : length (take (length out - done) (drop done out)) ≡ len - done = omega (arith, length-take (length out - done) (drop done out), length-drop done out, inv.count) in
    let long : length more ≡ len - done = c.read_next.auto.out ∙ part in
    let low : done ≤ length out = omega (arith, inv.inside, inv.whole, inv.count) in
    let taken : length (take done out) ≡ done = omega (arith, length-take done out, low) in
    record {
      inside = omega (arith, step.few, part, c.loop-done-test.true);
      whole = refl;
      count = same_len_mid done (length out - done) out more c.read_next.auto.out ∙ inv.count;
      room = c.read_next.auto.buffer ∙ inv.room;
      met = λ some less. (let w = step.met (omega (arith, less, part)) in omega (arith, w));
      start = λ z. absurd (omega (arith, z, step.some));
      read = subst (λ l. IsReadTo kind shown c.args.at l c.args.runs.now c.read_next.new.runs)
          (sym (take_more_put done (length out - done) count out more low (omega (arith, step.few, part, long))))
          (read_more kind shown c.args.at done (take done out) (take count more) c.args.runs.now c.loop-done.runs c.read_next.new.runs
          taken inv.start (λ some. inv.met some c.loop-done-test.true) inv.read c.in_ok-count.ensures.read);
      later = omega (arith, inv.later, c.in_ok-count.ensures.cause.later);
    }
