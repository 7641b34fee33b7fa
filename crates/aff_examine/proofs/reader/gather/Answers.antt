use Rattle.std.proofs.Common.{◌≡◌, ℕ, ◌+◌, ◌-◌, ◌≤◌, length, take, drop, sym, subst, ◌∙◌, arith, length-take, length-drop}
use borrow.Rule.Slice.PartMut.{put_mid, same_len_mid}
use Rattle.aff_model.specs.Plan.{Planned}
use Rattle.aff_analyst.specs.Answers.{IsReadBy}
use Rattle.aff_examine.specs.Reading.{IsGathered}
use Rattle.aff_examine.proofs.Gathering.{gathered_more}
use Rattle.aff_examine.proofs.reader.gather.Goals as goal

pub loop-done-preserved : goal.loop-done-preserved
loop-done-preserved g c =
    let inv = c.loop-done.invariant in
    let done : ℕ = c.loop-done.done in
    let count : ℕ = c.min-count.result in
    let out = c.loop-done.out in
    let more = c.read_all.new.out in
    let tells = g.F.Receipt.Telling.receipt_tells in
    let told = g.F.Receipt.Telling.told in
    let low : done ≤ length out = omega (arith, inv.inside, inv.count, c.requires.room) in
    let part : length (take (length out - done) (drop done out)) ≡ length out - done = omega (arith, length-take (length out - done) (drop done out), length-drop done out) in
    let long : count ≤ length more = omega (arith, c.read_all.auto.out, part, c.min-count.ensures, inv.count, c.requires.room, c.loop-done-test.true) in
    record {
      inside = omega (arith, c.min-count.ensures, c.loop-done-test.true);
      plan = c.read_all.ensures.plan ∙ inv.plan;
      count = same_len_mid done (length out - done) out more c.read_all.auto.out ∙ inv.count;
      bytes = λ p is. subst (λ (plan : Planned). IsGathered plan tells told p c.args.at (done + count) (put_mid done (length out - done) out more)) (sym c.read_all.ensures.plan)
          (gathered_more c.loop-done.analyst.plan tells told p c.args.at done (length out - done) count out more c.read_all.new.runs low long (inv.bytes p is)
          (subst (λ ps. IsReadBy c.loop-done.analyst.plan tells told ps (c.args.at + done) count more c.read_all.new.runs) is c.in-Ok.ensures.read));
      later = omega (arith, inv.later, c.in-Ok.ensures.cause.later);
    }

pub returns-clause-bytes : goal.returns-clause-bytes
returns-clause-bytes g c = λ p is.
    let inv = c.loop-done.invariant in
    let tells = g.F.Receipt.Telling.receipt_tells in
    let told = g.F.Receipt.Telling.told in
    let all : c.loop-done.done ≡ c.args.len = omega (arith, inv.inside, c.loop-done-test.false) in
    subst (λ (plan : Planned). IsGathered plan tells told p c.args.at c.args.len c.loop-done.out) inv.plan (subst (λ n. IsGathered c.loop-done.analyst.plan tells told p c.args.at n c.loop-done.out) all (inv.bytes p is))
