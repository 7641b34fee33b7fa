use Rattle.std.proofs.Common.{◌≡◌, ◌+◌, length, ◌∙◌, arith}
use Rattle.std.proofs.lemmas.List.{length_push}
use Rattle.aff_run.proofs.making.give_back_of.Goals as goal

pub loop-follower-preserved : goal.loop-follower-preserved
loop-follower-preserved g c =
    let i = c.loop-follower.invariant in
    let longer = length_push c.loop-follower.yielded c.in-Some.follower in
    let p = c.push_reserved.ensures in
    (omega (arith, longer, p.len, i.0), p.capacity ∙ i.1, omega (arith, longer, c.in-Some.ensures.steps.1, i.2))

pub returns : goal.returns
returns g c =
    let i = c.loop-follower.invariant in
    record { room = (omega (arith, c.in-None.ensures.steps, i.0, i.2), i.1) }
