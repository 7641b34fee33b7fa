use Rattle.std.proofs.Common.{◌≡◌, ◌+◌, ◌-◌, ◌≤◌, ◌++◌, length, take, drop, ap, ◌∙◌, arith, length-take, length-drop}
use Rattle.aff_model.specs.Held.{bytes_of}
use Rattle.aff_linear.proofs.Gathered.{came_more}
use Rattle.aff_linear.proofs.feeder.Feeder.take_segment.Goals as goal

pub returns-in-Ok-clause-fed : goal.returns-in-Ok-clause-fed
returns-in-Ok-clause-fed g c told =
    let filled = c.self.inside.filled in
    let room = c.deref_mut.result.now in
    let count = c.end_of-end.result - c.self.inside.filled in
    let old : room ≡ c.self.inside.room.items = c.deref_mut.ensures.value in
    let long : length room ≡ length c.self.inside.room.items = ap length old in
    let low : filled ≤ length room = omega (arith, c.self.invariant, long) in
    let written : filled + length c.read_at.new.out ≡ c.end_of-end.result =
    omega (arith, c.read_at.auto.out, length-take count (drop filled room), length-drop filled room, c.end_of-end.ensures.some, c.end_of-end.ensures.inside, c.len.ensures, long) in
    came_more c.deref.result.now room c.read_at.new.out _ _ c.self.inside.linear c.feed_full-self-inside.new.linear filled c.end_of-end.result c.feed_full-self-inside.result c.self.inside.room.len
    low written (omega (arith, c.end_of-end.ensures.inside, c.len.ensures)) c.deref.ensures.value c.feed_full-self-inside.ensures.fed
    ∙ (λ i. (c.self.inside.linear ++ take filled (old i)) ++ c.in-Ok.ensures.bytes told i)
    ∙ ap (λ v. v ++ take (length (take count (drop filled room))) (drop c.args.at (bytes_of (g.F.Folder.held c.args.folder.now) c.args.name.now))) c.self.view_is
