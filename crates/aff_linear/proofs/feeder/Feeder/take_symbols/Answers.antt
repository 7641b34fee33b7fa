use Rattle.std.proofs.Common.{◌≡◌, ◌+◌, ◌-◌, ◌≤◌, ◌++◌, length, map, take, drop, ap, ◌∙◌, arith, length-take, length-drop}
use Rattle.std.specs.List.{range_with_len}
use Rattle.aff_map.specs.Symbol.{symbol_of}
use Rattle.aff_linear.proofs.Gathered.{came_more}
use Rattle.aff_linear.proofs.feeder.Feeder.take_symbols.Goals as goal

pub returns-clause-fed : goal.returns-clause-fed
returns-clause-fed g c =
    let filled = c.self.inside.filled in
    let room = c.deref_mut.result.now in
    let count = c.end_of-end.result - c.self.inside.filled in
    let old : room ≡ c.self.inside.room.items = c.deref_mut.ensures.value in
    let long : length room ≡ length c.self.inside.room.items = ap length old in
    let low : filled ≤ length room = omega (arith, c.self.invariant, long) in
    let written : filled + length c.fill.new.out ≡ c.end_of-end.result =
    omega (arith, c.fill.auto.out, length-take count (drop filled room), length-drop filled room, c.end_of-end.ensures.some, c.end_of-end.ensures.inside, c.len.ensures, long) in
    came_more c.deref.result.now room c.fill.new.out _ _ c.self.inside.linear c.feed_full-self-inside.new.linear filled c.end_of-end.result c.feed_full-self-inside.result c.self.inside.room.len
    low written (omega (arith, c.end_of-end.ensures.inside, c.len.ensures)) c.deref.ensures.value c.feed_full-self-inside.ensures.fed
    ∙ (λ i. (c.self.inside.linear ++ take filled (old i)) ++ c.fill.ensures i)
    ∙ ap (λ v. v ++ map (symbol_of c.args.target) (range_with_len c.args.at (length (take count (drop filled room))))) c.self.view_is
