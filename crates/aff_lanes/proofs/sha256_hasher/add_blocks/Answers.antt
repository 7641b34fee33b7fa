use Rattle.std.proofs.Common.{◌≡◌, ℕ, ◌<◌, ◌*◌, List, length, take, drop, Bor, ap, sym, ◌∙◌, refl, arith}
use Rattle.std.proofs.lemmas.List.{length-drop, length-take-le}
use Rattle.sha2.specs.Sha256.{compress, hash_after}
use Rattle.sha2.proofs.Absorbing256.{hash_after_next}
use Rattle.aff_lanes.specs.Groups.{HasWords}
use Rattle.aff_lanes.proofs.Lanes.{below_four}
use Rattle.aff_lanes.proofs.Messages.{All-four}
use Rattle.aff_lanes.proofs.sha256_hasher.add_blocks.Goals as goal

pub slice_bounds-schedules-end : goal.slice_bounds-schedules-end
slice_bounds-schedules-end c = sym (length-take-le 64 c.args.group.now (omega arith))

pub schedules-requires : goal.schedules-requires
schedules-requires c =
    let group = c.args.group.now in
    All-four (λ (b : Bor (List ℕ)). length b.now ≡ 64) _ _ _ _ (length-take-le 64 group (omega arith)) (length-take-le 64 (drop 64 group) (omega (arith, length-drop 64 group)))
    (length-take-le 64 (drop 128 group) (omega (arith, length-drop 128 group))) (length-take-le 64 (drop 192 group) (omega (arith, length-drop 192 group)))

pub each-init : goal.each-init
unfolding hash_after
each-init c = refl

pub each-preserved : goal.each-preserved
each-preserved c =
    let group = c.args.group.now in
    let flat = c.schedules.new.flat in
    let block : (j : ℕ) → j < 4 → HasWords flat j (take 64 (drop (j * 64) group)) 64 =
    below_four (λ j. HasWords flat j (take 64 (drop (j * 64) group)) 64)
    (c.schedules.ensures 0 (omega arith)) (c.schedules.ensures 1 (omega arith)) (c.schedules.ensures 2 (omega arith)) (c.schedules.ensures 3 (omega arith)) in
    c.add_block.ensures _ (block c.each.j (omega arith))
    ∙ ap (λ s. compress s (take 64 (drop (c.each.j * 64) group))) c.each.invariant
    ∙ sym (hash_after_next c.args.state.now group c.each.j)

pub returns : goal.returns
returns c =
    let done : c.each.j ≡ c.args.count = omega arith in
    c.each.invariant ∙ ap (hash_after c.args.state.now c.args.group.now) done
