use Rattle.std.proofs.Common.{◌≡◌, ℕ, ◌+◌, List, ap, ap₂, sym, ◌∙◌, arith}
use Rattle.md5.specs.Md5.{add_state, compress, hash_after, rounds}
use Rattle.md5.proofs.Absorbing.{hash_after_next}
use Rattle.aff_lanes.specs.Messages.{text}
use Rattle.aff_lanes.proofs.Messages.{next_block}
use Rattle.aff_lanes.proofs.md5_lanes.absorb.Goals as goal

pub each-init : goal.each-init
each-init c = λ j low whole q is has. is ∙ ap (hash_after whole) (omega arith)

pub blocks-requires-clause-there : goal.blocks-requires-clause-there
blocks-requires-clause-there c = λ k d low. omega (arith, c.requires.there k d low)

pub each-preserved : goal.each-preserved
unfolding compress
each-preserved c = λ j low whole q is has.
    let i = c.each.i in
    let s = hash_after whole (q + i) in
    let one : q + i + 1 ≡ q + (i + 1) = omega arith in
    c.rounds_lanes.ensures j low
    ∙ ap₂ (λ (h w : List ℕ). add_state h (rounds h w 64)) (c.each.invariant j low whole q is has) (c.blocks-in-each.ensures j low)
    ∙ ap (compress s) (next_block whole (text c.args.messages.now j) q c.args.count i has (omega arith))
    ∙ sym (hash_after_next whole (q + i)) ∙ ap (hash_after whole) one

pub returns : goal.returns
returns c = λ j low whole q is has.
    let done : q + c.each.i ≡ q + c.args.count = omega arith in
    c.each.invariant j low whole q is has ∙ ap (hash_after whole) done
