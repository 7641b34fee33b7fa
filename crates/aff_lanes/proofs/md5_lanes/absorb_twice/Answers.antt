use Rattle.std.proofs.Common.{◌≡◌, ℕ, ◌+◌, List, ap, ap₂, sym, ◌∙◌, arith}
use Rattle.md5.specs.Md5.{add_state, compress, hash_after, rounds}
use Rattle.md5.proofs.Absorbing.{hash_after_next}
use Rattle.aff_lanes.specs.Messages.{text}
use Rattle.aff_lanes.proofs.Messages.{next_block}
use Rattle.aff_lanes.proofs.md5_lanes.absorb_twice.Goals as goal

pub each-init : goal.each-init
each-init c = (
  λ j low whole q is has. is ∙ ap (hash_after whole) (omega arith),
  λ j low whole q is has. is ∙ ap (hash_after whole) (omega arith),
)

pub blocks-w-requires-clause-there : goal.blocks-w-requires-clause-there
blocks-w-requires-clause-there c = λ k d low. omega (arith, c.requires.first k d low)

pub blocks-x-requires-clause-there : goal.blocks-x-requires-clause-there
blocks-x-requires-clause-there c = λ k d low. omega (arith, c.requires.last k d low)

pub each-preserved : goal.each-preserved
unfolding compress
each-preserved c = (
  λ j low whole q is has.
      let i = c.each.i in
      let s = hash_after whole (q + i) in
      let one : q + i + 1 ≡ q + (i + 1) = omega arith in
      c.rounds_twice.ensures.near j low
      ∙ ap₂ (λ (h w : List ℕ). add_state h (rounds h w 64)) (c.each.invariant.0 j low whole q is has) (c.blocks-w.ensures j low)
      ∙ ap (compress s) (next_block whole (text c.args.first.now j) q c.args.count i has (omega arith))
      ∙ sym (hash_after_next whole (q + i)) ∙ ap (hash_after whole) one,
  λ j low whole q is has.
      let i = c.each.i in
      let s = hash_after whole (q + i) in
      let one : q + i + 1 ≡ q + (i + 1) = omega arith in
      c.rounds_twice.ensures.far j low
      ∙ ap₂ (λ (h w : List ℕ). add_state h (rounds h w 64)) (c.each.invariant.1 j low whole q is has) (c.blocks-x.ensures j low)
      ∙ ap (compress s) (next_block whole (text c.args.last.now j) q c.args.count i has (omega arith))
      ∙ sym (hash_after_next whole (q + i)) ∙ ap (hash_after whole) one,
)

pub returns-clause-near : goal.returns-clause-near
returns-clause-near c = λ j low whole q is has.
    let done : q + c.each.i ≡ q + c.args.count = omega arith in
    c.each.invariant.0 j low whole q is has ∙ ap (hash_after whole) done

pub returns-clause-far : goal.returns-clause-far
returns-clause-far c = λ j low whole q is has.
    let done : q + c.each.i ≡ q + c.args.count = omega arith in
    c.each.invariant.1 j low whole q is has ∙ ap (hash_after whole) done
