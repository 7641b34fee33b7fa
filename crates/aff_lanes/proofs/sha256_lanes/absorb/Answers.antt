use Rattle.std.proofs.Common.{◌≡◌, ◌+◌, ap, ap₂, sym, ◌∙◌, arith}
use Rattle.sha2.specs.Sha256.{compress, hash_after, initial_hash_256}
use Rattle.sha2.proofs.Absorbing256.{hash_after_next}
use Rattle.aff_lanes.specs.Messages.{text}
use Rattle.aff_lanes.proofs.Messages.{next_block}
use Rattle.aff_lanes.proofs.sha256_lanes.absorb.Goals as goal

pub each-init : goal.each-init
each-init c = λ j low whole q is has. is ∙ ap (hash_after initial_hash_256 whole) (omega arith)

pub compress_lanes-requires-clause-there : goal.compress_lanes-requires-clause-there
compress_lanes-requires-clause-there c = λ k d low. omega (arith, c.requires.there k d low)

pub each-preserved : goal.each-preserved
each-preserved c = λ j low whole q is has.
    let i = c.each.i in
    let one : q + i + 1 ≡ q + (i + 1) = omega arith in
    c.compress_lanes.ensures j low
    ∙ ap₂ compress (c.each.invariant j low whole q is has) (next_block whole (text c.args.messages.now j) q c.args.count i has (omega arith))
    ∙ sym (hash_after_next initial_hash_256 whole (q + i)) ∙ ap (hash_after initial_hash_256 whole) one

pub returns : goal.returns
returns c = λ j low whole q is has.
    let done : q + c.each.i ≡ q + c.args.count = omega arith in
    c.each.invariant j low whole q is has ∙ ap (hash_after initial_hash_256 whole) done
