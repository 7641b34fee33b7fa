use Rattle.std.proofs.Common.{◌*◌, ◌∙◌, arith}
use Rattle.sha1.specs.Sha1.{compress}
use Rattle.sha1.proofs.Schedule.{IsWindow_first}
use Rattle.aff_lanes.specs.Lanes.{words}
use Rattle.aff_lanes.specs.Messages.{block_at, text}
use Rattle.aff_lanes.proofs.Lanes.{length-words, slice_index-words}
use Rattle.aff_lanes.proofs.Messages.{high_word-block}
use Rattle.aff_lanes.proofs.sha1_lanes.compress_lanes.Goals as goal

pub words_be-requires : goal.words_be-requires
words_be-requires c = λ k d low. omega (arith, c.requires.there k d low)

pub returns : goal.returns
unfolding compress
returns c = λ j low.
    let m = text c.args.messages.now j in
    let block = block_at m c.args.at in
    c.rounds_lanes.ensures j low block
    (IsWindow_first block (words j c.load.w) (length-words c.load.w j ∙ c.load.invariant.0)
    (λ k lt. slice_index-words c.load.w j k ∙ c.load.invariant.1 j low k (omega arith) ∙ high_word-block m c.args.at (4 * k) (omega arith)))
