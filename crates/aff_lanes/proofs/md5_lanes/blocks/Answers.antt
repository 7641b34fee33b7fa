use Rattle.std.proofs.Common.{◌*◌, ◌∙◌, arith}
use Rattle.md5.proofs.Rounds.{words_are}
use Rattle.aff_lanes.specs.Lanes.{words}
use Rattle.aff_lanes.specs.Messages.{block_at, text}
use Rattle.aff_lanes.proofs.Lanes.{length-words, slice_index-words}
use Rattle.aff_lanes.proofs.Messages.{low_word-block}
use Rattle.aff_lanes.proofs.md5_lanes.blocks.Goals as goal

pub words_le-requires : goal.words_le-requires
words_le-requires c = λ k d low. omega (arith, c.requires.there k d low)

pub returns : goal.returns
returns c = λ j low.
    let m = text c.args.messages.now j in
    words_are (block_at m c.args.at) (words j c.load.w) (length-words c.load.w j ∙ c.load.invariant.0)
    (λ k lt. slice_index-words c.load.w j k ∙ c.load.invariant.1 j low k (omega arith) ∙ low_word-block m c.args.at (4 * k) (omega arith))
