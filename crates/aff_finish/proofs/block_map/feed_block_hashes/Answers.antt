use Rattle.std.proofs.Common.{sym, subst, ◌∙◌}
use Rattle.aff_finish.specs.Kept.{HasKept}
use Rattle.aff_finish.specs.declared.block_map.Kept.TheVariants.{Md5, Sha1, Sha256}
use Rattle.aff_finish.proofs.block_map.feed_block_hashes.Goals as goal

pub feed_kept-requires-clause-there : goal.feed_kept-requires-clause-there
feed_kept-requires-clause-there g c κs within = λ t. c.requires.there t Md5

pub feed_kept-requires-2-clause-there : goal.feed_kept-requires-2-clause-there
feed_kept-requires-2-clause-there g c κs within = λ t.
    subst (λ h. HasKept h c.args.stream.now c.args.chunks Sha1) (sym (c.in_default.ensures.same t)) (c.requires.there t Sha1)

pub feed_kept-requires-3-clause-there : goal.feed_kept-requires-3-clause-there
feed_kept-requires-3-clause-there g c κs within = λ t.
    subst (λ h. HasKept h c.args.stream.now c.args.chunks Sha256) (sym (c.in_default-feed_kept.ensures.same t ∙ c.in_default.ensures.same t)) (c.requires.there t Sha256)
