use Rattle.std.proofs.Common.{refl}
use Rattle.aff_lanes.proofs.md5_lanes.digests.Goals as goal

pub returns : goal.returns
returns c = rw (c.digest_of_words.ensures, c.digest_of_words-2.ensures, c.digest_of_words-3.ensures, c.digest_of_words-4.ensures) refl
