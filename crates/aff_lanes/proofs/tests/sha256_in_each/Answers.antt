use Rattle.std.proofs.Common.{length, refl}
use Rattle.aff_lanes.proofs.Messages.{eight_of_one_length, four_of_one_length}
use Rattle.aff_lanes.proofs.tests.sha256_in_each.Goals as goal

pub sha256_of_four-requires : goal.sha256_of_four-requires
sha256_of_four-requires c = four_of_one_length (length c.args.message.now) _ _ _ _ refl refl refl refl

pub sha256_of_eight-requires : goal.sha256_of_eight-requires
sha256_of_eight-requires c = eight_of_one_length (length c.args.message.now) _ _ _ _ _ _ _ _ refl refl refl refl refl refl refl refl
