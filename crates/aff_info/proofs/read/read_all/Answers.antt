use Rattle.aff_info.specs.Reading.{nothing}
use Rattle.aff_info.proofs.Wholes.{whole}
use Rattle.aff_info.proofs.read.read_all.Goals as goal

pub whole-requires : goal.whole-requires
whole-requires c = whole c.args.triples.now nothing c.in_ok-draft.draft c.in_ok-draft.ensures
