use Rattle.aff_image.proofs.Growth.{push_witnessed, written-push}
use Rattle.aff_image.proofs.laws.readings_grow.Goals as goal

pub returns-clause-one_more : goal.returns-clause-one_more
returns-clause-one_more c case plan workers readings r are = push_witnessed case plan workers readings are r

pub returns-clause-appends : goal.returns-clause-appends
returns-clause-appends c = written-push
