use Rattle.aff_image.proofs.Endings.{readings_image}
use Rattle.aff_image.proofs.Images.{image_at-is}
use Rattle.aff_image.proofs.Volumes.{image-few}
use Rattle.aff_image.proofs.laws.readings_make_an_image.Goals as goal

pub returns-clause-image : goal.returns-clause-image
returns-clause-image c = readings_image

pub returns-clause-before : goal.returns-clause-before
returns-clause-before c case workers m is_plan image n = image_at-is case workers m n is_plan image

pub returns-clause-few : goal.returns-clause-few
returns-clause-few c = image-few
