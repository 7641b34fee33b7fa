use Rattle.aff_image.proofs.Images.{image_bad, same_bytes}
use Rattle.aff_image.proofs.laws.the_order_does_not_matter.Goals as goal

pub returns-clause-content : goal.returns-clause-content
returns-clause-content c case workers m is_plan image same complete i = image_bad case workers m is_plan image i same complete

pub returns-clause-bytes : goal.returns-clause-bytes
returns-clause-bytes c = same_bytes
