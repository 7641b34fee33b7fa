use Rattle.aff_image.proofs.Contents.{one_content}
use Rattle.aff_image.proofs.laws.readings_are_of_one_content.Goals as goal

pub returns : goal.returns
returns c case plan workers readings is_plan are =
    let one = one_content case plan workers readings is_plan are in
    (one.content, one.is_case, one.are)
