use Rattle.aff_image.proofs.Images.{image_acquired}
use Rattle.aff_image.proofs.Volumes.{is_volume, volume_bytes_are}
use Rattle.aff_image.proofs.laws.a_complete_image_has_its_volume.Goals as goal

pub returns-clause-cells : goal.returns-clause-cells
returns-clause-cells c case workers m is_plan image complete i = image_acquired case workers m is_plan image i complete

pub returns-clause-volume : goal.returns-clause-volume
returns-clause-volume c case workers m is_plan image complete uuid entries held ok runs fit made = is_volume case workers uuid m entries is_plan image complete runs fit ok held made

pub returns-clause-bytes : goal.returns-clause-bytes
returns-clause-bytes c = volume_bytes_are
