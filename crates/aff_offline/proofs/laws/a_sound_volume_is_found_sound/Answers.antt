use Rattle.aff_offline.proofs.Wholes.{is_found_sound}
use Rattle.aff_offline.proofs.laws.a_sound_volume_is_found_sound.Goals as goal

pub returns : goal.returns
returns c = is_found_sound
