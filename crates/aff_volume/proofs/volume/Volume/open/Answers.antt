use Rattle.aff_volume.proofs.Refused.{is_taken_whole, is_told}
use Rattle.aff_volume.proofs.volume.Volume.open.Goals as goal

pub returns-clause-taken : goal.returns-clause-taken
returns-clause-taken g c = is_taken_whole _ (g.F.Folder.held c.args.folder.now) c.open_volume.result c.open_volume.ensures.refused

pub returns-clause-told : goal.returns-clause-told
returns-clause-told g c = λ t. is_told _ (g.F.Folder.held c.args.folder.now) c.open_volume.result c.open_volume.ensures.volume t
