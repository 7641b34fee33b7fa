use Rattle.aff_spec.proofs.Escapes.{folders_differ}
use Rattle.aff_names.proofs.laws.folders_differ.Goals as goal

pub returns : goal.returns
returns c = folders_differ
