use Rattle.aff_spec.proofs.Escapes.{folders_have_no_slash}
use Rattle.aff_names.proofs.Dots.{folders_are_no_dots}
use Rattle.aff_names.proofs.laws.folders_are_files.Goals as goal

pub returns-clause-slash : goal.returns-clause-slash
returns-clause-slash c = folders_have_no_slash

pub returns-clause-dots : goal.returns-clause-dots
returns-clause-dots c = folders_are_no_dots
