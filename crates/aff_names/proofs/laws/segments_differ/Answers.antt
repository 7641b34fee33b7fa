use Rattle.aff_spec.proofs.Segments.{segments_differ}
use Rattle.aff_names.proofs.laws.segments_differ.Goals as goal

pub returns : goal.returns
returns c = segments_differ
