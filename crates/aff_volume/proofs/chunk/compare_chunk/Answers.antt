use Rattle.std.proofs.Common.{◌∙◌}
use Rattle.aff_volume.proofs.chunk.compare_chunk.Goals as goal

pub returns-clause-same : goal.returns-clause-same
returns-clause-same g c = λ t. c.compare_all.ensures.same t ∙ c.in-Ok.ensures.same t
