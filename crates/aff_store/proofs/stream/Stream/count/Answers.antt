use Rattle.std.proofs.Common.{◌∙◌}
use Rattle.aff_store.proofs.Steps.{count_is}
use Rattle.aff_store.proofs.stream.Stream.count.Goals as goal

pub returns : goal.returns
returns c = λ going. c.count.ensures ∙ count_is _ _ _ _ _ c.self.view_is c.self.invariant going
