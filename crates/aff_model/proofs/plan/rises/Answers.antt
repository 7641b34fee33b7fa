use Rattle.std.proofs.Common.{arith, refl}
use Rattle.std.proofs.lemmas.Bool.{false≢true}
use Rattle.aff_model.proofs.Index.{apart-from_rises, meet-not_apart}
use Rattle.aff_model.proofs.plan.rises.Goals as goal

pub returns-then-start_of-end_of : goal.returns-then-start_of-end_of
returns-then-start_of-end_of c = (
  λ e. absurd (false≢true e),
  λ apart. absurd (meet-not_apart _ _ c.requires.sorted c.requires.bytes c.loop-k.k (omega arith) (omega arith) (omega arith) apart),
)

pub returns : goal.returns
returns c = (λ _. apart-from_rises _ _ c.requires.sorted (λ i l. c.loop-k.invariant i (omega arith)), λ _. refl)
