use Rattle.std.proofs.Common.{ℕ, List, Option, length, ap, ◌∙◌}
use Rattle.std.proofs.lemmas.Result.{IfOk-weaker}
use Rattle.aff_info.specs.Reading.{others, aside}
use Rattle.aff_info.proofs.read.aside.Goals as goal

pub returns : goal.returns
unfolding aside
returns c = IfOk-weaker c.others.result _ _ (λ places h. h ∙ ap (λ (fs : List (Option ℕ)). others fs 0 (length c.args.triples.now)) (c.deref.ensures.value ∙ c.in_ok-firsts.ensures)) c.others.ensures
