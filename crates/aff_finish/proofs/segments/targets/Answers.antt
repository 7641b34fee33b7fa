use Rattle.std.proofs.Common.{◌≡◌, sym, subst}
use Rattle.std.specs.Prelude.{IfOk}
use Rattle.std.specs.String.{string_bytes}
use Rattle.aff_finish.proofs.Appending.{targets_text_is}
use Rattle.aff_finish.proofs.segments.targets.Goals as goal

pub returns : goal.returns
returns c = subst (λ v. IfOk c.format.result (λ text. string_bytes text ≡ v)) (sym (targets_text_is c.args.stream.now)) c.format.ensures.ok
