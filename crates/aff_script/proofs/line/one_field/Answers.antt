use Rattle.std.proofs.Common.{ap, sym, ◌∙◌}
use Rattle.aff_plan.specs.Reading.{parts_behind}
use Rattle.aff_script.proofs.Forms.{more_fields}
use Rattle.aff_script.proofs.line.one_field.Goals as goal

pub returns-then-is_some : goal.returns-then-is_some
returns-then-is_some c = λ a some.
    more_fields c.cut_at.result.1 (sym c.is_some.ensures ∙ c.if-is_some.true) (parts_behind 32 c.args.rest) c.cut_at.result.0.now a
    (ap (parts_behind 32) c.in_ok-rest.was ∙ c.cut_at.ensures.parts)
