use Rattle.std.proofs.Common.{ap, ◌∙◌}
use Rattle.std.specs.Option.{option_map}
use Rattle.aff_turtle.specs.Prefixes.{declared}
use Rattle.aff_turtle.proofs.Lookups.{declared_map}
use Rattle.aff_turtle.proofs.prefixes.Prefixes.declared.Goals as goal

pub returns : goal.returns
returns c =
    ap (option_map (λ iri. iri.now)) (c.copied.ensures ∙ c.get.ensures.value)
    ∙ declared_map c.args.name.now c.self.inside.iris
    ∙ ap (λ ps. declared ps c.args.name.now) c.self.view_is
