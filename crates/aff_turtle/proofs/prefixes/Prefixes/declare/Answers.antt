use Rattle.std.proofs.Common.{Some, cond, ap, ◌∙◌}
use Rattle.std.specs.Str.{bytes_eq}
use Rattle.aff_turtle.specs.Prefixes.{declared}
use Rattle.aff_turtle.proofs.Lookups.{declares_more}
use Rattle.aff_turtle.proofs.prefixes.Prefixes.declare.Goals as goal

pub returns : goal.returns
returns c = λ name.
    declares_more c.args.prefix.name.now c.args.prefix.iri c.self.inside.iris c.insert.new.self c.in_ok-insert.ensures.updates name
    ∙ ap (λ ps. cond (bytes_eq c.args.prefix.name.now name) (Some c.args.prefix.iri.now) (declared ps name)) c.self.view_is
