use Rattle.std.proofs.Common.{◌<◌, ◌^◌, ◌*◌, Some, ap, sym, subst, ◌∙◌}
use Rattle.std.specs.Prelude.{IfSome}
use Rattle.aff_bevvy.proofs.Listing.{is_bevvy}
use Rattle.aff_bevvy.specs.Segments.{listed_length}
use Rattle.aff_bevvy.proofs.bevvies.bevvy_length.Goals as goal

pub returns-clause-bevvy : goal.returns-clause-bevvy
returns-clause-bevvy c =
    is_bevvy (listed_length c.args.segments.now) c.args.stream.now c.args.chunks c.args.bevvy c.in-Ok-Some.len
    (sym c.in-Ok-Some.ensures.length ∙ c.in-Ok-Some.field-0-is)
    (subst (λ o. IfSome o (λ len. len < 2 ^ 64)) c.in-Ok-Some.field-0-is c.in-Ok-Some.ensures.small)
    (sym c.in-Ok-Some-numbered_length.ensures.length ∙ c.in-Ok-Some-numbered_length.field-0-is ∙ ap Some (c.if-index-chunks_in.false ∙ ap (λ n. 12 * n) c.chunks_in.ensures))
