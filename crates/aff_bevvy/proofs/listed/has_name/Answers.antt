use Rattle.std.proofs.Common.{ap, sym, ◌∙◌}
use Rattle.std.specs.Str.{bytes_eq}
use Rattle.std.proofs.lemmas.Map.Text.{is_eq-slice_cmp}
use Rattle.aff_bevvy.proofs.listed.has_name.Goals as goal

pub returns : goal.returns
returns c =
    c.eq.ensures ∙ ap (bytes_eq c.args.name.now) (c.as_str.ensures.value ∙ ap (λ s. s.0) c.segment.view_is)
    ∙ sym (is_eq-slice_cmp c.args.name.now c.args.segment.now.0)
