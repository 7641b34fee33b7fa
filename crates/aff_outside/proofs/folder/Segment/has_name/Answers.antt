use Rattle.std.proofs.Common.{◌≡◌, ap, sym, ◌∙◌}
use Rattle.std.specs.Str.{bytes_eq}
use Rattle.std.proofs.lemmas.Map.Text.{is_eq-slice_cmp}
use Rattle.aff_outside.proofs.folder.Segment.has_name.Goals as goal

pub returns : goal.returns
returns c =
    let own : c.as_str.result.now ≡ c.args.self.now.0 = c.as_str.ensures.value ∙ ap (λ v. v.0) c.self.view_is in
    c.eq.ensures ∙ ap (bytes_eq c.args.name.now) own ∙ sym (is_eq-slice_cmp c.args.name.now c.args.self.now.0)
