use Rattle.std.proofs.Common.{◌≡◌, Ok, sym, ap, ◌∙◌, inl, inr}
use Rattle.std.proofs.lemmas.Fmt.{parse-decimal}
use Rattle.std.proofs.lemmas.Slice.Eq.{bytes_eq-Decides}
use Rattle.std.specs.Fmt.{decimal}
use Rattle.aff_info.proofs.Numbers.{number_spelled, number_tells, parsed_small, not_same}
use Rattle.aff_info.proofs.value.number_in.Goals as goal

pub returns-then-is_text : goal.returns-then-is_text
returns-then-is_text c =
    let text = c.args.text.now in
    let is : decimal c.in-Ok.n ≡ text = sym c.in_ok-spelled-in-Ok.ensures ∙ sym c.as_str.ensures.value ∙ (bytes_eq-Decides c.as_str.result.now text).0 (sym c.if-is_text.ensures) in
    sym (number_spelled c.in-Ok.n text (parsed_small c.in-Ok.n text c.parse.result c.in-Ok.is c.parse.ensures.value.0) is)

pub returns-in-Ok : goal.returns-in-Ok
returns-in-Ok c = elim (number_tells c.args.text.now) [
  | inl none ↦ sym none
  | inr k ↦
      let parsed : c.parse.result ≡ Ok k.0 = parse-decimal 64 k.0 c.args.text.now c.parse.result k.1 k.1 k.2 c.parse.ensures.value.0 in
      let same : c.in-Ok.n ≡ k.0 = cc (c.in-Ok.is, parsed) in
      absurd (not_same c.as_str.result.now c.args.text.now (c.as_str.ensures.value ∙ c.in_ok-spelled-in-Ok.ensures ∙ ap decimal same ∙ sym k.2) (sym c.if-is_text.ensures))
]

pub returns : goal.returns
returns c = elim (number_tells c.args.text.now) [
  | inl none ↦ sym none
  | inr k ↦
      let parsed : c.parse.result ≡ Ok k.0 = parse-decimal 64 k.0 c.args.text.now c.parse.result k.1 k.1 k.2 c.parse.ensures.value.0 in
      cc (c.in-Err.is, parsed)
]
