use Rattle.std.proofs.Common.{◌≡◌, ◌∷◌, ap, sym, ◌∙◌}
use Rattle.aff_plan.specs.Reading.{parts_behind}
use Rattle.aff_plan.proofs.Fields.{more_parts}
use Rattle.aff_plan.proofs.line.fields.Goals as goal

pub returns-then-is_some : goal.returns-then-is_some
returns-then-is_some c = λ shape.
    let line = c.args.line.now in
    let word = c.next_word.result.0.now in
    let at = c.next_word-2.result.0.now in
    let len = c.next_word-3.result.0.now in
    let priority = c.next_word-4.result.0.now in
    let third : parts_behind 32 c.next_word-3.result.1 ≡ priority ∷ parts_behind 32 c.next_word-4.result.1 = ap (parts_behind 32) c.in_ok-rest-3.was ∙ c.next_word-4.ensures in
    let second : parts_behind 32 c.next_word-2.result.1 ≡ len ∷ parts_behind 32 c.next_word-3.result.1 = ap (parts_behind 32) c.in_ok-rest-2.was ∙ c.next_word-3.ensures in
    let first : parts_behind 32 c.next_word.result.1 ≡ at ∷ parts_behind 32 c.next_word-2.result.1 = ap (parts_behind 32) c.in_ok-rest.was ∙ c.next_word-2.ensures in
    let words = c.next_word.ensures ∙ ap (λ v. word ∷ v) (first ∙ ap (λ v. at ∷ v) (second ∙ ap (λ v. len ∷ v) third)) in
    more_parts line word at len priority c.next_word-4.result.1 (sym c.is_some.ensures ∙ c.if-is_some.true) words shape
