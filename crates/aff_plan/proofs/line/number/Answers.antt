use Rattle.std.proofs.Common.{◌≡◌, ℕ, Ok, subst, sym, ◌∙◌}
use Rattle.std.specs.Str.{IsUtf8}
use Rattle.std.specs.Str.Parse.{ParsesUnsigned}
use Rattle.std.proofs.lemmas.Str.{IsUtf8-from_ascii}
use Rattle.std.proofs.lemmas.Fmt.{parse-decimal, IsAscii-decimal}
use Rattle.aff_plan.proofs.Numbers.{lead_of, no_sign, no_zeros, number_read}
use Rattle.aff_plan.proofs.line.number.Goals as goal

pub returns-then-has_sign : goal.returns-then-has_sign
returns-then-has_sign c = no_sign c.args.field.now (c.has_sign.ensures.0 c.if-has_sign.true)

pub returns-then-has_leading_zero : goal.returns-then-has_leading_zero
returns-then-has_leading_zero c =
    let lead = c.has_leading_zero.ensures.0 c.if-has_leading_zero.true in
    no_zeros c.args.field.now lead.0 lead.1

pub returns-in-Ok-parse : goal.returns-in-Ok-parse
returns-in-Ok-parse c =
    let read = subst (λ r. ParsesUnsigned 64 10 c.in-Ok.text.now r) c.in-Ok-parse.is c.parse.ensures.value.0 in
    let whole = subst (λ t. ParsesUnsigned {E = ℕ} 64 10 t (Ok c.in-Ok-parse.number)) c.in-Ok.ensures.cases.0 read in
    number_read c.args.field.now c.in-Ok-parse.number whole
    (λ sign. let t = c.has_sign.ensures.1 sign in cc (t, c.if-has_sign.false))
    (lead_of c.args.field.now (λ lead. let t = c.has_leading_zero.ensures.1 lead in cc (t, c.if-has_leading_zero.false)))

pub returns-in-Err-parse : goal.returns-in-Err-parse
returns-in-Err-parse c = λ n is.
    let r : c.parse.result ≡ Ok n = parse-decimal 64 n c.in-Ok.text.now c.parse.result is.0 is.0 (c.in-Ok.ensures.cases.0 ∙ is.1) c.parse.ensures.value.0 in
    cc (c.in-Err-parse.is, r)

pub returns-in-Err : goal.returns-in-Err
returns-in-Err c = λ n is. absurd (c.in-Err.ensures.cases.0 (subst IsUtf8 (sym is.1) (IsUtf8-from_ascii _ (IsAscii-decimal n is.0))))
