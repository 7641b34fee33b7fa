use Rattle.std.proofs.Common.{ap}
use Rattle.aff_script.specs.Line.{fields_of}
use Rattle.aff_script.proofs.Forms.{some_field}
use Rattle.aff_script.proofs.line.fields.Goals as goal

pub returns-in-Some : goal.returns-in-Some
returns-in-Some c = λ a b there is.
    some_field c.args.rest c.in-Some.field-0 (fields_of c.args.form a b) c.in-Some.is (ap (λ f. fields_of f a b) c.in-Session.is) is

pub returns-in-Some-rest : goal.returns-in-Some-rest
returns-in-Some-rest c = λ a b there is.
    some_field c.args.rest c.in-Some-rest.field-0 (fields_of c.args.form a b) c.in-Some-rest.is (ap (λ f. fields_of f a b) c.in-After.is) is
