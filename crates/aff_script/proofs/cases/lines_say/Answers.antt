use Rattle.std.proofs.Common.{[], ◌∷◌, arith, codes, sym}
use Rattle.std.proofs.lemmas.Fmt.{decimal_digit}
use Rattle.aff_script.proofs.cases.lines_say.Goals as goal

pub returns-clause-read : goal.returns-clause-read
returns-clause-read c = record { words = sym (λ i. codes "read" ∷ decimal_digit 4 (omega arith) i ∷ decimal_digit 6 (omega arith) i ∷ []); fits = (omega arith, omega arith) }

pub returns-clause-raise : goal.returns-clause-raise
returns-clause-raise c = record { words = sym (λ i. codes "raise" ∷ decimal_digit 0 (omega arith) i ∷ decimal_digit 9 (omega arith) i ∷ []); fits = (omega arith, omega arith) }

pub returns-clause-waits : goal.returns-clause-waits
returns-clause-waits c = record { words = sym (λ i. codes "await" ∷ decimal_digit 2 (omega arith) i ∷ []); fits = omega arith }
