-- Outcomes of a step and of what follows it.
use Rattle.std.proofs.Common.{◌≡◌, ℕ, List, Result, Ok, Err, refl, sym, ap, ◌∙◌}
use Rattle.aff_info.specs.declared.draft.PartialInfo.{PartialInfo}
use Rattle.aff_info.specs.declared.error.InfoError.{InfoError}
use Rattle.aff_info.specs.declared.error.InfoError.TheVariants as errors
use Rattle.aff_info.specs.Faults.{InfoFault, and_then, Fails, Gives, Tells}

then_fault : {A B : Type 0} (outcome : Result A InfoFault) (rest : A → Result B InfoFault) (fault : InfoFault) → outcome ≡ Err fault → and_then outcome rest ≡ Err fault
then_fault (Ok x) rest fault h = absurd cc
then_fault (Err f) rest fault h = cc

-- what fails at a step fails whatever follows
pub fails_then : {A B : Type 0} (outcome : Result A InfoFault) (rest : A → Result B InfoFault) (e : InfoError) → Fails outcome e → Fails (and_then outcome rest) e
fails_then outcome rest errors.Memory h = tt
fails_then outcome rest (errors.Missing name) h = then_fault outcome rest _ h
fails_then outcome rest (errors.Twice name) h = then_fault outcome rest _ h
fails_then outcome rest (errors.BadValue name) h = then_fault outcome rest _ h
fails_then outcome rest (errors.Method iri) h = then_fault outcome rest _ h

-- a test that leaves what is known
pub tells_same : (outcome : Result (Unit {0}) InfoFault) (r : Result (Unit {0}) InfoError) (d : PartialInfo) → Gives outcome r → Tells (and_then outcome (λ _. Ok d)) r d
tells_same outcome (Ok x) d h = rw h refl
tells_same outcome (Err e) d h = fails_then outcome (λ _. Ok d) e h
