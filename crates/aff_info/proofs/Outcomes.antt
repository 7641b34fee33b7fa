-- What was read beside what the statements say.
use Rattle.std.proofs.Common.{◌≡◌, List, Result, Ok, Err, refl, sym, ◌∙◌}
use Rattle.std.specs.Prelude.{IfOk, IfErr, IsErr, IsOkUnless}
use Rattle.aff_turtle.specs.Triples.{Fact}
use Rattle.aff_info.specs.Table.{names}
use Rattle.aff_info.specs.Faults.{InfoFault, Missing, Twice, BadValue, Method, Fails}
use Rattle.aff_info.specs.Found.{Found}
use Rattle.aff_info.specs.Reading.{nothing, runs, IsInfo, IsInfoFault, IsError}
use Rattle.aff_info.specs.declared.draft.PartialInfo.{PartialInfo}
use Rattle.aff_info.specs.declared.error.InfoError.{InfoError}
use Rattle.aff_info.specs.declared.error.InfoError.TheVariants as errors

no_fault : {P : Type 0} (d : PartialInfo) (outcome : Result PartialInfo InfoFault) (fault : InfoFault) → outcome ≡ Ok d → outcome ≡ Err fault → P
no_fault d (Ok x) fault e f = absurd cc
no_fault d (Err g) fault e f = absurd cc

memory_alone : (d : PartialInfo) (outcome : Result PartialInfo InfoFault) (e : InfoError) → outcome ≡ Ok d → Fails outcome e → e ≡ errors.Memory
memory_alone d outcome errors.Memory h f = refl
memory_alone d outcome (errors.Missing n) h f = no_fault d outcome (Missing n) h f
memory_alone d outcome (errors.Twice n) h f = no_fault d outcome (Twice n) h f
memory_alone d outcome (errors.BadValue n) h f = no_fault d outcome (BadValue n) h f
memory_alone d outcome (errors.Method iri) h f = no_fault d outcome _ h f

pub is_taken : (facts : List Fact) (found : Found) (r : Result Found InfoError) → IfErr r (λ e. IsError facts e) → IsInfo facts found → IsOkUnless r errors.Memory
is_taken facts found (Ok x) h i = tt
is_taken facts found (Err e) h i = memory_alone i.draft (runs names facts nothing) e i.read h

pub is_told : (facts : List Fact) (fault : InfoFault) (r : Result Found InfoError) → IfOk r (λ found. IsInfo facts found) → IsInfoFault facts fault → IsErr r
is_told facts fault (Ok x) h f = no_fault h.draft (runs names facts nothing) fault h.read f
is_told facts fault (Err e) h f = refl
