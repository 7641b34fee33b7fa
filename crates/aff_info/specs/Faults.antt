-- What keeps triples from being metadata.
use Rattle.std.specs.Prelude.{◌≡◌, ℕ, List, Result, Ok, Err}
use Rattle.std.specs.String.{string_bytes}
use Rattle.aff_info.specs.declared.draft.PartialInfo.{PartialInfo}
use Rattle.aff_info.specs.declared.error.InfoError.{InfoError}
use Rattle.aff_info.specs.declared.error.InfoError.TheVariants as errors
use Rattle.aff_info.specs.declared.name.InfoName.{InfoName}
use Rattle.aff_names.specs.declared.error.NameError.{NameError}
use Rattle.aff_names.specs.declared.error.NameError.TheVariants as texts

pub data InfoFault : Type 0 where
  Missing : InfoName → InfoFault
  Twice : InfoName → InfoFault
  BadValue : InfoName → InfoFault
  -- the IRI of a method
  Method : List ℕ → InfoFault

-- a step, and what follows where it succeeds
abbrev pub and_then : {A B : Type 0} → Result A InfoFault → (A → Result B InfoFault) → Result B InfoFault
and_then (Ok x) rest = rest x
and_then (Err fault) rest = Err fault

-- an error is this outcome's fault, unless memory ran out
abbrev pub Fails : {A : Type 0} → Result A InfoFault → InfoError → Type 0
Fails outcome errors.Memory = Unit {0}
Fails outcome (errors.Missing name) = outcome ≡ Err (Missing name)
Fails outcome (errors.Twice name) = outcome ≡ Err (Twice name)
Fails outcome (errors.BadValue name) = outcome ≡ Err (BadValue name)
Fails outcome (errors.Method iri) = outcome ≡ Err (Method (string_bytes iri))

-- what was returned is this outcome, unless memory ran out
abbrev pub Gives : {A : Type 0} → Result A InfoFault → Result A InfoError → Type 0
Gives outcome (Ok x) = outcome ≡ Ok x
Gives outcome (Err e) = Fails outcome e

-- the same, where what was found is left in the draft
abbrev pub Tells : {A : Type 0} → Result PartialInfo InfoFault → Result A InfoError → PartialInfo → Type 0
Tells outcome (Ok x) draft = outcome ≡ Ok draft
Tells outcome (Err e) draft = Fails outcome e

-- a text that is no URN is a bad value
abbrev pub error_of : InfoName → NameError → InfoError
error_of name texts.NoScheme = errors.BadValue name
error_of name (texts.BadUuid at) = errors.BadValue name
error_of name texts.Memory = errors.Memory
