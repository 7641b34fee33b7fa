-- Why a text is no URN.
use Rattle.std.specs.Prelude.{ℕ, List}
use Rattle.aff_names.specs.Urn.{HasScheme, IsFirstBad}
use Rattle.aff_names.specs.declared.error.NameError.{NameError}
use Rattle.aff_names.specs.declared.error.NameError.TheVariants.{NoScheme, BadUuid, Memory}

-- this is what is wrong with the text; want of memory is never the text's fault
abbrev pub IsNameFault : List ℕ → NameError → Type 0
IsNameFault text NoScheme = ¬ HasScheme text
IsNameFault text (BadUuid at) = HasScheme text × IsFirstBad text at
IsNameFault text Memory = ⊥
