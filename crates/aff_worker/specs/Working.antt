-- What a worker leaves of its claims.
use Rattle.std.specs.Prelude.{◌⊎◌, ℕ, Contains}
use Rattle.aff_claim.specs.declared.view.PassView.{PassView}
use Rattle.aff_claim.specs.declared.word.Word.TheVariants.{Published}

-- the pass had the extent before, or has found it published under its own number
abbrev pub HasFound : PassView → PassView → ℕ → Type 0
HasFound old new e = Contains old.mine e ⊎ Contains new.found (e, Published old.number)
