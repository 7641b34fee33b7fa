-- How readable and unreadable bytes are counted.
use Rattle.std.specs.Prelude.{ℕ, ◌+◌, ◌*◌, ◌-◌, ◌^◌, List, [], ◌∷◌, ◌++◌, length, min, codes}
use Rattle.std.specs.Fmt.{decimal}
use Rattle.aff_model.specs.declared.limits.TheConstants.{SECTOR}
use Rattle.aff_model.specs.Shown.{Shown}

-- how many bytes of a piece could not be read, and how many could be
abbrev pub unreadable_in : Shown → ℕ
unreadable_in piece = SECTOR * length piece.bad

abbrev pub readable_in : Shown → ℕ
readable_in piece = piece.len - unreadable_in piece

-- a count goes up to 2^64 - 1 and stays there
abbrev pub counted : ℕ → ℕ → ℕ
counted count more = min (count + more) (2 ^ 64 - 1)

-- the rule of a tally: its state is the readable bytes and the unreadable ones, and each piece adds its own
abbrev pub tally_rule : List ℕ → Shown → List ℕ → List ℕ
tally_rule [] piece bytes = []
tally_rule (readable ∷ []) piece bytes = readable ∷ []
tally_rule (readable ∷ unreadable ∷ more) piece bytes = counted readable (readable_in piece) ∷ counted unreadable (unreadable_in piece) ∷ more

-- `readable R unreadable U`, in decimal digits
abbrev pub tally_text : List ℕ → List ℕ
tally_text [] = []
tally_text (readable ∷ []) = []
tally_text (readable ∷ unreadable ∷ more) = codes "readable " ++ (decimal readable ++ (codes " unreadable " ++ decimal unreadable))
