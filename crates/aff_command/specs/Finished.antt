-- The words of the commands over a finished volume.
use Rattle.std.specs.Prelude.{◌≡◌, ◌≢◌, ℕ, ◌<◌, ◌^◌, List, [], ◌∷◌, codes}
use Rattle.std.specs.Fmt.{decimal}
use Rattle.aff_plan.specs.Line.{IsNumber}
use Rattle.aff_command.specs.declared.wanted.Offline.{Offline}
use Rattle.aff_command.specs.declared.wanted.Offline.TheVariants.{Read, Info, Verify}

-- a command and a folder
pub record IsOfFolder (command : List ℕ) (words : List (List ℕ)) : Type 0 where
  pub folder : List ℕ
  pub are : words ≡ command ∷ folder ∷ []
  pub full : folder ≢ []

-- `read FOLDER AT LEN`: numbers in decimal without a sign and without leading zeros, of 64 bits
pub record IsRead (at len : ℕ) (words : List (List ℕ)) : Type 0 where
  pub folder : List ℕ
  pub are : words ≡ codes "read" ∷ folder ∷ decimal at ∷ decimal len ∷ []
  pub full : folder ≢ []
  pub at_fits : at < 2 ^ 64
  pub len_fits : len < 2 ^ 64

-- the words ask this of a finished volume
abbrev pub IsOffline : Offline → List (List ℕ) → Type 0
IsOffline (Read at len) words = IsRead at len words
IsOffline Info words = IsOfFolder (codes "info") words
IsOffline Verify words = IsOfFolder (codes "verify") words

-- the words ask something of a finished volume
abbrev pub AreOffline : List (List ℕ) → Type 0
AreOffline words = (asked : Offline) × IsOffline asked words

-- a first word of two asks this
abbrev pub IsNamed : Offline → List ℕ → Type 0
IsNamed (Read at len) command = ⊥
IsNamed Info command = command ≡ codes "info"
IsNamed Verify command = command ≡ codes "verify"

-- a first word and two numbers behind the folder ask this
abbrev pub IsRange : Offline → List ℕ → List ℕ → List ℕ → Type 0
IsRange (Read at len) command first second = (command ≡ codes "read") × IsNumber first at × IsNumber second len
IsRange Info command first second = ⊥
IsRange Verify command first second = ⊥
