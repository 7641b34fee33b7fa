-- The words of a command line.
use Rattle.std.specs.Prelude.{◌≡◌, ◌≢◌, ◌⊎◌, ℕ, true, List, [], ◌∷◌, All, codes}
use Rattle.aff_model.specs.declared.limits.TheConstants.{SECTOR, LARGE_BLOCK}
use Rattle.aff_spec.specs.Words.{is_uuid}

-- the command that acquires by blocks of so many bytes
abbrev pub IsCommand : ℕ → List ℕ → Type 0
IsCommand block command = ((block ≡ SECTOR) × (command ≡ codes "acquire")) ⊎ ((block ≡ LARGE_BLOCK) × (command ≡ codes "acquire4k"))

-- `acquire FOLDER UUID DEVICE..` or `acquire4k FOLDER UUID DEVICE..`, with one or more devices, and with no empty word
pub record IsAcquire (block : ℕ) (words : List (List ℕ)) : Type 0 where
  pub command : List ℕ
  pub folder : List ℕ
  pub uuid : List ℕ
  pub device : List ℕ
  pub others : List (List ℕ)
  pub are : words ≡ command ∷ folder ∷ uuid ∷ device ∷ others
  pub is_command : IsCommand block command
  pub uuid_is : is_uuid uuid ≡ true
  pub full : All (λ word. word ≢ []) words

-- the words are those of an acquisition, with blocks of either size
abbrev pub AreAcquire : List (List ℕ) → Type 0
AreAcquire words = (block : ℕ) × IsAcquire block words

-- the third word
abbrev pub uuid_of : List (List ℕ) → List ℕ
uuid_of (command ∷ folder ∷ uuid ∷ words) = uuid
uuid_of words = []
