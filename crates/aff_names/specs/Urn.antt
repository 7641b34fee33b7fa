-- URNs, as the lists of their bytes.
use Rattle.std.specs.Prelude.{◌≡◌, ◌<◌, ◌≤◌, ◌-◌, ◌==◌, ℕ, Bool, true, false, ⊤, List, [], ◌∷◌, ◌++◌, Option, Some, None, codes, slice_get, if◌then◌else◌}
use Rattle.aff_spec.specs.Words.{is_uuid, fits_uuid}

-- the text begins with `aff4://`
pub record HasScheme (text : List ℕ) : Type 0 where
  pub rest : List ℕ
  pub is : text ≡ codes "aff4://" ++ rest

-- what may stand behind the uuid: nothing, or a `/` with any text
abbrev pub IsPath : List ℕ → Type 0
IsPath [] = ⊤
IsPath (b ∷ bytes) = b ≡ 47

-- a URN: `aff4://`, a uuid, and nothing or a `/` with any text
pub record IsUrn (text : List ℕ) : Type 0 where
  pub uuid : List ℕ
  pub path : List ℕ
  pub is : text ≡ codes "aff4://" ++ (uuid ++ path)
  pub uuid_is : is_uuid uuid ≡ true
  pub path_is : IsPath path

-- a URN may have this byte at this place behind the scheme, or may end there; 43 is the place behind the uuid
abbrev pub may_be_at : ℕ → Option ℕ → Bool
may_be_at at None = at == 43
may_be_at at (Some b) = if at == 43 then b == 47 else fits_uuid (at - 7) b

-- the least place from 7 to 43 at which the text is not as a URN is
pub record IsFirstBad (text : List ℕ) (at : ℕ) : Type 0 where
  pub low : 7 ≤ at
  pub high : at ≤ 43
  pub bad : may_be_at at (slice_get text at) ≡ false
  pub before : (k : ℕ) → 7 ≤ k → k < at → may_be_at k (slice_get text k) ≡ true
