-- A URN, place by place.
use Rattle.std.proofs.Common.{◌≡◌, ℕ, zero, suc, ◌+◌, ◌-◌, ◌≤◌, ◌<◌, true, false, cond, List, [], ◌∷◌, ◌++◌, refl, sym, ap, subst, ◌∙◌, arith, codes, length, eqb-true, eq-eqb, ne_eqb}
use Rattle.std.specs.Prelude.{◌==◌, Some, slice_get, slice_index}
use Rattle.std.proofs.lemmas.Bool.{and_parts, and_from, cond-false}
use Rattle.aff_spec.specs.Words.{uuid_from, fits_uuid, is_dash_place, is_hex}
use Rattle.aff_names.specs.Urn.{HasScheme, IsPath, IsUrn, may_be_at}

-- the places of a uuid are 0 to 35
pub uuid_ends : (k : ℕ) (bytes : List ℕ) → uuid_from k bytes ≡ true → k + length bytes ≡ 36
uuid_ends k [] h = let e : k ≡ 36 = eqb-true k 36 h in omega arith
uuid_ends k (b ∷ bytes) h =
    let rest = uuid_ends (k + 1) bytes (and_parts (fits_uuid k b) (uuid_from (k + 1) bytes) h).1 in
    omega arith

-- a place of the uuid has a byte, which fits
at_digit : (k b : ℕ) → k < 36 → may_be_at (7 + k) (Some b) ≡ fits_uuid k b
at_digit k b low =
    let back : 7 + k - 7 ≡ k = omega arith in
    cond-false (7 + k == 43) (b == 47) (fits_uuid (7 + k - 7) b) (ne_eqb (7 + k) 43 (λ e. omega arith)) ∙ ap (λ i. fits_uuid i b) back

path_at : (path : List ℕ) → IsPath path → may_be_at 43 (slice_get path 0) ≡ true
path_at [] h = refl
path_at (b ∷ path) h = eq-eqb b 47 h

path_from : (path : List ℕ) → may_be_at 43 (slice_get path 0) ≡ true → IsPath path
path_from [] h = tt
path_from (b ∷ path) h = eqb-true b 47 h

-- a uuid from place k on, and a path behind it
record Parts (k : ℕ) (bytes : List ℕ) : Type 0 where
  uuid : List ℕ
  path : List ℕ
  is : bytes ≡ uuid ++ path
  uuid_is : uuid_from k uuid ≡ true
  path_is : IsPath path

parts_from : (n k : ℕ) (bytes : List ℕ) → k + n ≡ 36 → ((j : ℕ) → j ≤ n → may_be_at (7 + (k + j)) (slice_get bytes j) ≡ true) → Parts k bytes
parts_from zero k bytes e h =
    let place : 7 + (k + 0) ≡ 43 = omega arith in
    record {
      uuid = [];
      path = bytes;
      is = refl;
      uuid_is = eq-eqb k 36 (omega arith);
      path_is = path_from bytes (subst (λ at. may_be_at at (slice_get bytes 0) ≡ true) place (h 0 (omega arith)));
    }
parts_from (suc n) k [] e h =
    let place : 7 + (k + 0) ≡ 43 = eqb-true (7 + (k + 0)) 43 (h 0 (omega arith)) in
    absurd (omega arith)
parts_from (suc n) k (b ∷ bytes) e h =
    let none : k + 0 ≡ k = omega arith in
    let here : may_be_at (7 + k) (Some b) ≡ true = subst (λ i. may_be_at (7 + i) (Some b) ≡ true) none (h 0 (omega arith)) in
    let rest = parts_from n (k + 1) bytes (omega arith) (λ j below. let next : k + suc j ≡ k + 1 + j = omega arith in subst (λ i. may_be_at (7 + i) (slice_get bytes j) ≡ true) next (h (suc j) (omega arith))) in
    record {
      uuid = b ∷ rest.uuid;
      path = rest.path;
      is = ap (λ v. b ∷ v) rest.is;
      uuid_is = and_from (fits_uuid k b) (uuid_from (k + 1) rest.uuid) (sym (at_digit k b (omega arith)) ∙ here) rest.uuid_is;
      path_is = rest.path_is;
    }

parts_at : (k : ℕ) (uuid path : List ℕ) → uuid_from k uuid ≡ true → IsPath path → (j : ℕ) → k + j ≤ 36 → may_be_at (7 + (k + j)) (slice_get (uuid ++ path) j) ≡ true
parts_at k [] path h p zero below =
    let end : k ≡ 36 = eqb-true k 36 h in
    let place : 43 ≡ 7 + (k + 0) = omega arith in
    subst (λ at. may_be_at at (slice_get path 0) ≡ true) place (path_at path p)
parts_at k [] path h p (suc j) below = let end : k ≡ 36 = eqb-true k 36 h in absurd (omega arith)
parts_at k (b ∷ uuid) path h p zero below =
    let ends = uuid_ends k (b ∷ uuid) h in
    let none : k ≡ k + 0 = omega arith in
    let fits = at_digit k b (omega arith) ∙ (and_parts (fits_uuid k b) (uuid_from (k + 1) uuid) h).0 in
    subst (λ i. may_be_at (7 + i) (Some b) ≡ true) none fits
parts_at k (b ∷ uuid) path h p (suc j) below =
    let next : k + 1 + j ≡ k + suc j = omega arith in
    subst (λ i. may_be_at (7 + i) (slice_get (uuid ++ path) j) ≡ true) next (parts_at (k + 1) uuid path (and_parts (fits_uuid k b) (uuid_from (k + 1) uuid) h).1 p j (omega arith))

-- behind the scheme, places count from 7 on
behind_scheme : (bytes : List ℕ) (j : ℕ) → slice_get (codes "aff4://" ++ bytes) (7 + j) ≡ slice_get bytes j
behind_scheme bytes j = let e : 7 + j ≡ suc (suc (suc (suc (suc (suc (suc j)))))) = omega arith in rw e refl

-- all places from 7 to 43 are as a URN has them
abbrev pub IsGood : List ℕ → Type 0
IsGood text = (k : ℕ) → 7 ≤ k → k ≤ 43 → may_be_at k (slice_get text k) ≡ true

good_is_urn : (bytes : List ℕ) → IsGood (codes "aff4://" ++ bytes) → IsUrn (codes "aff4://" ++ bytes)
good_is_urn bytes good =
    let fits = λ (j : ℕ) (below : j ≤ 36). let none : j ≡ 0 + j = omega arith in subst (λ i. may_be_at (7 + i) (slice_get bytes j) ≡ true) none (ap (may_be_at (7 + j)) (sym (behind_scheme bytes j)) ∙ good (7 + j) (omega arith) (omega arith)) in
    let parts = parts_from 36 0 bytes refl fits in
    record {
      uuid = parts.uuid;
      path = parts.path;
      is = ap (λ v. codes "aff4://" ++ v) parts.is;
      uuid_is = parts.uuid_is;
      path_is = parts.path_is;
    }

pub urn_from_good : (text : List ℕ) → HasScheme text → IsGood text → IsUrn text
urn_from_good text scheme good = subst IsUrn (sym scheme.is) (good_is_urn scheme.rest (subst IsGood scheme.is good))

parts_are_good : (uuid path : List ℕ) → uuid_from 0 uuid ≡ true → IsPath path → IsGood (codes "aff4://" ++ (uuid ++ path))
parts_are_good uuid path h p k low high =
    let here : 7 + (k - 7) ≡ k = omega arith in
    let none : 0 + (k - 7) ≡ k - 7 = omega arith in
    let shown = subst (λ i. may_be_at (7 + i) (slice_get (uuid ++ path) (k - 7)) ≡ true) none (parts_at 0 uuid path h p (k - 7) (omega arith)) in
    subst (λ i. may_be_at i (slice_get (codes "aff4://" ++ (uuid ++ path)) i) ≡ true) here (ap (may_be_at (7 + (k - 7))) (behind_scheme (uuid ++ path) (k - 7)) ∙ shown)

pub good_from_urn : (text : List ℕ) → IsUrn text → IsGood text
good_from_urn text urn = subst IsGood (sym urn.is) (parts_are_good urn.uuid urn.path urn.uuid_is urn.path_is)

-- each byte of a uuid is below 128
fit_is_ascii : (k b : ℕ) → fits_uuid k b ≡ true → b < 128
fit_is_ascii k b fits =
    elim (is_dash_place k) as (λ t. cond t (b == 45) (is_hex b) ≡ true → b < 128) [
      | true ↦ λ e. grind (arith, e)
      | false ↦ λ e. grind (arith, e)
    ] fits

pub uuid_is_ascii : (k : ℕ) (bytes : List ℕ) → uuid_from k bytes ≡ true → (i : ℕ) → slice_index bytes i < 128
uuid_is_ascii k [] h i = omega arith
uuid_is_ascii k (b ∷ bytes) h zero = fit_is_ascii k b (and_parts (fits_uuid k b) (uuid_from (k + 1) bytes) h).0
uuid_is_ascii k (b ∷ bytes) h (suc i) = uuid_is_ascii (k + 1) bytes (and_parts (fits_uuid k b) (uuid_from (k + 1) bytes) h).1 i
