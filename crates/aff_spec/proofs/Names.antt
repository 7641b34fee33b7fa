-- Names of segments: what they are for a uuid, and that they differ.
use Rattle.std.proofs.Common.{◌≡◌, ℕ, ◌+◌, ◌/◌, ◌%◌, true, false, ◌==◌, List, [], ◌∷◌, ◌++◌, refl, sym, ap, ◌∙◌, cond, arith, codes, append_assoc}
use Rattle.std.specs.Prelude.{◌≢◌}
use Rattle.std.specs.List.{flat_map}
use Rattle.std.specs.Str.{bytes_eq}
use Rattle.std.proofs.lemmas.Bool.{and_parts}
use Rattle.aff_model.proofs.HeldLaws.{bytes_eq_same}
use Rattle.aff_spec.specs.Names.{percent_encoded, is_plain, hex_digit, image_urn, map_name, idx_name}
use Rattle.aff_spec.specs.Words.{is_uuid, uuid_from, fits_uuid, is_dash_place, is_hex}

dash_is_plain : (b : ℕ) → (b == 45) ≡ true → is_plain b ≡ true
dash_is_plain b dash = grind (arith, dash)

hex_is_plain : (b : ℕ) → is_hex b ≡ true → is_plain b ≡ true
hex_is_plain b hex = grind (arith, hex)

uuid_byte_is_plain : (k b : ℕ) → fits_uuid k b ≡ true → is_plain b ≡ true
uuid_byte_is_plain k b fits =
    elim (is_dash_place k) as (λ t. cond t (b == 45) (is_hex b) ≡ true → is_plain b ≡ true) [
      | true ↦ λ e. dash_is_plain b e
      | false ↦ λ e. hex_is_plain b e
    ] fits

-- a uuid stands in a folder's name as it is
escaped_uuid : (k : ℕ) (bytes tail : List ℕ) → uuid_from k bytes ≡ true → flat_map percent_encoded (bytes ++ tail) ≡ bytes ++ flat_map percent_encoded tail
escaped_uuid k [] tail h = refl
escaped_uuid k (b ∷ bytes) tail h =
    let parts = and_parts (fits_uuid k b) (uuid_from (k + 1) bytes) h in
    let plain : is_plain b ≡ true = uuid_byte_is_plain k b parts.0 in
    ap (λ t. cond t (b ∷ []) (37 ∷ hex_digit (b / 16) ∷ hex_digit (b % 16) ∷ []) ++ flat_map percent_encoded (bytes ++ tail)) plain
    ∙ ap (λ v. b ∷ v) (escaped_uuid (k + 1) bytes tail parts.1)

-- what stands before the uuid in each name
abbrev front : List ℕ
front = codes "aff4%3A%2F%2F"

-- a name in full
abbrev pub name_with : List ℕ → List ℕ → List ℕ
name_with uuid tail = codes "aff4%3A%2F%2F" ++ (uuid ++ tail)

module _ (uuid : List ℕ) (ok : is_uuid uuid ≡ true) where
  pub map_name_is : map_name (image_urn uuid) ≡ name_with uuid (codes "%2Fimage/map")
  map_name_is = ap (λ v. (front ++ v) ++ codes "/map") (escaped_uuid 0 uuid (codes "/image") ok) ∙ ap (λ v. front ++ v) (append_assoc uuid (codes "%2Fimage") (codes "/map"))

  pub idx_name_is : idx_name (image_urn uuid) ≡ name_with uuid (codes "%2Fimage/idx")
  idx_name_is = ap (λ v. (front ++ v) ++ codes "/idx") (escaped_uuid 0 uuid (codes "/image") ok) ∙ ap (λ v. front ++ v) (append_assoc uuid (codes "%2Fimage") (codes "/idx"))

-- a test that computes shows two texts apart
pub apart_by : (xs ys : List ℕ) → bytes_eq xs ys ≡ false → xs ≢ ys
apart_by xs ys test e =
    let same : bytes_eq xs ys ≡ true = ap (λ v. bytes_eq xs v) (sym e) ∙ bytes_eq_same xs in
    cc (test, same)
