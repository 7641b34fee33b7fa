-- The targets of a volume: the lines of their list, and what the stream reads as.
use Rattle.std.proofs.Common.{◌≡◌, ℕ, ◌+◌, true, false, ◌==◌, cond, List, [], ◌∷◌, ◌++◌, refl, ap, arith, codes}
use Rattle.std.specs.Prelude.{Option, Some, None, slice_get, All, if◌then◌else◌}
use Rattle.std.specs.Option.{option_map}
use Rattle.std.specs.Str.{bytes_eq}
use Rattle.std.specs.List.{AllByRecursion}
use Rattle.std.proofs.lemmas.Bool.{and_parts}
use Rattle.std.proofs.lemmas.List.Elements.{All-append, All-from_recursion}
use Rattle.std.proofs.lemmas.List.Splits.{slice_split_at}
use Rattle.aff_model.specs.declared.cell.Cell.{Cell}
use Rattle.aff_model.specs.declared.cell.Cell.TheVariants.{Byte, Unreadable, Unknown}
use Rattle.aff_model.specs.Held.{Held}
use Rattle.aff_model.proofs.HeldLaws.{bytes_eq_same}
use Rattle.aff_spec.specs.Names.{stream_urn, zero_iri, unknown_iri, unreadable_iri}
use Rattle.aff_spec.specs.Words.{is_uuid, uuid_from, fits_uuid, is_dash_place, is_hex}
use Rattle.aff_spec.specs.Streams.{stream_byte}
use Rattle.aff_spec.specs.Symbols.{unknown_byte, unreadable_byte}
use Rattle.aff_spec.specs.Lines.{lines_of}
use Rattle.aff_spec.specs.Volumes.{volume_of, targets_text, target_cell, target_byte}

-- a uuid has no line feed
no_feed : (k b : ℕ) → fits_uuid k b ≡ true → (b == 10) ≡ false
no_feed k b fits =
    elim (is_dash_place k) as (λ t. cond t (b == 45) (is_hex b) ≡ true → (b == 10) ≡ false) [
      | true ↦ λ e. grind (arith, e)
      | false ↦ λ e. hex_no_feed b e
    ] fits
  where
    hex_no_feed : (b : ℕ) → is_hex b ≡ true → (b == 10) ≡ false
    hex_no_feed b hex = grind (arith, hex)

no_feeds : (k : ℕ) (bytes : List ℕ) → uuid_from k bytes ≡ true → AllByRecursion (λ b. (b == 10) ≡ false) bytes
no_feeds k [] h = tt
no_feeds k (b ∷ bytes) h =
    let parts = and_parts (fits_uuid k b) (uuid_from (k + 1) bytes) h in
    (no_feed k b parts.0, no_feeds (k + 1) bytes parts.1)

-- the two constant targets, each on a line
abbrev symbols_text : List ℕ
symbols_text = zero_iri ++ (codes "\n" ++ (unreadable_iri ++ codes "\n"))

-- the lines of the list of targets: the stream, then the lines of the constant rest
target_lines : (uuid : List ℕ) → is_uuid uuid ≡ true → lines_of (targets_text (stream_urn uuid)) ≡ stream_urn uuid ∷ lines_of symbols_text
unfolding targets_text
target_lines uuid ok =
    let P : ℕ → Type 0 = λ b. (b == 10) ≡ false in
    let front : All P (codes "aff4://") = All-from_recursion P (codes "aff4://") (refl, (refl, (refl, (refl, (refl, (refl, (refl, tt))))))) in
    let back : All P (codes "/data") = All-from_recursion P (codes "/data") (refl, (refl, (refl, (refl, (refl, tt))))) in
    let clean : All P (stream_urn uuid) = All-append P (codes "aff4://") (uuid ++ codes "/data") front (All-append P uuid (codes "/data") (All-from_recursion P uuid (no_feeds 0 uuid ok)) back) in
    slice_split_at (λ b. b == 10) (stream_urn uuid) 10 symbols_text clean refl

-- target k of a volume
module _ (uuid : List ℕ) (ok : is_uuid uuid ≡ true) where
  pub first_target : slice_get (lines_of (targets_text (stream_urn uuid))) 0 ≡ Some (stream_urn uuid)
  first_target = ap (λ v. slice_get v 0) (target_lines uuid ok)

  pub second_target : slice_get (lines_of (targets_text (stream_urn uuid))) 1 ≡ Some zero_iri
  second_target = ap (λ v. slice_get v 1) (target_lines uuid ok)

  pub third_target : slice_get (lines_of (targets_text (stream_urn uuid))) 2 ≡ Some unreadable_iri
  third_target = ap (λ v. slice_get v 2) (target_lines uuid ok)

-- what the stream reads as, as a target of the volume: that of the constant targets computes
module _ (held : Held) (uuid : List ℕ) where
  pub stream_cell : (place : ℕ) → target_cell held (volume_of uuid) (stream_urn uuid) place ≡ option_map Byte (stream_byte held (stream_urn uuid) place)
  stream_cell place = ap (λ t. cond t (option_map Byte (stream_byte held (stream_urn uuid) place)) other) (bytes_eq_same (stream_urn uuid))
    where
      other : Option Cell
      other = if bytes_eq (stream_urn uuid) zero_iri then Some (Byte 0) else (if bytes_eq (stream_urn uuid) unreadable_iri then Some Unreadable else (if bytes_eq (stream_urn uuid) unknown_iri then Some Unknown else None))

  pub stream_byte_of : (place : ℕ) → target_byte held (volume_of uuid) (stream_urn uuid) place ≡ stream_byte held (stream_urn uuid) place
  stream_byte_of place = ap (λ t. cond t (stream_byte held (stream_urn uuid) place) other) (bytes_eq_same (stream_urn uuid))
    where
      other : Option ℕ
      other = if bytes_eq (stream_urn uuid) zero_iri then Some 0 else (if bytes_eq (stream_urn uuid) unreadable_iri then Some (unreadable_byte place) else (if bytes_eq (stream_urn uuid) unknown_iri then Some (unknown_byte place) else None))
