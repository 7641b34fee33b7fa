-- The bytes of an image by the entries of its map, and by the gaps between them.
use Rattle.std.proofs.Common.{◌≡◌, ℕ, ◌+◌, ◌-◌, true, List, ap, ◌∙◌}
use Rattle.std.specs.Prelude.{Option, Some, None, find, slice_get}
use Rattle.std.specs.Option.{option_map, option_and_then}
use Rattle.aff_model.specs.Held.{Held}
use Rattle.aff_fields.specs.declared.entry.Entry.{Entry}
use Rattle.aff_spec.specs.Names.{stream_urn, zero_iri, unreadable_iri}
use Rattle.aff_spec.specs.Runs.{covers, lookup, spot_in}
use Rattle.aff_spec.specs.Streams.{stream_byte}
use Rattle.aff_spec.specs.Symbols.{unknown_byte, unreadable_byte}
use Rattle.aff_spec.specs.Lines.{lines_of}
use Rattle.aff_spec.specs.Volumes.{volume_of, targets_text, target_byte, spot_byte, volume_byte}
use Rattle.aff_spec.specs.Walks.{IsStored}
use Rattle.aff_spec.specs.Words.{is_uuid}
use Rattle.aff_spec.proofs.Targets.{first_target, second_target, third_target, stream_byte_of}

module _ (held : Held) (uuid : List ℕ) (n : ℕ) (entries : List Entry) (ok : is_uuid uuid ≡ true) (is : IsStored held uuid n entries) (i : ℕ) where
  byte_by_entry : (found : Option Entry) → find (covers i) entries ≡ found → volume_byte held (volume_of uuid) i ≡ spot_byte held (volume_of uuid) i (option_map (spot_in i) found)
  byte_by_entry found at = ap (λ es. spot_byte held (volume_of uuid) i (lookup es i)) is.map ∙ ap (λ o. spot_byte held (volume_of uuid) i (option_map (spot_in i) o)) at

  -- a place that no entry covers
  pub byte_in_gap : find (covers i) entries ≡ None → volume_byte held (volume_of uuid) i ≡ Some (unknown_byte i)
  byte_in_gap at = byte_by_entry None at

  -- a place that an entry covers, by its target
  module _ (e : Entry) (at : find (covers i) entries ≡ Some e) where
    through : (k : ℕ) (target : List ℕ) → e.target ≡ k → slice_get (lines_of (targets_text (stream_urn uuid))) k ≡ Some target
        → volume_byte held (volume_of uuid) i ≡ target_byte held (volume_of uuid) target (e.target_at + (i - e.at))
    through k target number line =
        byte_by_entry (Some e) at
        ∙ ap (option_and_then (λ t. target_byte held (volume_of uuid) t (e.target_at + (i - e.at))))
        (ap (λ v. slice_get (lines_of v) e.target) is.targets ∙ ap (slice_get (lines_of (targets_text (stream_urn uuid)))) number ∙ line)

    pub byte_of_stream : e.target ≡ 0 → volume_byte held (volume_of uuid) i ≡ stream_byte held (stream_urn uuid) (e.target_at + (i - e.at))
    byte_of_stream number = through 0 (stream_urn uuid) number (first_target uuid ok) ∙ stream_byte_of held uuid (e.target_at + (i - e.at))

    pub byte_of_zeros : e.target ≡ 1 → volume_byte held (volume_of uuid) i ≡ Some 0
    byte_of_zeros number = through 1 zero_iri number (second_target uuid ok)

    pub byte_of_unreadable : e.target ≡ 2 → volume_byte held (volume_of uuid) i ≡ Some (unreadable_byte (e.target_at + (i - e.at)))
    byte_of_unreadable number = through 2 unreadable_iri number (third_target uuid ok)
