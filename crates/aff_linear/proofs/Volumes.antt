-- What is fed of an image is what its volume reads as.
use Rattle.std.proofs.Common.{◌≡◌, ℕ, ◌+◌, ◌-◌, ◌≤◌, ◌⊎◌, inl, inr, true, cond, ◌==◌, List, sym, ap, ◌∙◌, arith, refl}
use Rattle.std.specs.Prelude.{None, Some, unwrap_or, find, All}
use Rattle.aff_model.specs.Held.{Held}
use Rattle.aff_fields.specs.declared.entry.Entry.{Entry}
use Rattle.aff_spec.specs.Names.{stream_urn}
use Rattle.aff_spec.specs.Runs.{covers}
use Rattle.aff_spec.specs.Streams.{stream_byte}
use Rattle.aff_spec.specs.Symbols.{unreadable_byte}
use Rattle.aff_spec.specs.Volumes.{volume_of, volume_byte, volume_bytes}
use Rattle.aff_spec.specs.Walks.{IsImageRun, IsStored}
use Rattle.aff_spec.specs.Words.{is_uuid}
use Rattle.aff_spec.proofs.Images.{byte_in_gap, byte_of_stream, byte_of_zeros, byte_of_unreadable}
use Rattle.aff_spec.proofs.Lookups.{found_passes, covered_from}
use Rattle.aff_linear.specs.Feeds.{byte_by, image_byte, image_range, run_byte}
use Rattle.aff_linear.proofs.Pieces.{alike_in}

module _ (held : Held) (uuid : List ℕ) (size n : ℕ) (entries : List Entry) (ok : is_uuid uuid ≡ true) (is : IsStored held uuid n entries) (each : All (IsImageRun size n) entries) where
  -- the byte of an entry by its target
  byte_by_target : (i : ℕ) (e : Entry) → find (covers i) entries ≡ Some e → IsImageRun size n e → e.at ≤ i → (e.target ≡ 0) ⊎ ((e.target ≡ 1) ⊎ (e.target ≡ 2))
      → run_byte held (stream_urn uuid) e i ≡ unwrap_or (volume_byte held (volume_of uuid) i) 0
  byte_by_target i e at run from (inl number) =
      ap (λ t. cond (t == 0) (unwrap_or (stream_byte held (stream_urn uuid) (e.target_at + (i - e.at))) 0) (cond (t == 1) 0 (unreadable_byte i))) number
      ∙ sym (ap (λ o. unwrap_or o 0) (byte_of_stream held uuid n entries ok is i e at number))
  byte_by_target i e at run from (inr (inl number)) =
      ap (λ t. cond (t == 0) (unwrap_or (stream_byte held (stream_urn uuid) (e.target_at + (i - e.at))) 0) (cond (t == 1) 0 (unreadable_byte i))) number
      ∙ sym (ap (λ o. unwrap_or o 0) (byte_of_zeros held uuid n entries ok is i e at number))
  byte_by_target i e at run from (inr (inr number)) =
      let place : e.target_at + (i - e.at) ≡ i = omega (arith, run.symbolic (omega (arith, number)), from) in
      ap (λ t. cond (t == 0) (unwrap_or (stream_byte held (stream_urn uuid) (e.target_at + (i - e.at))) 0) (cond (t == 1) 0 (unreadable_byte i))) number
      ∙ ap unreadable_byte (sym place)
      ∙ sym (ap (λ o. unwrap_or o 0) (byte_of_unreadable held uuid n entries ok is i e at number))

  three : (t : ℕ) → t ≤ 2 → (t ≡ 0) ⊎ ((t ≡ 1) ⊎ (t ≡ 2))
  three t few = grind (arith, few)

  -- each byte
  byte_is : (i : ℕ) → image_byte held (stream_urn uuid) entries i ≡ unwrap_or (volume_byte held (volume_of uuid) i) 0
  byte_is i =
      elim (find (covers i) entries) as (λ o. find (covers i) entries ≡ o → byte_by held (stream_urn uuid) i o ≡ unwrap_or (volume_byte held (volume_of uuid) i) 0) [
        | None ↦ λ at. sym (ap (λ o. unwrap_or o 0) (byte_in_gap held uuid n entries ok is i at))
        | Some e ↦ λ at.
            let found = found_passes (IsImageRun size n) (covers i) entries e each at in
            byte_by_target i e at found.0 (covered_from i e found.1) (three e.target found.0.known)
      ] refl

  -- all bytes
  pub bytes_are : image_range held (stream_urn uuid) entries 0 size ≡ volume_bytes held (volume_of uuid) size
  bytes_are = alike_in (image_byte held (stream_urn uuid) entries) (λ i. unwrap_or (volume_byte held (volume_of uuid) i) 0) 0 size (λ i from to. byte_is i)
