-- The map of a volume whose entries are runs of its image.
use Rattle.std.proofs.Common.{◌≡◌, ℕ, zero, suc, ◌+◌, ◌*◌, ◌<◌, ◌≤◌, ◌⊎◌, true, List, [], ◌∷◌, get_or, refl, sym, subst, arith, inl, inr}
use Rattle.std.specs.Prelude.{All, AllPairs}
use Rattle.std.specs.List.{flat_map}
use Rattle.aff_model.specs.declared.limits.TheConstants.{CHUNK, MAX_SIZE}
use Rattle.aff_fields.specs.declared.entry.Entry.{Entry}
use Rattle.aff_fields.specs.Entry.{FitsEntry, entries_of, entry_bytes}
use Rattle.aff_fields.proofs.EntryLaws.{entries_of-flat_map, length-flat_map-entry_bytes}
use Rattle.aff_spec.specs.Names.{stream_urn}
use Rattle.aff_spec.specs.Volumes.{targets_text}
use Rattle.aff_spec.specs.Walks.{AreImageRuns, IsImageRun}
use Rattle.aff_spec.specs.Words.{is_uuid}
use Rattle.aff_spec.proofs.Lookups.{ends_before}
use Rattle.aff_map.specs.declared.target.Target.TheVariants.{Stored, Zero, Unreadable}
use Rattle.aff_map.specs.Mapped.{AreApart, IsEntry, IsSound, numbered_target, target_end}
use Rattle.aff_map.specs.Targets.{targets_of}
use Rattle.aff_finished.proofs.Targets.{all_named, targets_are}

module _ (size n : ℕ) (small : size ≤ MAX_SIZE) (few : CHUNK * n ≤ MAX_SIZE) where
  module _ (e : Entry) (run : IsImageRun size n e) where
    -- where it leads is in the stream, or its own place
    ends : (e.target_at + e.len ≤ CHUNK * n) ⊎ ((0 < e.target) × (e.target_at + e.len ≤ size))
    ends = by_target e.target refl
      where
        by_target : (t : ℕ) → e.target ≡ t → (e.target_at + e.len ≤ CHUNK * n) ⊎ ((0 < e.target) × (e.target_at + e.len ≤ size))
        by_target zero is = inl (run.stored is)
        by_target (suc t) is = let more : 0 < e.target = omega (arith, is) in inr (more, omega (arith, run.inside, run.symbolic more))

    fits : FitsEntry e
    fits = record {
      at = omega (arith, run.inside, run.some, small);
      len = omega (arith, run.inside, small);
      target_at = elim ends [ inl low ↦ omega (arith, low, run.some, few) | inr own ↦ omega (arith, own.1, run.some, small) ];
      target = omega (arith, run.known);
    }

    reaches : e.target_at + e.len ≤ target_end (CHUNK * n) (numbered_target (Stored ∷ Zero ∷ Unreadable ∷ []) e.target)
    reaches = by_target e.target refl
      where
        symbolic : (t : ℕ) → e.target ≡ suc t → e.target_at + e.len ≤ 18446744073709551616
        symbolic t is = let more : 0 < e.target = omega (arith, is) in omega (arith, run.inside, run.symbolic more, small)

        by_target : (t : ℕ) → e.target ≡ t → e.target_at + e.len ≤ target_end (CHUNK * n) (numbered_target (Stored ∷ Zero ∷ Unreadable ∷ []) t)
        by_target zero is = run.stored is
        by_target (suc zero) is = symbolic 0 is
        by_target (suc (suc zero)) is = symbolic 1 is
        by_target (suc (suc (suc t))) is = absurd (omega (arith, run.known, is))

    is_entry : IsEntry size (CHUNK * n) (Stored ∷ Zero ∷ Unreadable ∷ []) e
    is_entry = record { some = run.some; inside = run.inside; known = omega (arith, run.known); reaches = reaches }

  module _ (entries : List Entry) (runs : AreImageRuns size n entries) where
    pub all_fit : All FitsEntry entries
    all_fit k d below = fits (get_or entries k d) (runs.each k d below)

    -- as a map that is read it is sound
    pub sound_map : (uuid : List ℕ) → is_uuid uuid ≡ true → IsSound (flat_map entry_bytes entries) (targets_text (stream_urn uuid)) size (stream_urn uuid) (CHUNK * n)
    sound_map uuid ok =
        let same : entries_of (flat_map entry_bytes entries) ≡ entries = entries_of-flat_map entries all_fit in
        record {
          whole = omega (arith, length-flat_map-entry_bytes entries);
          named = all_named uuid ok;
          each =
              subst (λ es. All (IsEntry size (CHUNK * n) (targets_of (stream_urn uuid) (targets_text (stream_urn uuid)))) es) (sym same)
              (subst (λ ts. All (IsEntry size (CHUNK * n) ts) entries) (sym (targets_are uuid ok)) (λ k d below. is_entry (get_or entries k d) (runs.each k d below)));
          apart = subst (AllPairs AreApart) (sym same) (λ j k d before below. inl (ends_before entries runs.sorted d j k before below));
        }
