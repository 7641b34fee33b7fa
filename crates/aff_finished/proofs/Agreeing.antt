-- A finished volume agrees with all that it records, and reads as what was acquired.
use Rattle.std.proofs.Common.{◌≡◌, ℕ, zero, suc, ◌+◌, ◌-◌, ◌*◌, ◌/◌, ◌%◌, ◌<◌, ◌≤◌, true, cond, List, length, refl, sym, ap, subst, ◌∙◌, arith}
use Rattle.std.specs.Prelude.{Option, None, Some, find, slice_get, slice_index, nat_le, nat_lt}
use Rattle.std.specs.Option.{option_map, option_and_then}
use Rattle.std.proofs.lemmas.Bool.{and_parts}
use Rattle.std.proofs.lemmas.Bool.Decides.{nat_tests}
use Rattle.aff_model.specs.declared.limits.TheConstants.{BEVVY, CHUNK}
use Rattle.aff_model.specs.Content.{Content}
use Rattle.aff_model.specs.Held.{Held, bytes_of}
use Rattle.aff_model.proofs.HeldLaws.{bytes_eq_same}
use Rattle.std.specs.Prelude.{Bool, map, unwrap_or}
use Rattle.std.specs.List.{flat_map, range_with_len}
use Rattle.aff_hash.specs.Digest.{digest_size}
use Rattle.aff_info.specs.declared.info.Info.{Info}
use Rattle.aff_fields.specs.declared.entry.Entry.{Entry}
use Rattle.aff_fields.specs.Entry.{entries_of}
use Rattle.aff_fields.proofs.EntryLaws.{entries_of-flat_map}
use Rattle.aff_hash.specs.declared.kind.Hash.{Hash}
use Rattle.aff_hash.specs.declared.kind.Hash.TheVariants.{Md5, Sha1, Sha256, Sha512}
use Rattle.aff_hash.specs.Digest.{digest_of}
use Rattle.aff_hash.proofs.Sizes.{length-digest_of}
use Rattle.aff_blockhash.specs.Recorded.{digest_at}
use Rattle.aff_spec.specs.Bevvies.{bevvy_count}
use Rattle.aff_spec.specs.BlockHashes.{chunks_in}
use Rattle.aff_spec.specs.Lines.{lines_of}
use Rattle.aff_spec.specs.Names.{stream_urn, image_urn, map_name, zero_iri, unreadable_iri}
use Rattle.aff_spec.specs.Runs.{covers, lookup, spot_in}
use Rattle.aff_spec.specs.Streams.{chunk_of}
use Rattle.aff_spec.specs.Symbols.{fill_of}
use Rattle.aff_spec.specs.Volumes.{targets_text, volume_bytes, volume_of}
use Rattle.aff_spec.specs.Walks.{AreImageRuns, IsImageRun}
use Rattle.aff_spec.proofs.Lookups.{covered_from, found_passes}
use Rattle.aff_spec.proofs.Targets.{first_target, second_target, third_target}
use Rattle.aff_image.specs.Asked.{Asked}
use Rattle.aff_image.specs.Image.{Image, acquired_content, image_bytes}
use Rattle.aff_image.proofs.Runs.{image_runs}
use Rattle.aff_finish.specs.BlockMap.{block_map_hash}
use Rattle.aff_finish.specs.Finished.{image_info}
use Rattle.aff_finish.specs.declared.hashes.Hashes.{Hashes}
use Rattle.aff_info.specs.Found.{Found}
use Rattle.aff_volume.specs.Agreement.{IsChunkSound}
use Rattle.aff_volume.specs.Image.{IsFirstDamage, named_by, spot_offset, stored_offset, stream_offset}
use Rattle.aff_volume.specs.Opened.{IsVolumeOf, Opened}
use Rattle.aff_volume.specs.Reading.{AreBytes}
use Rattle.aff_volume.proofs.Refused.{one_named}
use Rattle.aff_verify.specs.Differences.{linear_in}
use Rattle.aff_verify.specs.Verdicts.{IsAgreement, IsFirstFinding, IsVerdict}
use Rattle.aff_verify.specs.declared.finding.Finding.{Finding}
use Rattle.aff_verify.specs.declared.finding.Finding.TheVariants.{Block, Linear, BlockMap}
use Rattle.aff_verify.specs.declared.finding.Verdict.{Verdict}
use Rattle.aff_verify.specs.declared.finding.Verdict.TheVariants.{Sound, Unsound}
use Rattle.aff_finished.specs.Content.{AreAcquired}
use Rattle.aff_finished.specs.Left.{IsLeftBy}
use Rattle.aff_finished.specs.Laws.{found_of}
use Rattle.aff_finished.proofs.Digests.{bevvy_low, chunk_number, part_is, place_low}
use Rattle.aff_finished.proofs.Runs.{all_fit}
use Rattle.aff_finished.proofs.Segments.{idx_is, map_is}
use Rattle.aff_finished.proofs.Wholes.{chunks_are, few, planned, small, whole}

-- where everything agrees there is no finding
no_finding : (held : Held) (info : Info) (finding : Finding) → IsAgreement held info → IsFirstFinding held info finding → ⊥
no_finding held info (Block kind c recorded found) agrees first = first.first.difference.differ (agrees.blocks c first.there found.kind first.first.kept)
no_finding held info (Linear kind recorded found) agrees first = first.differ (agrees.linear kind)
no_finding held info (BlockMap recorded found) agrees first = first.differ agrees.block_map

pub sound_alone : (held : Held) (info : Info) (verdict : Verdict) → IsAgreement held info → IsVerdict held info verdict → verdict ≡ Sound
sound_alone held info Sound agrees is = refl
sound_alone held info (Unsound finding) agrees is = absurd (no_finding held info finding agrees is)

module _ (case : Option Content) (tells : Bool) (asked : Asked) (m : Image) (held : Held) (h : Hashes) (left : IsLeftBy case tells asked m held h) where
  abbrev stream : List ℕ
  stream = stream_urn asked.uuid

  -- ---- what is recorded

  recorded : (kind : Hash) (c : ℕ) (bytes : List ℕ) → c < length m.chunks
      → bytes ≡ flat_map (λ k. digest_of kind (chunk_of held stream k)) (range_with_len (BEVVY * (c / BEVVY)) (chunks_in (length m.chunks) (c / BEVVY)))
      → digest_at kind bytes (c % BEVVY) ≡ digest_of kind (chunk_of held stream c)
  recorded kind c bytes below is =
      ap (λ b. digest_at kind b (c % BEVVY)) is
      ∙ part_is (λ k. digest_of kind (chunk_of held stream k)) (digest_size kind) (λ k. length-digest_of kind (chunk_of held stream k)) (BEVVY * (c / BEVVY)) (chunks_in (length m.chunks) (c / BEVVY)) (c % BEVVY) (place_low (length m.chunks) c below)
      ∙ ap (λ k. digest_of kind (chunk_of held stream k)) (chunk_number c)

  pub chunk_sound : (c : ℕ) → c < length m.chunks → IsChunkSound held stream c
  chunk_sound c below Md5 low = recorded Md5 c _ below ((whole case tells asked m held h left).readable.blocks.by_md5 (c / BEVVY) (bevvy_low (length m.chunks) c below))
  chunk_sound c below Sha1 low = recorded Sha1 c _ below ((whole case tells asked m held h left).readable.blocks.by_sha1 (c / BEVVY) (bevvy_low (length m.chunks) c below))
  chunk_sound c below Sha256 low = recorded Sha256 c _ below ((whole case tells asked m held h left).readable.blocks.by_sha256 (c / BEVVY) (bevvy_low (length m.chunks) c below))
  chunk_sound c below Sha512 low = absurd (omega (arith, low))

  bytes_are : volume_bytes held (volume_of asked.uuid) m.plan.size ≡ image_bytes m
  bytes_are = λ j. map (λ i. unwrap_or ((whole case tells asked m held h left).readable.bytes i j) 0) (range_with_len 0 m.plan.size)

  linear : (kind : Hash) → linear_in h.linear kind ≡ digest_of kind (image_bytes m)
  linear Md5 = ap (λ d. d.md5) (whole case tells asked m held h left).linear
  linear Sha1 = ap (λ d. d.sha1) (whole case tells asked m held h left).linear
  linear Sha256 = ap (λ d. d.sha256) (whole case tells asked m held h left).linear
  linear Sha512 = ap (λ d. d.sha512) (whole case tells asked m held h left).linear

  agreement : IsAgreement held (image_info asked.uuid m h)
  agreement = record {
    blocks = λ c below. chunk_sound c (subst (λ n. c < n) (chunks_are case tells asked m held h left) below);
    linear = λ kind. linear kind ∙ ap (digest_of kind) (sym bytes_are);
    block_map = (whole case tells asked m held h left).block_map ∙ ap (λ n. block_map_hash held stream (image_urn asked.uuid) (bevvy_count n)) (sym (chunks_are case tells asked m held h left));
  }

  -- ---- where the bytes come from

  runs : AreImageRuns m.plan.size (length m.chunks) (whole case tells asked m held h left).entries
  runs = image_runs case asked.workers m (whole case tells asked m held h left).entries (planned case tells asked m held h left) left.finished.image left.finished.complete (whole case tells asked m held h left).runs

  entries_are : entries_of (bytes_of held (map_name (image_urn asked.uuid))) ≡ (whole case tells asked m held h left).entries
  entries_are =
      let entries = (whole case tells asked m held h left).entries in
      ap entries_of (map_is asked.uuid m held h (whole case tells asked m held h left))
      ∙ entries_of-flat_map entries (all_fit m.plan.size (length m.chunks) (small case tells asked m held h left) (omega (arith, few case tells asked m held h left)) entries runs)

  offset_through : (i k place : ℕ) (target : List ℕ) → slice_get (lines_of (targets_text stream)) k ≡ Some target
      → spot_offset held (volume_of asked.uuid) i (Some (k, place)) ≡ stream_offset (volume_of asked.uuid) target place
  offset_through i k place target is =
      ap (option_and_then (λ t. stream_offset (volume_of asked.uuid) t place)) (ap (λ v. slice_get (lines_of v) k) (idx_is asked.uuid m held h (whole case tells asked m held h left)) ∙ is)

  own_offset : (place : ℕ) → stream_offset (volume_of asked.uuid) stream place ≡ Some place
  own_offset place = ap (λ b. cond b (Some place) None) (bytes_eq_same stream)

  by_target : (i t place offset : ℕ) → t ≤ 2 → spot_offset held (volume_of asked.uuid) i (Some (t, place)) ≡ Some offset → (t ≡ 0) × (place ≡ offset)
  by_target i zero place offset known is =
      let same : Some place ≡ Some offset = sym (offset_through i 0 place stream (first_target asked.uuid left.ask.uuid) ∙ own_offset place) ∙ is in
      (refl, cc)
  by_target i (suc zero) place offset known is =
      let none : None ≡ Some offset = sym (offset_through i 1 place zero_iri (second_target asked.uuid left.ask.uuid)) ∙ is in absurd cc
  by_target i (suc (suc zero)) place offset known is =
      let none : None ≡ Some offset = sym (offset_through i 2 place unreadable_iri (third_target asked.uuid left.ask.uuid)) ∙ is in absurd cc
  by_target i (suc (suc (suc t))) place offset known is = absurd (omega (arith, known))

  covered_to : (i : ℕ) (e : Entry) → covers i e ≡ true → i < e.at + e.len
  covered_to i e is = let parts = and_parts (nat_le e.at i) (nat_lt i (e.at + e.len)) is in grind (arith, nat_tests, parts.1)

  by_entry : (i offset : ℕ) (o : Option Entry) → find (covers i) (whole case tells asked m held h left).entries ≡ o
      → spot_offset held (volume_of asked.uuid) i (option_map (spot_in i) o) ≡ Some offset → offset < CHUNK * length m.chunks
  by_entry i offset None found is = let none : None ≡ Some offset = is in absurd cc
  by_entry i offset (Some e) found is =
      let passes = found_passes (IsImageRun m.plan.size (length m.chunks)) (covers i) (whole case tells asked m held h left).entries e runs.each found in
      let own = by_target i e.target (e.target_at + (i - e.at)) offset passes.0.known is in
      omega (arith, own.1, covered_from i e passes.1, covered_to i e passes.1, passes.0.stored own.0)

  -- the stored bytes of the image are in the stream
  pub in_stream : (i offset : ℕ) → stored_offset held (volume_of asked.uuid) i ≡ Some offset → offset < CHUNK * length m.chunks
  in_stream i offset is =
      by_entry i offset (find (covers i) (whole case tells asked m held h left).entries) refl
      (ap (λ es. spot_offset held (volume_of asked.uuid) i (lookup es i)) (sym entries_are) ∙ is)

  undamaged : (at n chunk : ℕ) (recorded found : List ℕ) → IsFirstDamage held (volume_of asked.uuid) at n chunk recorded found → ⊥
  undamaged at n chunk recorded found damage =
      let low : chunk < length m.chunks = omega (arith, damage.chunk_is, in_stream (at + damage.number) damage.offset damage.stored) in
      damage.differs.differ (damage.differs.recorded_is ∙ chunk_sound chunk low Sha256 (omega arith) ∙ sym damage.differs.found_is)

  acquired : (at : ℕ) (bytes : List ℕ) → AreBytes held (volume_of asked.uuid) at bytes → AreAcquired m at bytes
  acquired at bytes are k below =
      let same : Some (slice_index bytes k) ≡ Some (fill_of (at + k) (acquired_content m (at + k))) = sym (are.are k below) ∙ (whole case tells asked m held h left).readable.bytes (at + k) in cc

  -- ---- of what is opened

  module _ (v : Opened) (is : IsVolumeOf held v) where
    found_is : Found
    found_is = record { info = v.info; aside = is.places }

    same_found : record { info = v.info; aside = is.places } ≡ found_of asked.uuid m h
    same_found = one_named held (record { info = v.info; aside = is.places }) (found_of asked.uuid m h) is.whole.named (whole case tells asked m held h left).named

    info_is : v.info ≡ image_info asked.uuid m h
    info_is = ap (λ (f : Found). f.info) same_found

    pub says_the_same : (v.info ≡ image_info asked.uuid m h) × (v.aside ≡ 0)
    says_the_same = (info_is, is.aside ∙ ap (λ (f : Found). length f.aside) same_found)

    pub is_sound : IsAgreement held v.info × ((verdict : Verdict) → IsVerdict held v.info verdict → verdict ≡ Sound)
    is_sound =
        let agrees : IsAgreement held v.info = subst (IsAgreement held) (sym info_is) agreement in
        (agrees, λ verdict on. sound_alone held v.info verdict agrees on)

    pub reads : (at : ℕ) (bytes : List ℕ) → AreBytes held (named_by v.info) at bytes → AreAcquired m at bytes
    reads at bytes are = acquired at bytes (subst (λ info. AreBytes held (named_by info) at bytes) info_is are)

    pub nowhere : (at n chunk : ℕ) (recorded found : List ℕ) → ¬ (IsFirstDamage held (named_by v.info) at n chunk recorded found)
    nowhere at n chunk recorded found damage = undamaged at n chunk recorded found (subst (λ info. IsFirstDamage held (named_by info) at n chunk recorded found) info_is damage)
