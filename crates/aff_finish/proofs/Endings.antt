-- What readings of a run leave, however it ends: an image of them, and a folder that is its whole volume or that its appends
-- reach.
use Rattle.std.proofs.Common.{◌≡◌, ℕ, ◌*◌, ◌≤◌, true, List, [], ◌++◌, length, refl, sym, ap, subst, ◌∙◌, arith, append_assoc, inl, inr}
use Rattle.std.specs.Prelude.{◌↔◌, Bool, Option, All, IsTrue, IsSome, Contains}
use Rattle.std.specs.FinMap.{empty, get}
use Rattle.sha2.specs.Sha512.{sha512}
use Rattle.aff_model.specs.declared.limits.TheConstants.{CHUNK, MAX_SIZE}
use Rattle.aff_model.specs.Content.{Content}
use Rattle.aff_model.specs.Held.{Held, bytes_of}
use Rattle.aff_model.specs.Legal.{IsComplete}
use Rattle.aff_model.specs.Plan.{IsPlan}
use Rattle.aff_model.proofs.Once.{last_ones-once}
use Rattle.aff_fields.specs.declared.entry.Entry.{Entry}
use Rattle.aff_fields.specs.Entry.{FitsEntry}
use Rattle.aff_spec.specs.Acquired.{end_appends, volume_appends}
use Rattle.aff_spec.specs.Appends.{Append, applied, Reaches}
use Rattle.aff_spec.specs.Bevvies.{bevvy_count, written}
use Rattle.aff_spec.specs.Names.{segment_in, stream_urn, image_urn}
use Rattle.aff_spec.specs.Runs.{AreGreatestRuns, history_spot}
use Rattle.aff_spec.specs.Volumes.{volume_of, volume_bytes}
use Rattle.aff_spec.specs.Walks.{IsWalkable}
use Rattle.aff_spec.specs.Words.{is_uuid}
use Rattle.aff_spec.proofs.Appends.{applied-append, Reaches-after}
use Rattle.aff_image.specs.Asked.{Asked}
use Rattle.aff_image.specs.Image.{Image, IsImageBy, image_spot}
use Rattle.aff_image.specs.Volume.{IsVolume, image_appends}
use Rattle.aff_image.specs.Witnesses.{Witnessed, AreWitnessed, history_of, kept_chunks}
use Rattle.aff_image.proofs.Contents.{one_content}
use Rattle.aff_image.proofs.Counts.{few_kept}
use Rattle.aff_image.proofs.Endings.{made-end, written-end}
use Rattle.aff_image.proofs.Images.{image_of, is_image}
use Rattle.aff_image.proofs.Volumes.{is_volume, is_walkable, volume_bytes_are}
use Rattle.aff_finish.specs.BlockMap.{block_map_digests}
use Rattle.aff_finish.specs.Container.{container_appends, information_name}
use Rattle.aff_finish.specs.Finished.{IsFinished, IsNearlyWhole, IsStopped, IsWhole, all_appends, finished_names}
use Rattle.aff_finish.specs.Finishing.{AreHashesOf, HasEnded, digests_of, ended, finish_appends, hashes_in}
use Rattle.aff_finish.specs.Information.{information}
use Rattle.aff_finish.specs.declared.hashes.Hashes.{Hashes}
use Rattle.aff_finish.proofs.Lengths.{all_kept}
use Rattle.aff_finish.proofs.Made.{all_made, all_segments, container_alike, idx_there, image_made, information_there, map_there}
use Rattle.aff_finish.proofs.Same.{AreAlike, block_map_alike, blocks_alike, byte_alike, cell_alike}
use Rattle.aff_finish.proofs.Told.{is_named}

-- the readings of a run that was asked for
module _ (case : Option Content) (tells : Bool) (asked : Asked) (readings : List Witnessed) (is_plan : IsPlan asked.plan.size asked.plan.block asked.plan.extents)
    (are : AreWitnessed case asked.plan asked.workers readings) where
  abbrev content : Content
  content = (one_content case asked.plan asked.workers readings is_plan are).content

  abbrev image : Image
  image = image_of content asked.plan readings

  image_is : IsImageBy case asked.workers image
  image_is =
      let one = one_content case asked.plan asked.workers readings is_plan are in
      is_image case one.content asked.plan asked.workers readings is_plan one.is_case one.are

  -- the run stopped in its stream
  pub stopped : (held : Held) → (IsTrue tells → Reaches empty (written (stream_urn asked.uuid) (kept_chunks readings)) held)
      → (m : Image) × (m.history ≡ history_of readings) × IsStopped case tells asked m held
  stopped held reached = (image, refl, record { plan = refl; image = image_is; reached = λ told. inl (reached told) })

  abbrev chunks : List (List ℕ)
  chunks = kept_chunks readings

  few : CHUNK * length chunks ≤ MAX_SIZE
  few = let low = few_kept case asked.plan asked.workers readings is_plan are in omega (arith, low)

  -- the readings are complete, and these are the entries of their map
  module _ (ok : is_uuid asked.uuid ≡ true) (small : asked.plan.size ≤ MAX_SIZE) (complete : IsComplete asked.plan.extents (history_of readings)) (entries : List Entry) (held : Held)
      (runs : AreGreatestRuns (history_spot asked.plan.extents (history_of readings)) entries) (fit : All FitsEntry entries)
      (there : IsTrue tells → held ≡ applied empty (written (stream_urn asked.uuid) (kept_chunks readings))) where
    image_entries : AreGreatestRuns (image_spot image) entries
    image_entries = subst (λ h. AreGreatestRuns (history_spot asked.plan.extents h) entries) (sym (last_ones-once (history_of readings) are.once)) runs

    abbrev mid : Held
    mid = ended asked.uuid chunks entries held

    mid_is : IsTrue tells → mid ≡ image_made asked.uuid chunks entries
    mid_is told = made-end asked.uuid chunks entries empty held mid (there told) refl

    volume_is : IsTrue tells → IsVolume asked.uuid image mid
    volume_is told = is_volume case asked.workers asked.uuid image entries is_plan image_is complete image_entries fit ok mid (mid_is told)

    -- all bytes of the image can be read from the folder in their order
    pub walkable : IsWalkable tells mid asked.uuid asked.plan.size entries
    walkable = is_walkable case asked.workers asked.uuid image entries is_plan image_is complete image_entries fit tells mid mid_is

    -- and all that the block map hash is taken of
    pub has_ended : IsTrue tells → HasEnded mid asked.uuid (length chunks) entries
    has_ended told =
        subst (λ g. HasEnded g asked.uuid (length chunks) entries) (sym (mid_is told))
        (record {
          kept = all_kept (image_made asked.uuid chunks entries) (stream_urn asked.uuid) (length chunks) (subst (λ g. IsVolume asked.uuid image g) (mid_is told) (volume_is told)).readable.blocks;
          map_is = refl;
          map_there = map_there asked.uuid chunks entries;
          idx_is = refl;
          idx_there = idx_there asked.uuid chunks entries;
        })

    abbrev hashes : Hashes
    hashes = hashes_in mid asked.uuid asked.plan.size (length chunks)

    abbrev text : List ℕ
    text = information asked.uuid asked.plan.size (length chunks) hashes

    abbrev last : Held
    last = applied mid (container_appends asked.uuid text)

    alike : AreAlike last mid
    alike = container_alike mid asked.uuid text

    last_is : IsTrue tells → last ≡ all_made asked.uuid chunks entries text
    last_is told = ap (λ g. applied g (container_appends asked.uuid text)) (mid_is told)

    whole : IsTrue tells → (w : IsWhole asked.uuid image last hashes) × (w.entries ≡ entries)
    whole told =
        let v = volume_is told in (
          record {
            entries = entries;
            runs = image_entries;
            made = last_is told ∙ sym (applied-append empty (image_appends asked.uuid image entries) (container_appends asked.uuid text));
            segments = λ name.
                subst (λ g. IsSome (get g name) ↔ Contains (finished_names asked.uuid (length chunks)) name) (sym (last_is told)) (all_segments asked.uuid chunks entries text name);
            readable = record {
              cells = λ i. cell_alike last mid alike (volume_of asked.uuid) i ∙ v.readable.cells i;
              bytes = λ i. byte_alike last mid alike (volume_of asked.uuid) i ∙ v.readable.bytes i;
              blocks = blocks_alike mid last (λ urn x. sym (alike urn x)) (stream_urn asked.uuid) (length chunks) v.readable.blocks;
            };
            named =
                is_named asked.uuid ok asked.plan.size (length chunks) small few hashes (volume_bytes mid (volume_of asked.uuid) asked.plan.size)
                (block_map_digests mid (stream_urn asked.uuid) (image_urn asked.uuid) (bevvy_count (length chunks))) refl refl last
                (ap (λ g. get g information_name) (last_is told) ∙ information_there asked.uuid chunks entries text);
            linear = ap digests_of (volume_bytes_are asked.uuid image mid v);
            block_map = ap sha512 (sym (block_map_alike last mid alike (stream_urn asked.uuid) (image_urn asked.uuid) (bevvy_count (length chunks))));
          },
          refl,
        )

    -- the run stopped behind its stream
    pub stopped_behind : (new : Held) → (IsTrue tells → Reaches held (finish_appends asked.uuid asked.plan.size chunks entries held) new)
        → (m : Image) × (m.history ≡ history_of readings) × IsStopped case tells asked m new
    stopped_behind new reached = (
      image,
      refl,
      record {
        plan = refl;
        image = image_is;
        reached = λ told.
            let w = whole told in
            inr (record {
              last = last;
              hashes = hashes;
              whole = w.0;
              complete = complete;
              reached = subst (λ es. Reaches empty (all_appends asked.uuid image es hashes) new) (sym w.1) (from_nothing told);
            });
      },
    )
      where
        all_is : written (stream_urn asked.uuid) chunks ++ finish_appends asked.uuid asked.plan.size chunks entries held ≡ all_appends asked.uuid image entries hashes
        all_is =
            sym (append_assoc (written (stream_urn asked.uuid) chunks) (end_appends asked.uuid chunks entries) (container_appends asked.uuid text))
            ∙ ap (λ v. v ++ container_appends asked.uuid text) (written-end asked.uuid chunks entries)

        from_nothing : IsTrue tells → Reaches empty (all_appends asked.uuid image entries hashes) new
        from_nothing told =
            subst (λ v. Reaches empty v new) all_is
            (Reaches-after empty (written (stream_urn asked.uuid) chunks) (finish_appends asked.uuid asked.plan.size chunks entries held) new
            (subst (λ g. Reaches g (finish_appends asked.uuid asked.plan.size chunks entries held) new) (there told) (reached told)))

    -- the run came to its end, and these are the hashes that were taken
    pub finished : (new : Held) (h : Hashes) → (IsTrue tells → new ≡ applied held (finish_appends asked.uuid asked.plan.size chunks entries held))
        → AreHashesOf tells mid asked.uuid asked.plan.size (length chunks) h → (m : Image) × (m.history ≡ history_of readings) × IsFinished case tells asked m new h
    finished new h made of = (
      image,
      refl,
      record {
        plan = refl;
        image = image_is;
        complete = complete;
        bytes = of.bytes;
        linear = of.linear;
        digests = of.digests;
        block_map = of.block_map;
        whole = λ told.
            subst (λ g. IsWhole asked.uuid image g h) (sym (new_is told))
            (subst (IsWhole asked.uuid image last) (sym (same told)) (whole told).0);
      },
    )
      where
        new_is : IsTrue tells → new ≡ last
        new_is told = made told ∙ applied-append held (end_appends asked.uuid chunks entries) (container_appends asked.uuid text)

        same : IsTrue tells → h ≡ hashes
        same told = λ i. record { linear = (of.linear ∙ ap digests_of (of.told_bytes told)) i; block_map = (of.block_map ∙ ap sha512 (of.told_digests told)) i }
