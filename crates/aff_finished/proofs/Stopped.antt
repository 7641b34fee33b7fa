-- A folder that was cut off opens only where every segment is there in full, but perhaps for the last line feed of the metadata.
use Rattle.std.proofs.Common.{◌≡◌, ◌≢◌, ℕ, zero, suc, ◌+◌, ◌*◌, ◌/◌, ◌≤◌, ◌⊎◌, true, List, [], ◌∷◌, ◌++◌, length, take, drop, refl, sym, ap, subst, ◌∙◌, append_assoc, append-nil, arith, inl, inr}
use Rattle.std.specs.Prelude.{Bool, Option, None, Some, unwrap_or}
use Rattle.std.specs.FinMap.{empty, get}
use Rattle.std.specs.List.{AllByRecursion, flat_map, range_with_len}
use Rattle.std.proofs.lemmas.List.{take-append-drop}
use Rattle.aff_model.specs.declared.limits.TheConstants.{BEVVY, CHUNK, MAX_CHUNKS, MAX_SIZE}
use Rattle.aff_model.specs.Content.{Content}
use Rattle.aff_model.specs.Held.{Held, appended, bytes_of}
use Rattle.aff_model.specs.Plan.{IsPlan}
use Rattle.aff_model.proofs.HeldLaws.{get-appended, get-appended_other, get_of_empty}
use Rattle.aff_fields.specs.declared.entry.Entry.{Entry}
use Rattle.aff_spec.specs.Acquired.{map_appends, volume_appends}
use Rattle.aff_spec.specs.Appends.{Append, Reaches, applied, appends_to}
use Rattle.aff_spec.specs.Bevvies.{bevvies_appends, bevvy_appends, bevvy_count, bevvy_of, closing_appends, written}
use Rattle.aff_spec.proofs.Names.{apart_by}
use Rattle.aff_spec.specs.Names.{bevvy_name, segment_in, stream_urn, image_urn, volume_urn}
use Rattle.aff_spec.specs.Words.{is_uuid}
use Rattle.aff_spec.proofs.Appends.{applied-append}
use Rattle.aff_info.specs.Found.{Found}
use Rattle.aff_image.specs.Asked.{Asked}
use Rattle.aff_image.specs.Image.{Image, image_bytes}
use Rattle.aff_image.specs.Volume.{image_appends}
use Rattle.aff_image.proofs.Volumes.{image-few}
use Rattle.aff_finish.specs.BlockMap.{block_map_digests}
use Rattle.aff_finish.specs.Container.{version_name, version_text, description_name, information_name}
use Rattle.aff_finish.specs.Finished.{IsNearlyWhole, all_appends}
use Rattle.aff_finish.specs.Information.{info_of, information}
use Rattle.aff_finish.specs.declared.hashes.Hashes.{Hashes}
use Rattle.aff_finish.proofs.Facts.{can_be_written}
use Rattle.aff_volume.specs.Opened.{IsStated, IsVolumeOf, Opened}
use Rattle.aff_finished.specs.Left.{IsCutOffBy, IsInFull, IsLeftBy}
use Rattle.aff_finished.proofs.CutTexts.{cut_metadata}
use Rattle.aff_finished.proofs.Kept.{apart, metadata_there}

pub names_nothing : (uuid : List ℕ) (size n : ℕ) (h : Hashes) → is_uuid uuid ≡ true → size ≤ MAX_SIZE → CHUNK * n ≤ MAX_SIZE
    → (cut more : List ℕ) → cut ++ more ≡ information uuid size n h → (found : Found) → IsStated cut found → (more ≡ []) ⊎ (more ≡ 10 ∷ [])
names_nothing uuid size n h ok small few cut more e found is =
    (cut_metadata (info_of uuid size n h) (can_be_written uuid size n h ok small few) (omega (arith, few)) (omega (arith, small)) cut more is.facts found e is.turtle is.stated).0

-- ---- appends to other segments than the metadata

abbrev IsElsewhere : Append → Type 0
IsElsewhere a = information_name ≢ a.0

abbrev AreElsewhere : List Append → Type 0
AreElsewhere appends = AllByRecursion IsElsewhere appends

of_urn : (urn x : List ℕ) → information_name ≢ segment_in urn x
of_urn urn x e = apart urn x (sym e)

both : (xs ys : List Append) → AreElsewhere xs → AreElsewhere ys → AreElsewhere (xs ++ ys)
both [] ys h k = k
both (x ∷ xs) ys h k = (h.0, both xs ys h.1 k)

pieces : (name : List ℕ) (parts : List (List ℕ)) → information_name ≢ name → AreElsewhere (appends_to name parts)
pieces name [] h = tt
pieces name (p ∷ parts) h = (h, pieces name parts h)

ranged : (f : ℕ → List Append) → ((b : ℕ) → AreElsewhere (f b)) → (a n : ℕ) → AreElsewhere (flat_map f (range_with_len a n))
ranged f each a zero = tt
ranged f each a (suc n) = both (f a) (flat_map f (range_with_len (a + 1) n)) (each a) (ranged f each (a + 1) n)

of_bevvy : (stream : List ℕ) (chunks : List (List ℕ)) (b : ℕ) → AreElsewhere (bevvy_appends stream chunks b)
of_bevvy stream chunks b =
    both (appends_to (bevvy_name stream b) (bevvy_of chunks b)) (closing_appends stream b (bevvy_of chunks b)) (pieces (bevvy_name stream b) (bevvy_of chunks b) (of_urn stream _))
    (of_urn stream _, (of_urn stream _, (of_urn stream _, (of_urn stream _, tt))))

of_written : (stream : List ℕ) (chunks : List (List ℕ)) → AreElsewhere (written stream chunks)
of_written stream chunks =
    both (flat_map (bevvy_appends stream chunks) (range_with_len 0 (length chunks / BEVVY))) (appends_to (bevvy_name stream (length chunks / BEVVY)) (drop (BEVVY * (length chunks / BEVVY)) chunks))
    (ranged (bevvy_appends stream chunks) (of_bevvy stream chunks) 0 (length chunks / BEVVY))
    (pieces (bevvy_name stream (length chunks / BEVVY)) (drop (BEVVY * (length chunks / BEVVY)) chunks) (of_urn stream _))

of_volume : (uuid : List ℕ) (chunks : List (List ℕ)) (entries : List Entry) → AreElsewhere (volume_appends uuid chunks entries)
of_volume uuid chunks entries =
    both (bevvies_appends (stream_urn uuid) chunks) (map_appends uuid entries) (ranged (bevvy_appends (stream_urn uuid) chunks) (of_bevvy (stream_urn uuid) chunks) 0 (bevvy_count (length chunks)))
    (of_urn (image_urn uuid) _, (of_urn (image_urn uuid) _, tt))

-- these leave a folder without metadata as it was
none_applied : (held : Held) (appends : List Append) → AreElsewhere appends → get held information_name ≡ None → get (applied held appends) information_name ≡ None
none_applied held [] all none = none
none_applied held (a ∷ appends) all none = none_applied (appended held a.0 a.1) appends all.1 (get-appended_other held a.0 a.1 information_name all.0 ∙ none)

none_reached : (held : Held) (appends : List Append) (now : Held) → AreElsewhere appends → get held information_name ≡ None → Reaches held appends now → get now information_name ≡ None
none_reached held [] now all none is = ap (λ g. get g information_name) is ∙ none
none_reached held (a ∷ appends) now all none (inl same) = ap (λ g. get g information_name) same ∙ none
none_reached held (a ∷ appends) now all none (inr (inl cut)) = ap (λ g. get g information_name) cut.2 ∙ get-appended_other held a.0 (take cut.0 a.1) information_name all.0 ∙ none
none_reached held (a ∷ appends) now all none (inr (inr later)) = none_reached (appended held a.0 a.1) appends now all.1 (get-appended_other held a.0 a.1 information_name all.0 ∙ none) later

-- what appends in two parts reach
by_parts : (held : Held) (xs ys : List Append) (now : Held) → Reaches held (xs ++ ys) now → Reaches held xs now ⊎ Reaches (applied held xs) ys now
by_parts held [] ys now is = inr is
by_parts held (a ∷ xs) ys now (inl same) = inl (inl same)
by_parts held (a ∷ xs) ys now (inr (inl cut)) = inl (inr (inl cut))
by_parts held (a ∷ xs) ys now (inr (inr later)) = elim (by_parts (appended held a.0 a.1) xs ys now later) [ inl first ↦ inl (inr (inr first)) | inr second ↦ inr second ]

-- ---- a folder that was cut off

module _ (case : Option Content) (tells : Bool) (asked : Asked) (m : Image) (held : Held) (cut : IsCutOffBy case tells asked m held) where
  planned : IsPlan m.plan.size m.plan.block m.plan.extents
  planned = subst (λ p. IsPlan p.size p.block p.extents) (sym cut.stopped.plan) cut.ask.is_plan

  small : m.plan.size ≤ MAX_SIZE
  small = subst (λ p. p.size ≤ MAX_SIZE) (sym cut.stopped.plan) cut.ask.small

  few : length m.chunks ≤ MAX_CHUNKS
  few = image-few case asked.workers m planned cut.stopped.image

  module _ (near : IsNearlyWhole asked.uuid m held) where
    abbrev text : List ℕ
    text = information asked.uuid m.plan.size (length m.chunks) near.hashes

    -- all appends but the metadata
    abbrev fronts : List Append
    fronts = image_appends asked.uuid m near.whole.entries ++ ((version_name, version_text) ∷ (description_name, volume_urn asked.uuid) ∷ [])

    abbrev before : Held
    before = applied empty fronts

    in_two : all_appends asked.uuid m near.whole.entries near.hashes ≡ fronts ++ (information_name, text) ∷ []
    in_two = sym (append_assoc (image_appends asked.uuid m near.whole.entries) ((version_name, version_text) ∷ (description_name, volume_urn asked.uuid) ∷ []) ((information_name, text) ∷ []))

    elsewhere : AreElsewhere fronts
    elsewhere =
        both (image_appends asked.uuid m near.whole.entries) ((version_name, version_text) ∷ (description_name, volume_urn asked.uuid) ∷ []) (of_volume asked.uuid m.chunks near.whole.entries)
        (apart_by information_name version_name refl, (apart_by information_name description_name refl, tt))

    none : get before information_name ≡ None
    none = none_applied empty fronts elsewhere (get_of_empty information_name)

    no_bytes : bytes_of before information_name ≡ []
    no_bytes = ap (λ o. unwrap_or o []) none

    last_is : near.last ≡ appended before information_name text
    last_is = near.whole.made ∙ ap (applied empty) in_two ∙ applied-append empty fronts ((information_name, text) ∷ [])

    left_in_full : IsInFull near.last held → IsLeftBy case tells asked m held near.hashes
    left_in_full full = record {
      ask = cut.ask;
      last = near.last;
      finished = record {
        plan = cut.stopped.plan;
        image = cut.stopped.image;
        complete = near.complete;
        bytes = image_bytes m;
        linear = near.whole.linear;
        digests = block_map_digests near.last (stream_urn asked.uuid) (image_urn asked.uuid) (bevvy_count (length m.chunks));
        block_map = near.whole.block_map;
        whole = λ told. near.whole;
      };
      full = full;
    }

    module _ (text_there : List ℕ) (there : get held information_name ≡ Some text_there) where
      not_none : get held information_name ≡ None → ⊥
      not_none absent = let both_are : None ≡ Some text_there = sym absent ∙ there in cc

      -- a part of the metadata
      part : (found : Found) → IsStated text_there found → (n : ℕ) → held ≡ appended before information_name (take n text) → IsInFull near.last held
      part found stated n is =
          let has : get held information_name ≡ Some (take n text) = ap (λ g. get g information_name) is ∙ get-appended before information_name (take n text) ∙ ap (λ v. Some (v ++ take n text)) no_bytes in
          let same : Some text_there ≡ Some (take n text) = sym there ∙ has in
          let cut_is : text_there ≡ take n text = cc in
          by_rest has (names_nothing asked.uuid m.plan.size (length m.chunks) near.hashes cut.ask.uuid small (omega (arith, few)) (take n text) (drop n text) (take-append-drop n text) found (subst (λ v. IsStated v found) cut_is stated))
        where
          by_rest : get held information_name ≡ Some (take n text) → (drop n text ≡ []) ⊎ (drop n text ≡ 10 ∷ []) → IsInFull near.last held
          by_rest has (inl all) =
              let whole : take n text ≡ text = sym (append-nil (take n text)) ∙ ap (λ v. take n text ++ v) (sym all) ∙ take-append-drop n text in
              inl (is ∙ ap (appended before information_name) whole ∙ sym last_is)
          by_rest has (inr feed) =
              let whole : take n text ++ 10 ∷ [] ≡ text = ap (λ v. take n text ++ v) (sym feed) ∙ take-append-drop n text in
              inr (record {
                text = take n text;
                had = metadata_there asked.uuid m near.last near.hashes near.whole ∙ ap (λ (v : List ℕ). Some v) (sym whole);
                has = has;
                others = λ name other.
                    ap (λ g. get g name) is ∙ get-appended_other before information_name (take n text) name other
                    ∙ sym (ap (λ g. get g name) last_is ∙ get-appended_other before information_name text name other);
              })

      in_full : (found : Found) → IsStated text_there found → IsInFull near.last held
      in_full found stated =
          elim (by_parts empty fronts ((information_name, text) ∷ []) held (subst (λ appends. Reaches empty appends held) in_two near.reached)) [
            | inl early ↦ absurd (not_none (none_reached empty fronts held elsewhere (get_of_empty information_name) early))
            | inr late ↦ by_last late
          ]
        where
          by_last : Reaches before ((information_name, text) ∷ []) held → IsInFull near.last held
          by_last (inl same) = absurd (not_none (ap (λ g. get g information_name) same ∙ none))
          by_last (inr (inl some)) = part found stated some.0 some.2
          by_last (inr (inr all)) = inl (all ∙ sym last_is)

  pub opens_in_full : (v : Opened) → IsVolumeOf held v → (h : Hashes) × IsLeftBy case tells asked m held h
  opens_in_full v is =
      let named = is.whole.named in
      elim (cut.stopped.reached cut.ask.told) [
        | inl early ↦
            let absent = none_reached empty (written (stream_urn asked.uuid) m.chunks) held (of_written (stream_urn asked.uuid) m.chunks) (get_of_empty information_name) early in
            let both_are : None ≡ Some named.text = sym absent ∙ named.there in absurd cc
        | inr near ↦
            (near.hashes, left_in_full near (in_full near named.text named.there (record { info = v.info; aside = is.places }) (record { facts = named.facts; turtle = named.turtle; stated = named.stated })))
      ]
