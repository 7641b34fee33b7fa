-- A folder that was made by all appends of a volume.
use Rattle.std.proofs.Common.{◌≡◌, ℕ, true, false, ◌==◌, List, [], ◌∷◌, ◌++◌, length, refl, sym, ap, subst, ◌∙◌, append-nil, codes, inl, inr}
use Rattle.std.specs.Prelude.{◌≢◌, ◌||◌, Bool, Some, IsSome, Contains}
use Rattle.std.specs.FinMap.{empty, get}
use Rattle.std.specs.List.{flat_map, list_any}
use Rattle.std.proofs.lemmas.List.{append_cancel_left, map-append}
use Rattle.std.proofs.lemmas.List.Elements.{Contains-append_left, Contains-append_right, Contains-append_cases}
use Rattle.aff_model.specs.Held.{Held, bytes_of, appended}
use Rattle.aff_model.proofs.HeldLaws.{get-appended}
use Rattle.aff_fields.specs.declared.entry.Entry.{Entry}
use Rattle.aff_fields.specs.Entry.{entry_bytes}
use Rattle.aff_spec.specs.Acquired.{map_appends, volume_appends, segment_names}
use Rattle.aff_spec.specs.Appends.{Append, applied}
use Rattle.aff_spec.specs.Bevvies.{bevvies_appends}
use Rattle.aff_spec.specs.Names.{folder_name, segment_in, stream_urn, image_urn, map_name, idx_name, volume_urn}
use Rattle.aff_spec.specs.Volumes.{targets_text}
use Rattle.aff_spec.proofs.BevvySegments.{none_in_stream}
use Rattle.aff_spec.proofs.Names.{apart_by}
use Rattle.aff_spec.proofs.Appends.{applied-append}
use Rattle.aff_spec.proofs.Owned.{own, own-append, own-same, own-other, bytes_of-applied, bytes_of-made, names_of, made_segments}
use Rattle.aff_spec.proofs.Segments.{segment_parts}
use Rattle.aff_image.proofs.Made.{volume_segments}
use Rattle.aff_finish.specs.Container.{container_appends, version_name, version_text, description_name, information_name}
use Rattle.aff_finish.specs.Finished.{finished_names}
use Rattle.aff_finish.proofs.Same.{AreAlike}

-- a segment in the folder of a URN has a slash in its name
or_true : (b : Bool) → (b || true) ≡ true
or_true true = refl
or_true false = refl

has_slash : (xs ys : List ℕ) → list_any (λ b. b == 47) (xs ++ 47 ∷ ys) ≡ true
has_slash [] ys = refl
has_slash (x ∷ xs) ys = ap (λ t. (x == 47) || t) (has_slash xs ys) ∙ or_true (x == 47)

apart : (name urn x : List ℕ) → list_any (λ b. b == 47) name ≡ false → name ≢ segment_in urn x
apart name urn x none e =
    let some : list_any (λ b. b == 47) name ≡ true = ap (list_any (λ b. b == 47)) e ∙ has_slash (folder_name urn) x in
    cc (none, some)

-- what a volume says of itself leaves those segments as they were
pub container_alike : (held : Held) (uuid information : List ℕ) → AreAlike (applied held (container_appends uuid information)) held
container_alike held uuid information urn x =
    let name = segment_in urn x in
    bytes_of-applied held name (container_appends uuid information)
    ∙ ap (λ v. bytes_of held name ++ v)
    (own-other name version_name version_text ((description_name, volume_urn uuid) ∷ (information_name, information) ∷ []) (apart version_name urn x refl)
    ∙ own-other name description_name (volume_urn uuid) ((information_name, information) ∷ []) (apart description_name urn x refl)
    ∙ own-other name information_name information [] (apart information_name urn x refl))
    ∙ append-nil (bytes_of held name)

-- the stream is not the image
pub stream_apart : (uuid : List ℕ) → stream_urn uuid ≢ image_urn uuid
stream_apart uuid e = apart_by (codes "/data") (codes "/image") refl (append_cancel_left uuid (codes "/data") (codes "/image") (append_cancel_left (codes "aff4://") (uuid ++ codes "/data") (uuid ++ codes "/image") e))

module _ (uuid : List ℕ) (chunks : List (List ℕ)) (entries : List Entry) where
  abbrev pub image_made : Held
  image_made = applied empty (volume_appends uuid chunks entries)

  -- no append of an image is to a segment without a slash
  none_without_slash : (name : List ℕ) → list_any (λ b. b == 47) name ≡ false → own name (volume_appends uuid chunks entries) ≡ []
  none_without_slash name none =
      own-append name (bevvies_appends (stream_urn uuid) chunks) (map_appends uuid entries)
      ∙ (λ i. none_in_stream (stream_urn uuid) chunks name (λ x e. apart name (stream_urn uuid) x none (sym e)) i ++ in_map i)
    where
      in_map : own name (map_appends uuid entries) ≡ []
      in_map =
          own-other name (map_name (image_urn uuid)) (flat_map entry_bytes entries) ((idx_name (image_urn uuid), targets_text (stream_urn uuid)) ∷ []) (λ e. apart name (image_urn uuid) (codes "map") none (sym e))
          ∙ own-other name (idx_name (image_urn uuid)) (targets_text (stream_urn uuid)) [] (λ e. apart name (image_urn uuid) (codes "idx") none (sym e))

  module _ (information : List ℕ) where
    abbrev pub all_made : Held
    all_made = applied image_made (container_appends uuid information)

    -- the text of the metadata
    pub information_there : get all_made information_name ≡ Some information
    information_there =
        let before = applied image_made ((version_name, version_text) ∷ (description_name, volume_urn uuid) ∷ []) in
        let none : bytes_of before information_name ≡ [] =
        bytes_of-applied image_made information_name ((version_name, version_text) ∷ (description_name, volume_urn uuid) ∷ [])
        ∙ (λ i. (bytes_of-made information_name (volume_appends uuid chunks entries) ∙ none_without_slash information_name refl) i ++ last i) in
        get-appended before information_name information ∙ ap (λ v. Some (v ++ information)) none
      where
        last : own information_name ((version_name, version_text) ∷ (description_name, volume_urn uuid) ∷ []) ≡ []
        last =
            own-other information_name version_name version_text ((description_name, volume_urn uuid) ∷ []) (apart_by version_name information_name refl)
            ∙ own-other information_name description_name (volume_urn uuid) [] (apart_by description_name information_name refl)

    -- the segments, and no other
    pub all_segments : (name : List ℕ) → (IsSome (get all_made name) → Contains (finished_names uuid (length chunks)) name) × (Contains (finished_names uuid (length chunks)) name → IsSome (get all_made name))
    all_segments name =
        let appends = volume_appends uuid chunks entries ++ container_appends uuid information in
        let is_made = made_segments appends name in
        let last = version_name ∷ description_name ∷ information_name ∷ [] in
        let cut : names_of appends ≡ names_of (volume_appends uuid chunks entries) ++ last = map-append (λ a. a.0) (volume_appends uuid chunks entries) (container_appends uuid information) in
        let whole : applied empty appends ≡ all_made = applied-append empty (volume_appends uuid chunks entries) (container_appends uuid information) in
        let first = made_segments (volume_appends uuid chunks entries) name in
        let image = volume_segments uuid chunks entries name in (
          λ there. elim (Contains-append_cases (names_of (volume_appends uuid chunks entries)) last name
              (subst (λ v. Contains v name) cut (is_made.0 (subst (λ h. IsSome (get h name)) (sym whole) there)))) [
                | inl here ↦ Contains-append_left (segment_names uuid (length chunks)) last name (image.0 (first.1 here))
                | inr later ↦ Contains-append_right (segment_names uuid (length chunks)) last name later
              ],
          λ named. subst (λ h. IsSome (get h name)) whole (is_made.1 (subst (λ v. Contains v name) (sym cut) (elim (Contains-append_cases (segment_names uuid (length chunks)) last name named) [
            | inl here ↦ Contains-append_left (names_of (volume_appends uuid chunks entries)) last name (first.0 (image.1 here))
            | inr later ↦ Contains-append_right (names_of (volume_appends uuid chunks entries)) last name later
          ]))),
        )

  -- the map, and the list of its targets
  of_stream : (x name : List ℕ) → segment_in (stream_urn uuid) x ≢ segment_in (image_urn uuid) name
  of_stream x name e = stream_apart uuid (segment_parts (stream_urn uuid) (image_urn uuid) x name e).0

  pub map_there : bytes_of image_made (map_name (image_urn uuid)) ≡ flat_map entry_bytes entries
  map_there =
      bytes_of-made (map_name (image_urn uuid)) (volume_appends uuid chunks entries)
      ∙ own-append (map_name (image_urn uuid)) (bevvies_appends (stream_urn uuid) chunks) (map_appends uuid entries)
      ∙ (λ i. none_in_stream (stream_urn uuid) chunks (map_name (image_urn uuid)) (λ x. of_stream x (codes "map")) i ++ in_map i)
    where
      in_map : own (map_name (image_urn uuid)) (map_appends uuid entries) ≡ flat_map entry_bytes entries
      in_map =
          own-same (map_name (image_urn uuid)) (flat_map entry_bytes entries) ((idx_name (image_urn uuid), targets_text (stream_urn uuid)) ∷ [])
          ∙ ap (λ v. flat_map entry_bytes entries ++ v) (own-other (map_name (image_urn uuid)) (idx_name (image_urn uuid)) (targets_text (stream_urn uuid)) []
          (λ e. apart_by (codes "idx") (codes "map") refl (segment_parts (image_urn uuid) (image_urn uuid) (codes "idx") (codes "map") e).1))
          ∙ append-nil (flat_map entry_bytes entries)

  pub idx_there : bytes_of image_made (idx_name (image_urn uuid)) ≡ targets_text (stream_urn uuid)
  idx_there =
      bytes_of-made (idx_name (image_urn uuid)) (volume_appends uuid chunks entries)
      ∙ own-append (idx_name (image_urn uuid)) (bevvies_appends (stream_urn uuid) chunks) (map_appends uuid entries)
      ∙ (λ i. none_in_stream (stream_urn uuid) chunks (idx_name (image_urn uuid)) (λ x. of_stream x (codes "idx")) i ++ in_idx i)
    where
      in_idx : own (idx_name (image_urn uuid)) (map_appends uuid entries) ≡ targets_text (stream_urn uuid)
      in_idx =
          own-other (idx_name (image_urn uuid)) (map_name (image_urn uuid)) (flat_map entry_bytes entries) ((idx_name (image_urn uuid), targets_text (stream_urn uuid)) ∷ [])
          (λ e. apart_by (codes "map") (codes "idx") refl (segment_parts (image_urn uuid) (image_urn uuid) (codes "map") (codes "idx") e).1)
          ∙ own-same (idx_name (image_urn uuid)) (targets_text (stream_urn uuid)) []
          ∙ append-nil (targets_text (stream_urn uuid))
