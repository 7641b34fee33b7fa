-- A folder that was made by the appends of a volume: its segments and no other, what they hold, and its block hashes.
use Rattle.std.proofs.Common.{◌≡◌, ℕ, zero, suc, ◌+◌, ◌*◌, ◌<◌, ◌≤◌, List, [], ◌∷◌, ◌++◌, length, refl, sym, ap, subst, ◌∙◌, arith, append-nil, codes, length-append, inl, inr}
use Rattle.std.specs.Prelude.{◌≢◌, ◌⊎◌, Option, None, Some, IsSome, IsSomeAnd, All, Contains, unwrap_or}
use Rattle.std.specs.List.{concat, flat_map, range_with_len}
use Rattle.std.specs.FinMap.{empty, get}
use Rattle.std.proofs.lemmas.List.{append_cancel_left, map-append}
use Rattle.std.proofs.lemmas.List.Elements.{Contains-append_left, Contains-append_right, Contains-append_cases}
use Rattle.aff_model.specs.Held.{Held, bytes_of}
use Rattle.aff_fields.specs.declared.entry.Entry.{Entry}
use Rattle.aff_fields.specs.Entry.{entry_bytes, entries_of, FitsEntry}
use Rattle.aff_fields.specs.Point.{point_bytes}
use Rattle.aff_fields.proofs.EntryLaws.{entries_of-flat_map}
use Rattle.aff_spec.specs.Acquired.{map_appends, volume_appends, segment_names}
use Rattle.aff_spec.specs.Appends.{applied}
use Rattle.aff_spec.specs.Bevvies.{bevvy_count, bevvy_of, bevvy_segments, bevvies_appends}
use Rattle.aff_spec.specs.BlockHashes.{HasBlockHashes, chunks_in}
use Rattle.aff_spec.specs.Names.{bevvy_name, index_name, md5_name, sha1_name, sha256_name, eight_digits, segment_in, stream_urn, image_urn, map_name, idx_name}
use Rattle.aff_spec.specs.Streams.{stream_byte, full_points}
use Rattle.aff_spec.specs.Volumes.{targets_text}
use Rattle.aff_spec.specs.Walks.{IsStored}
use Rattle.aff_spec.proofs.BevvySegments.{HasBevvies, has_bevvies, none_in_stream, stream_segments}
use Rattle.aff_spec.proofs.Chunks.{AreChunks}
use Rattle.aff_spec.proofs.Members.{Contains-first}
use Rattle.aff_spec.proofs.Names.{apart_by}
use Rattle.aff_spec.proofs.Owned.{own, own-append, own-same, own-other, bytes_of-made, names_of, made_segments}
use Rattle.aff_spec.proofs.Segments.{segment_parts}
use Rattle.aff_spec.proofs.Streams.{ReadsAs, AreChunks-bevvy, length-bevvy_of, stream_reads, has_block_hashes}

-- the segments of a volume of stored chunks, as what they read as
pub record HasImage (held : Held) (uuid : List ℕ) (chunks : List (List ℕ)) (entries : List Entry) : Type 0 where
  pub map : entries_of (bytes_of held (map_name (image_urn uuid))) ≡ entries
  pub targets : bytes_of held (idx_name (image_urn uuid)) ≡ targets_text (stream_urn uuid)
  pub stream : ReadsAs (stream_byte held (stream_urn uuid)) chunks

-- the stream is not the image
stream_apart : (uuid : List ℕ) → stream_urn uuid ≢ image_urn uuid
stream_apart uuid e = apart_by (codes "/data") (codes "/image") refl (append_cancel_left uuid (codes "/data") (codes "/image") (append_cancel_left (codes "aff4://") (uuid ++ codes "/data") (uuid ++ codes "/image") e))

-- chunks one after another
length-concat : (chunks : List (List ℕ)) → AreChunks chunks → length (concat chunks) ≡ 32768 * length chunks
unfolding AreChunks
length-concat [] whole = refl
length-concat (p ∷ chunks) whole = omega (arith, length-append p (concat chunks), length-concat chunks whole.1, whole.0)

-- the segments of a bevvy are among those of some bevvies
in_range : (stream : List ℕ) (b a n : ℕ) → a ≤ b → b < a + n → Contains (flat_map (bevvy_segments stream) (range_with_len a n)) (bevvy_name stream b)
in_range stream b a zero from to = absurd (omega (arith, from, to))
in_range stream b a (suc n) from to =
    elim (here_or_later a b from) [
      | inl e ↦ Contains-append_left (bevvy_segments stream a) (flat_map (bevvy_segments stream) (range_with_len (a + 1) n)) (bevvy_name stream b)
          (subst (λ k. Contains (bevvy_segments stream a) (bevvy_name stream k)) e (Contains-first (bevvy_name stream a) (index_name stream a ∷ md5_name stream a ∷ sha1_name stream a ∷ sha256_name stream a ∷ [])))
      | inr low ↦ Contains-append_right (bevvy_segments stream a) (flat_map (bevvy_segments stream) (range_with_len (a + 1) n)) (bevvy_name stream b)
          (in_range stream b (a + 1) n (omega (arith, low)) (omega (arith, to)))
    ]
  where
    here_or_later : (a b : ℕ) → a ≤ b → (a ≡ b) ⊎ (a < b)
    here_or_later a b low = grind (arith, low)

-- a segment that is there has the bytes
is_there : (o : Option (List ℕ)) (n : ℕ) → IsSome o → length (unwrap_or o []) ≡ n → IsSomeAnd o (λ bytes. length bytes ≡ n)
is_there None n there len = absurd (cc)
is_there (Some bytes) n there len = len

module _ (uuid : List ℕ) (chunks : List (List ℕ)) (entries : List Entry) where
  abbrev made : Held
  made = applied empty (volume_appends uuid chunks entries)

  of_stream : (x name : List ℕ) → segment_in (stream_urn uuid) x ≢ segment_in (image_urn uuid) name
  of_stream x name e = stream_apart uuid (segment_parts (stream_urn uuid) (image_urn uuid) x name e).0

  in_map : own (map_name (image_urn uuid)) (map_appends uuid entries) ≡ flat_map entry_bytes entries
  in_map =
      own-same (map_name (image_urn uuid)) (flat_map entry_bytes entries) ((idx_name (image_urn uuid), targets_text (stream_urn uuid)) ∷ [])
      ∙ ap (λ v. flat_map entry_bytes entries ++ v) (own-other (map_name (image_urn uuid)) (idx_name (image_urn uuid)) (targets_text (stream_urn uuid)) []
      (λ e. apart_by (codes "idx") (codes "map") refl (segment_parts (image_urn uuid) (image_urn uuid) (codes "idx") (codes "map") e).1))
      ∙ append-nil (flat_map entry_bytes entries)

  in_idx : own (idx_name (image_urn uuid)) (map_appends uuid entries) ≡ targets_text (stream_urn uuid)
  in_idx =
      own-other (idx_name (image_urn uuid)) (map_name (image_urn uuid)) (flat_map entry_bytes entries) ((idx_name (image_urn uuid), targets_text (stream_urn uuid)) ∷ [])
      (λ e. apart_by (codes "map") (codes "idx") refl (segment_parts (image_urn uuid) (image_urn uuid) (codes "map") (codes "idx") e).1)
      ∙ own-same (idx_name (image_urn uuid)) (targets_text (stream_urn uuid)) []
      ∙ append-nil (targets_text (stream_urn uuid))

  in_stream : (x : List ℕ) → own (segment_in (stream_urn uuid) x) (map_appends uuid entries) ≡ []
  in_stream x =
      own-other (segment_in (stream_urn uuid) x) (map_name (image_urn uuid)) (flat_map entry_bytes entries) ((idx_name (image_urn uuid), targets_text (stream_urn uuid)) ∷ []) (λ e. of_stream x (codes "map") (sym e))
      ∙ own-other (segment_in (stream_urn uuid) x) (idx_name (image_urn uuid)) (targets_text (stream_urn uuid)) [] (λ e. of_stream x (codes "idx") (sym e))

  -- the bytes of the segments
  map_bytes : bytes_of made (map_name (image_urn uuid)) ≡ flat_map entry_bytes entries
  map_bytes =
      bytes_of-made (map_name (image_urn uuid)) (volume_appends uuid chunks entries)
      ∙ own-append (map_name (image_urn uuid)) (bevvies_appends (stream_urn uuid) chunks) (map_appends uuid entries)
      ∙ (λ i. none_in_stream (stream_urn uuid) chunks (map_name (image_urn uuid)) (λ x. of_stream x (codes "map")) i ++ in_map i)

  idx_bytes : bytes_of made (idx_name (image_urn uuid)) ≡ targets_text (stream_urn uuid)
  idx_bytes =
      bytes_of-made (idx_name (image_urn uuid)) (volume_appends uuid chunks entries)
      ∙ own-append (idx_name (image_urn uuid)) (bevvies_appends (stream_urn uuid) chunks) (map_appends uuid entries)
      ∙ (λ i. none_in_stream (stream_urn uuid) chunks (idx_name (image_urn uuid)) (λ x. of_stream x (codes "idx")) i ++ in_idx i)

  stream_bytes : (x : List ℕ) → bytes_of made (segment_in (stream_urn uuid) x) ≡ own (segment_in (stream_urn uuid) x) (bevvies_appends (stream_urn uuid) chunks)
  stream_bytes x =
      bytes_of-made (segment_in (stream_urn uuid) x) (volume_appends uuid chunks entries)
      ∙ own-append (segment_in (stream_urn uuid) x) (bevvies_appends (stream_urn uuid) chunks) (map_appends uuid entries)
      ∙ ap (λ v. own (segment_in (stream_urn uuid) x) (bevvies_appends (stream_urn uuid) chunks) ++ v) (in_stream x)
      ∙ append-nil (own (segment_in (stream_urn uuid) x) (bevvies_appends (stream_urn uuid) chunks))

  -- the names of the segments
  pub volume_segments : (name : List ℕ) → (IsSome (get made name) → Contains (segment_names uuid (length chunks)) name) × (Contains (segment_names uuid (length chunks)) name → IsSome (get made name))
  volume_segments name =
      let is_made = made_segments (volume_appends uuid chunks entries) name in
      let cut : names_of (volume_appends uuid chunks entries) ≡ names_of (bevvies_appends (stream_urn uuid) chunks) ++ names_of (map_appends uuid entries) =
      map-append (λ a. a.0) (bevvies_appends (stream_urn uuid) chunks) (map_appends uuid entries) in
      let own_names = stream_segments (stream_urn uuid) chunks name in
      let listed = flat_map (bevvy_segments (stream_urn uuid)) (range_with_len 0 (bevvy_count (length chunks))) in
      let last = map_name (image_urn uuid) ∷ idx_name (image_urn uuid) ∷ [] in (
        λ there. elim (Contains-append_cases (names_of (bevvies_appends (stream_urn uuid) chunks)) last name (subst (λ v. Contains v name) cut (is_made.0 there))) [
          | inl here ↦ Contains-append_left listed last name (own_names.0 here)
          | inr later ↦ Contains-append_right listed last name later
        ],
        λ named. is_made.1 (subst (λ v. Contains v name) (sym cut) (elim (Contains-append_cases listed last name named) [
          | inl here ↦ Contains-append_left (names_of (bevvies_appends (stream_urn uuid) chunks)) last name (own_names.1 here)
          | inr later ↦ Contains-append_right (names_of (bevvies_appends (stream_urn uuid) chunks)) last name later
        ])),
      )

  -- chunks of whole length, in bevvies whose numbers have eight digits, and entries that fit their fields
  module _ (few : bevvy_count (length chunks) ≤ 100000000) (whole : AreChunks chunks) where
    volume_bevvies : HasBevvies (bytes_of made) (stream_urn uuid) chunks
    volume_bevvies =
        let has = has_bevvies (stream_urn uuid) chunks few in
        record {
          bevvy = λ b below. stream_bytes (eight_digits b) ∙ has.bevvy b below;
          index = λ b below. stream_bytes (eight_digits b ++ codes ".index") ∙ has.index b below;
          md5 = λ b below. stream_bytes (eight_digits b ++ codes ".blockHash.md5") ∙ has.md5 b below;
          sha1 = λ b below. stream_bytes (eight_digits b ++ codes ".blockHash.sha1") ∙ has.sha1 b below;
          sha256 = λ b below. stream_bytes (eight_digits b ++ codes ".blockHash.sha256") ∙ has.sha256 b below;
        }

    pub volume_hashes : HasBlockHashes made (stream_urn uuid) (length chunks)
    volume_hashes = has_block_hashes made (stream_urn uuid) chunks whole volume_bevvies

    pub volume_image : All FitsEntry entries → HasImage made uuid chunks entries
    volume_image fit = record {
      map = ap entries_of map_bytes ∙ entries_of-flat_map entries fit;
      targets = idx_bytes;
      stream = stream_reads made (stream_urn uuid) chunks whole volume_bevvies;
    }

    -- what a walk over the image stands on
    pub volume_stored : All FitsEntry entries → IsStored made uuid (length chunks) entries
    volume_stored fit =
        let image = volume_image fit in
        let last = map_name (image_urn uuid) ∷ idx_name (image_urn uuid) ∷ [] in
        record {
          stream = record {
            bevvy = λ b below.
                is_there (get made (bevvy_name (stream_urn uuid) b)) (32768 * chunks_in (length chunks) b)
                ((volume_segments (bevvy_name (stream_urn uuid) b)).1
                (Contains-append_left (flat_map (bevvy_segments (stream_urn uuid)) (range_with_len 0 (bevvy_count (length chunks)))) last (bevvy_name (stream_urn uuid) b)
                (in_range (stream_urn uuid) b 0 (bevvy_count (length chunks)) (omega arith) (omega (arith, below)))))
                (ap length (volume_bevvies.bevvy b below) ∙ length-concat (bevvy_of chunks b) (AreChunks-bevvy chunks b whole) ∙ ap (λ n. 32768 * n) (length-bevvy_of chunks b));
            index = λ b below. volume_bevvies.index b below ∙ ap (λ n. flat_map point_bytes (full_points n)) (length-bevvy_of chunks b);
          };
          map = image.map;
          targets = image.targets;
        }
