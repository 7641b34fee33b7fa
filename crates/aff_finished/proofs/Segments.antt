-- The segments of a finished volume: which are there, and what they hold.
use Rattle.std.proofs.Common.{◌≡◌, ℕ, zero, suc, ◌+◌, ◌*◌, ◌<◌, ◌≤◌, ◌⊎◌, List, [], ◌∷◌, ◌++◌, length, sym, ap, subst, ◌∙◌, arith, append-nil, codes, inl, inr}
use Rattle.std.specs.Prelude.{IsSome, All, Contains}
use Rattle.std.specs.List.{flat_map, range_with_len}
use Rattle.std.specs.FinMap.{get}
use Rattle.std.proofs.lemmas.List.Elements.{Contains-append_left, Contains-append_right}
use Rattle.aff_model.specs.declared.limits.TheConstants.{CHUNK}
use Rattle.aff_model.specs.Held.{Held, bytes_of}
use Rattle.aff_fields.specs.Entry.{entry_bytes}
use Rattle.aff_spec.specs.Acquired.{map_appends, volume_appends}
use Rattle.aff_spec.specs.Bevvies.{bevvies_appends, bevvy_count, bevvy_segments}
use Rattle.aff_spec.specs.Names.{eight_digits, segment_in, stream_urn, image_urn, map_name, idx_name}
use Rattle.aff_spec.specs.Volumes.{targets_text}
use Rattle.aff_spec.proofs.BevvySegments.{has_bevvies}
use Rattle.aff_spec.proofs.Members.{Contains-first, Contains-later}
use Rattle.aff_spec.proofs.Owned.{own, own-append, own-other, bytes_of-made}
use Rattle.aff_spec.proofs.Segments.{segment_parts}
use Rattle.aff_bevvy.specs.Chunks.{HasChunks}
use Rattle.aff_bevvy.specs.Streams.{IsStream}
use Rattle.aff_bevvy.specs.Laws.{IsStreamOfItsSizes}
use Rattle.aff_image.specs.Image.{Image}
use Rattle.aff_finish.specs.declared.hashes.Hashes.{Hashes}
use Rattle.aff_finish.proofs.Made.{idx_there, map_there, stream_apart}
use Rattle.aff_finished.proofs.Kept.{IsKept}

-- an element of the list of a number is one of those of all numbers
in_range : {X : Type 0} (f : ℕ → List X) (x : X) (b a n : ℕ) → a ≤ b → b < a + n → Contains (f b) x → Contains (flat_map f (range_with_len a n)) x
in_range f x b a zero from to has = absurd (omega (arith, from, to))
in_range f x b a (suc n) from to has =
    elim (here_or_later a b from) [
      | inl e ↦ Contains-append_left (f a) (flat_map f (range_with_len (a + 1) n)) x (subst (λ k. Contains (f k) x) (sym e) has)
      | inr low ↦ Contains-append_right (f a) (flat_map f (range_with_len (a + 1) n)) x (in_range f x b (a + 1) n (omega (arith, low)) (omega (arith, to)) has)
    ]
  where
    here_or_later : (a b : ℕ) → a ≤ b → (a ≡ b) ⊎ (a < b)
    here_or_later a b low = grind (arith, low)

module _ (uuid : List ℕ) (m : Image) (held : Held) (h : Hashes) (whole : IsKept uuid m held h) where
  pub map_is : bytes_of held (map_name (image_urn uuid)) ≡ flat_map entry_bytes whole.entries
  map_is = whole.alike (image_urn uuid) (codes "map") ∙ map_there uuid m.chunks whole.entries

  pub idx_is : bytes_of held (idx_name (image_urn uuid)) ≡ targets_text (stream_urn uuid)
  idx_is = whole.alike (image_urn uuid) (codes "idx") ∙ idx_there uuid m.chunks whole.entries

  -- those of the stream are those of its own appends
  of_stream : (x : List ℕ) → bytes_of held (segment_in (stream_urn uuid) x) ≡ own (segment_in (stream_urn uuid) x) (bevvies_appends (stream_urn uuid) m.chunks)
  of_stream x =
      let name = segment_in (stream_urn uuid) x in
      whole.alike (stream_urn uuid) x
      ∙ bytes_of-made name (volume_appends uuid m.chunks whole.entries)
      ∙ own-append name (bevvies_appends (stream_urn uuid) m.chunks) (map_appends uuid whole.entries)
      ∙ ap (λ v. own name (bevvies_appends (stream_urn uuid) m.chunks) ++ v) none
      ∙ append-nil (own name (bevvies_appends (stream_urn uuid) m.chunks))
    where
      apart : (name : List ℕ) → segment_in (image_urn uuid) name ≡ segment_in (stream_urn uuid) x → ⊥
      apart name e = stream_apart uuid (sym (segment_parts (image_urn uuid) (stream_urn uuid) name x e).0)

      none : own (segment_in (stream_urn uuid) x) (map_appends uuid whole.entries) ≡ []
      none =
          own-other (segment_in (stream_urn uuid) x) (map_name (image_urn uuid)) (flat_map entry_bytes whole.entries) ((idx_name (image_urn uuid), targets_text (stream_urn uuid)) ∷ []) (apart (codes "map"))
          ∙ own-other (segment_in (stream_urn uuid) x) (idx_name (image_urn uuid)) (targets_text (stream_urn uuid)) [] (apart (codes "idx"))

  -- the stream has the chunks of the image
  module _ (few : bevvy_count (length m.chunks) ≤ 100000000) where
    pub has_chunks : HasChunks held (stream_urn uuid) m.chunks
    has_chunks =
        let has = has_bevvies (stream_urn uuid) m.chunks few in
        record {
          bevvy = λ b below. of_stream (eight_digits b) ∙ has.bevvy b below;
          index = λ b below. of_stream (eight_digits b ++ codes ".index") ∙ has.index b below;
        }

    pub is_stored : IsStreamOfItsSizes → All (λ chunk. length chunk ≡ CHUNK) m.chunks → IsStream held (stream_urn uuid) (CHUNK * length m.chunks)
    is_stored law padded = law held (stream_urn uuid) m.chunks has_chunks padded (CHUNK * length m.chunks) (omega arith)

  -- segments that are there
  tables : List (List ℕ)
  tables = map_name (image_urn uuid) ∷ idx_name (image_urn uuid) ∷ []

  abbrev of_bevvies : List (List ℕ)
  of_bevvies = flat_map (bevvy_segments (stream_urn uuid)) (range_with_len 0 (bevvy_count (length m.chunks)))

  pub map_stands : IsSome (get held (map_name (image_urn uuid)))
  map_stands =
      whole.stands (map_name (image_urn uuid))
      (Contains-append_right of_bevvies (map_name (image_urn uuid) ∷ idx_name (image_urn uuid) ∷ []) (map_name (image_urn uuid)) (Contains-first (map_name (image_urn uuid)) (idx_name (image_urn uuid) ∷ [])))

  pub idx_stands : IsSome (get held (idx_name (image_urn uuid)))
  idx_stands =
      whole.stands (idx_name (image_urn uuid))
      (Contains-append_right of_bevvies (map_name (image_urn uuid) ∷ idx_name (image_urn uuid) ∷ []) (idx_name (image_urn uuid))
      (Contains-later (map_name (image_urn uuid)) (idx_name (image_urn uuid) ∷ []) (idx_name (image_urn uuid)) (Contains-first (idx_name (image_urn uuid)) [])))

  pub bevvy_stands : (b : ℕ) (name : List ℕ) → b < bevvy_count (length m.chunks) → Contains (bevvy_segments (stream_urn uuid) b) name → IsSome (get held name)
  bevvy_stands b name below listed =
      whole.stands name
      (Contains-append_left of_bevvies (map_name (image_urn uuid) ∷ idx_name (image_urn uuid) ∷ []) name
      (in_range (bevvy_segments (stream_urn uuid)) name b 0 (bevvy_count (length m.chunks)) (omega arith) (omega (arith, below)) listed))
