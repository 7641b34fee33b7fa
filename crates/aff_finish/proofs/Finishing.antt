-- How the steps of finishing make its appends, and its hashes.
use Rattle.std.proofs.Common.{◌≡◌, ℕ, List, [], ◌∷◌, ◌++◌, length, sym, ap, subst, ◌∙◌}
use Rattle.std.specs.Prelude.{Bool, IsTrue}
use Rattle.sha2.specs.Sha512.{sha512}
use Rattle.aff_model.specs.Held.{Held}
use Rattle.aff_fields.specs.declared.entry.Entry.{Entry}
use Rattle.aff_spec.specs.Acquired.{end_appends}
use Rattle.aff_spec.specs.Appends.{Append, applied, Reaches}
use Rattle.aff_spec.specs.Bevvies.{bevvy_count, ending}
use Rattle.aff_spec.specs.Names.{stream_urn, image_urn}
use Rattle.aff_spec.specs.Volumes.{volume_of, volume_bytes}
use Rattle.aff_spec.specs.Walks.{IsStored, IsWalkable}
use Rattle.aff_spec.proofs.Appends.{applied-append, Reaches-after, Reaches-more, Reaches-whole}
use Rattle.aff_finish.specs.BlockMap.{block_map_digests}
use Rattle.aff_finish.specs.Container.{container_appends}
use Rattle.aff_finish.specs.Finishing.{AreHashesOf, HasEnded, digests_of, ended, finish_appends, hashes_in, idx_append, map_append}
use Rattle.aff_finish.specs.Information.{information}
use Rattle.aff_finish.specs.Kept.{HasSegments}
use Rattle.aff_finish.specs.declared.hashes.Hashes.{Hashes}

-- what ends the stream, and the two segments behind it
pub end_is : (uuid stream : List ℕ) (chunks : List (List ℕ)) (entries : List Entry) (map idx : Append) → stream ≡ stream_urn uuid → map ≡ map_append uuid entries → idx ≡ idx_append uuid
    → ending stream chunks ++ map ∷ idx ∷ [] ≡ end_appends uuid chunks entries
end_is uuid stream chunks entries map idx s m x = λ i. ending (s i) chunks ++ m i ∷ x i ∷ []

module _ (uuid : List ℕ) (size : ℕ) (chunks : List (List ℕ)) (entries : List Entry) (old : Held) where
  abbrev hashes : Hashes
  hashes = hashes_in (ended uuid chunks entries old) uuid size (length chunks)

  abbrev behind : List Append
  behind = container_appends uuid (information uuid size (length chunks) hashes)

  -- the stream was not ended whole, or its map is not whole
  pub part_of_end : (new : Held) → Reaches old (end_appends uuid chunks entries) new → Reaches old (finish_appends uuid size chunks entries old) new
  part_of_end new part = Reaches-more old (end_appends uuid chunks entries) behind new part

  -- it was, and nothing stands behind it
  pub end_alone : (new : Held) → new ≡ ended uuid chunks entries old → Reaches old (finish_appends uuid size chunks entries old) new
  end_alone new is = subst (Reaches old (finish_appends uuid size chunks entries old)) (sym is) (Reaches-whole old (end_appends uuid chunks entries) behind)

  module _ (tells : Bool) (count : ℕ) (g : Held) (n_is : count ≡ length chunks) (is : IsTrue tells → g ≡ ended uuid chunks entries old) where
    pub walkable_there : IsWalkable tells (ended uuid chunks entries old) uuid size entries → IsWalkable tells g uuid size entries
    walkable_there w = record { chunks = w.chunks; few = w.few; runs = w.runs; stored = λ t. subst (λ h. IsStored h uuid w.chunks entries) (sym (is t)) (w.stored t) }

    pub segments_there : (map idx : Append) → map ≡ map_append uuid entries → idx ≡ idx_append uuid
        → (IsTrue tells → HasEnded (ended uuid chunks entries old) uuid (length chunks) entries) → IsTrue tells → HasSegments g uuid count map idx
    segments_there map idx m x has t =
        subst (λ h. HasSegments h uuid count map idx) (sym (is t))
        (subst (λ n. HasSegments (ended uuid chunks entries old) uuid n map idx) (sym n_is)
        (subst (λ v. HasSegments (ended uuid chunks entries old) uuid (length chunks) v idx) (sym m)
        (subst (λ v. HasSegments (ended uuid chunks entries old) uuid (length chunks) (map_append uuid entries) v) (sym x) (has t))))

    module _ (h : Hashes) (of : AreHashesOf tells g uuid size count h) where
      bytes_told : IsTrue tells → of.bytes ≡ volume_bytes (ended uuid chunks entries old) (volume_of uuid) size
      bytes_told t = of.told_bytes t ∙ ap (λ v. volume_bytes v (volume_of uuid) size) (is t)

      digests_told : IsTrue tells → of.digests ≡ block_map_digests (ended uuid chunks entries old) (stream_urn uuid) (image_urn uuid) (bevvy_count (length chunks))
      digests_told t = of.told_digests t ∙ (λ i. block_map_digests (is t i) (stream_urn uuid) (image_urn uuid) (bevvy_count (n_is i)))

      pub hashes_there : AreHashesOf tells (ended uuid chunks entries old) uuid size (length chunks) h
      hashes_there = record {
        bytes = of.bytes;
        digests = of.digests;
        linear = of.linear;
        block_map = of.block_map;
        told_bytes = bytes_told;
        told_digests = digests_told;
      }

      same : IsTrue tells → h ≡ hashes
      same t = λ i. record { linear = (of.linear ∙ ap digests_of (bytes_told t)) i; block_map = (of.block_map ∙ ap sha512 (digests_told t)) i }

      module _ (k new : Held) (kept : IsTrue tells → k ≡ g) where
        -- what the volume says of itself was appended
        pub made_whole : (IsTrue tells → new ≡ applied k (container_appends uuid (information uuid size count h))) → IsTrue tells → new ≡ applied old (finish_appends uuid size chunks entries old)
        made_whole made t =
            made t
            ∙ (λ i. applied ((kept t ∙ is t) i) (container_appends uuid (information uuid size (n_is i) (same t i))))
            ∙ sym (applied-append old (end_appends uuid chunks entries) behind)

        -- or a part of it
        pub made_in_part : (IsTrue tells → Reaches k (container_appends uuid (information uuid size count h)) new) → IsTrue tells → Reaches old (finish_appends uuid size chunks entries old) new
        made_in_part part t =
            Reaches-after old (end_appends uuid chunks entries) behind new
            (subst (λ v. Reaches v behind new) (kept t ∙ is t)
            (subst (λ v. Reaches k v new) (λ i. container_appends uuid (information uuid size (n_is i) (same t i))) (part t)))
