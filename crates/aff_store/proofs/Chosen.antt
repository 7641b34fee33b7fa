-- The chosen chunks of an extent, appended one after another.
use Rattle.std.proofs.Common.{◌≡◌, ℕ, ◌+◌, ◌<◌, List, [], ◌∷◌, ◌++◌, length, take, drop, get_or, map, refl, sym, ap, subst, ◌∙◌, append_assoc}
use Rattle.std.proofs.lemmas.List.{take_more, map-append, take-append-drop, get_or-map}
use Rattle.sha2.specs.Sha256.{sha256}
use Rattle.aff_model.specs.Held.{Held}
use Rattle.aff_blockhash.specs.Pending.{sums_in}
use Rattle.aff_hash.specs.Chosen.{chosen_sums, chunk_sums_of}
use Rattle.aff_hash.specs.declared.kind.ChunkSums.{ChunkSums}
use Rattle.aff_spec.specs.Appends.{applied, Reaches}
use Rattle.aff_spec.specs.Bevvies.{chunk_appends, more_appends, sums_of}
use Rattle.aff_spec.specs.Chunks.{chunk_at}
use Rattle.aff_spec.proofs.Appends.{applied-append, Reaches-after, Reaches-more, Reaches-whole}
use Rattle.aff_spec.proofs.Writing.{more_appends-append, more_appends-one}
use Rattle.aff_store.specs.Pieces.{chosen_chunks}

-- the digests of one of them
pub sums_at : (bytes stored : List ℕ) (sums : List ChunkSums) (k : ℕ) (d : ChunkSums) → sums ≡ chosen_sums bytes stored → k < length stored → sums_in (get_or sums k d) ≡ sums_of (chunk_at bytes (get_or stored k 0))
sums_at bytes stored sums k d is below = ap (λ v. sums_in (get_or v k d)) is ∙ ap sums_in (get_or-map (λ j. chunk_sums_of (chunk_at bytes j)) stored k 0 d below)

-- the SHA-256 among their digests
pub sha256_of_chosen : (bytes stored : List ℕ) → map (λ s. s.sha256) (chosen_sums bytes stored) ≡ map sha256 (chosen_chunks bytes stored)
sha256_of_chosen bytes [] = refl
sha256_of_chosen bytes (j ∷ stored) = ap (λ v. sha256 (chunk_at bytes j) ∷ v) (sha256_of_chosen bytes stored)

module _ (bytes stored : List ℕ) (k : ℕ) (below : k < length stored) where
  abbrev front : List (List ℕ)
  front = chosen_chunks bytes (take k stored)

  abbrev next : List ℕ
  next = chunk_at bytes (get_or stored k 0)

  pub chosen-next : chosen_chunks bytes (take (k + 1) stored) ≡ chosen_chunks bytes (take k stored) ++ chunk_at bytes (get_or stored k 0) ∷ []
  chosen-next = ap (map (chunk_at bytes)) (take_more stored k 0 below) ∙ map-append (chunk_at bytes) (take k stored) (get_or stored k 0 ∷ [])

  module _ (urn : List ℕ) (before : List (List ℕ)) where
    -- the chunks and the appends with the next one
    pub chunks-next : (before ++ front) ++ next ∷ [] ≡ before ++ chosen_chunks bytes (take (k + 1) stored)
    chunks-next = append_assoc before front (next ∷ []) ∙ ap (λ v. before ++ v) (sym chosen-next)

    more-next : more_appends urn before (chosen_chunks bytes (take (k + 1) stored)) ≡ more_appends urn before front ++ chunk_appends urn (before ++ front) next
    more-next =
        ap (more_appends urn before) chosen-next ∙ more_appends-append urn before front (next ∷ [])
        ∙ ap (λ v. more_appends urn before front ++ v) (more_appends-one urn (before ++ front) next)

    -- those behind it
    rest : List (List ℕ)
    rest = chosen_chunks bytes (drop (k + 1) stored)

    whole : more_appends urn before (chosen_chunks bytes stored) ≡ more_appends urn before (chosen_chunks bytes (take (k + 1) stored)) ++ more_appends urn (before ++ chosen_chunks bytes (take (k + 1) stored)) rest
    unfolding rest
    whole =
        ap (λ v. more_appends urn before (chosen_chunks bytes v)) (sym (take-append-drop (k + 1) stored))
        ∙ ap (more_appends urn before) (map-append (chunk_at bytes) (take (k + 1) stored) (drop (k + 1) stored))
        ∙ more_appends-append urn before (chosen_chunks bytes (take (k + 1) stored)) (chosen_chunks bytes (drop (k + 1) stored))

    module _ (old mid new : Held) (had : mid ≡ applied old (more_appends urn before front)) where
      -- it was appended
      pub held-next : new ≡ applied mid (chunk_appends urn (before ++ front) next) → new ≡ applied old (more_appends urn before (chosen_chunks bytes (take (k + 1) stored)))
      held-next now =
          now ∙ ap (λ h. applied h (chunk_appends urn (before ++ front) next)) had
          ∙ sym (applied-append old (more_appends urn before front) (chunk_appends urn (before ++ front) next)) ∙ ap (applied old) (sym more-next)

      -- no more than it was
      pub reached-whole : new ≡ applied mid (chunk_appends urn (before ++ front) next) → Reaches old (more_appends urn before (chosen_chunks bytes stored)) new
      reached-whole now =
          subst (λ v. Reaches old v new) (sym whole)
          (subst (Reaches old (more_appends urn before (chosen_chunks bytes (take (k + 1) stored)) ++ more_appends urn (before ++ chosen_chunks bytes (take (k + 1) stored)) rest)) (sym (held-next now))
          (Reaches-whole old (more_appends urn before (chosen_chunks bytes (take (k + 1) stored))) (more_appends urn (before ++ chosen_chunks bytes (take (k + 1) stored)) rest)))

      -- a part of it was
      pub reached-part : Reaches mid (chunk_appends urn (before ++ front) next) new → Reaches old (more_appends urn before (chosen_chunks bytes stored)) new
      reached-part part =
          let here : Reaches old (more_appends urn before (chosen_chunks bytes (take (k + 1) stored))) new =
          subst (λ v. Reaches old v new) (sym more-next)
          (Reaches-after old (more_appends urn before front) (chunk_appends urn (before ++ front) next) new
          (subst (λ h. Reaches h (chunk_appends urn (before ++ front) next) new) had part)) in
          subst (λ v. Reaches old v new) (sym whole)
          (Reaches-more old (more_appends urn before (chosen_chunks bytes (take (k + 1) stored))) (more_appends urn (before ++ chosen_chunks bytes (take (k + 1) stored)) rest) new here)
