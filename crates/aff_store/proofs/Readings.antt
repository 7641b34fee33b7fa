-- A draft whose chunks have places is a reading, whose stored chunks are the chosen ones.
use Rattle.std.proofs.Common.{◌≡◌, ℕ, zero, suc, ◌+◌, ◌<◌, List, [], ◌∷◌, length, get_or, map, refl, sym, ap, subst, ◌∙◌, arith}
use Rattle.std.specs.Prelude.{Option, None, Some, IfSome}
use Rattle.std.specs.List.{range_with_len}
use Rattle.aff_model.specs.declared.extent.Extent.{Extent}
use Rattle.aff_model.specs.declared.publication.Place.{Place}
use Rattle.aff_model.specs.declared.publication.Place.TheVariants.{Zero, Chunk, Nothing}
use Rattle.aff_model.specs.Content.{Content}
use Rattle.aff_model.specs.Legal.{numbers_of}
use Rattle.aff_model.specs.Plan.{chunk_count}
use Rattle.aff_chunk.specs.Cut.{IsCutOf}
use Rattle.aff_chunk.specs.declared.kind.Cut.{Cut}
use Rattle.aff_chunk.specs.declared.kind.Cut.TheVariants.{Zero as CutZero, Stored as CutStored, Nothing as CutNothing}
use Rattle.aff_spec.specs.Chunks.{chunk_at, chunks_from, stored_chunks}
use Rattle.aff_image.specs.Sound.{IsPlaceIn, IsReading}
use Rattle.aff_extent.specs.Drafts.{Drafted, IsDraft, stored_from}
use Rattle.aff_store.specs.Pieces.{ArePlaces, IsPlaceOf, chosen_chunks}

-- the place of a chunk that was cut so
place_in : (e : Extent) (bytes bad : List ℕ) (j : ℕ) (c : Cut) (p : Place) → IsPlaceOf c p → IsCutOf e bytes bad j c → IsPlaceIn e bytes bad j p
place_in e bytes bad j CutZero Zero kept cut = cut
place_in e bytes bad j CutZero (Chunk n) kept cut = absurd kept
place_in e bytes bad j CutZero Nothing kept cut = absurd kept
place_in e bytes bad j CutStored Zero kept cut = absurd kept
place_in e bytes bad j CutStored (Chunk n) kept cut = cut
place_in e bytes bad j CutStored Nothing kept cut = absurd kept
place_in e bytes bad j CutNothing Zero kept cut = absurd kept
place_in e bytes bad j CutNothing (Chunk n) kept cut = absurd kept
place_in e bytes bad j CutNothing Nothing kept cut = cut

-- the chunk of one place
chosen_one : (bytes : List ℕ) (j : ℕ) (c : Cut) (p : Place) (cuts : List Cut) (places : List Place) → IsPlaceOf c p
    → chunks_from bytes (suc j) places ≡ map (chunk_at bytes) (stored_from (j + 1) cuts) → chunks_from bytes j (p ∷ places) ≡ map (chunk_at bytes) (stored_from j (c ∷ cuts))
chosen_one bytes j CutZero Zero cuts places kept rest = rest
chosen_one bytes j CutZero (Chunk n) cuts places kept rest = absurd kept
chosen_one bytes j CutZero Nothing cuts places kept rest = absurd kept
chosen_one bytes j CutStored Zero cuts places kept rest = absurd kept
chosen_one bytes j CutStored (Chunk n) cuts places kept rest = ap (λ v. chunk_at bytes j ∷ v) rest
chosen_one bytes j CutStored Nothing cuts places kept rest = absurd kept
chosen_one bytes j CutNothing Zero cuts places kept rest = absurd kept
chosen_one bytes j CutNothing (Chunk n) cuts places kept rest = absurd kept
chosen_one bytes j CutNothing Nothing cuts places kept rest = rest

-- the chunks by their places are the chosen ones
chosen_along : (bytes : List ℕ) (j : ℕ) (cuts : List Cut) (places : List Place) → length places ≡ length cuts
    → ((k : ℕ) (c : Cut) (p : Place) → k < length cuts → IsPlaceOf (get_or cuts k c) (get_or places k p)) → chunks_from bytes j places ≡ map (chunk_at bytes) (stored_from j cuts)
chosen_along bytes j [] [] same kept = refl
chosen_along bytes j [] (p ∷ places) same kept = absurd (omega (arith, same))
chosen_along bytes j (c ∷ cuts) [] same kept = absurd (omega (arith, same))
chosen_along bytes j (c ∷ cuts) (p ∷ places) same kept =
    let one : suc j ≡ j + 1 = omega arith in
    chosen_one bytes j c p cuts places (kept 0 CutZero Zero (omega arith))
    (chosen_along bytes (suc j) cuts places (omega (arith, same)) (λ k d q below. kept (suc k) d q (omega (arith, below))) ∙ ap (λ n. map (chunk_at bytes) (stored_from n cuts)) one)

-- places of some cuts, numbered from a first number on
abbrev pub places_from : ℕ → List Cut → List Place
places_from n [] = []
places_from n (CutZero ∷ cuts) = Zero ∷ places_from n cuts
places_from n (CutStored ∷ cuts) = Chunk n ∷ places_from (n + 1) cuts
places_from n (CutNothing ∷ cuts) = Nothing ∷ places_from n cuts

length-places_from : (n : ℕ) (cuts : List Cut) → length (places_from n cuts) ≡ length cuts
length-places_from n [] = refl
length-places_from n (CutZero ∷ cuts) = ap suc (length-places_from n cuts)
length-places_from n (CutStored ∷ cuts) = ap suc (length-places_from (n + 1) cuts)
length-places_from n (CutNothing ∷ cuts) = ap suc (length-places_from n cuts)

kept-places_from : (n : ℕ) (cuts : List Cut) (k : ℕ) (c : Cut) (p : Place) → k < length cuts → IsPlaceOf (get_or cuts k c) (get_or (places_from n cuts) k p)
kept-places_from n [] k c p below = absurd (omega (arith, below))
kept-places_from n (CutZero ∷ cuts) zero c p below = tt
kept-places_from n (CutStored ∷ cuts) zero c p below = tt
kept-places_from n (CutNothing ∷ cuts) zero c p below = tt
kept-places_from n (CutZero ∷ cuts) (suc k) c p below = kept-places_from n cuts k c p (omega (arith, below))
kept-places_from n (CutStored ∷ cuts) (suc k) c p below = kept-places_from (n + 1) cuts k c p (omega (arith, below))
kept-places_from n (CutNothing ∷ cuts) (suc k) c p below = kept-places_from n cuts k c p (omega (arith, below))

pub row-places_from : (n : ℕ) (cuts : List Cut) → numbers_of (places_from n cuts) ≡ range_with_len n (length (numbers_of (places_from n cuts)))
row-places_from n [] = refl
row-places_from n (CutZero ∷ cuts) = row-places_from n cuts
row-places_from n (CutStored ∷ cuts) = ap (λ v. n ∷ v) (row-places_from (n + 1) cuts)
row-places_from n (CutNothing ∷ cuts) = row-places_from n cuts

pub are_places : (n : ℕ) (cuts : List Cut) → ArePlaces n cuts (places_from n cuts)
are_places n cuts = record { count = length-places_from n cuts; kept = kept-places_from n cuts; numbered = row-places_from n cuts }

-- an extent was read, and its chunks have these places
module _ (case : Option Content) (block : ℕ) (e : Extent) (bytes : List ℕ) (d : Drafted) (draft : IsDraft case block e bytes d) (first : ℕ) (places : List Place) (placed : ArePlaces first d.cuts places) where
  pub is_reading : IsReading case block e bytes d.unreadable places
  is_reading = record {
    len = draft.read.len;
    fits = draft.read.fits;
    known = draft.read.known;
    zero = draft.read.zero;
    count = placed.count ∙ draft.cut.count ∙ ap chunk_count draft.read.len;
    placed = λ j p below.
        let low : j < length d.cuts = omega (arith, below, placed.count) in
        place_in e bytes d.unreadable j (get_or d.cuts j CutZero) (get_or places j p) (placed.kept j CutZero p low) (draft.cut.each e j CutZero (sym draft.read.len) low);
  }

  pub chunks_are : stored_chunks bytes places ≡ chosen_chunks bytes d.stored
  chunks_are = chosen_along bytes 0 d.cuts places placed.count placed.kept ∙ ap (map (chunk_at bytes)) (sym draft.chosen)

-- a draft of a device that tells the run's content is one of that content
pub draft-told : (case own : Option Content) (block : ℕ) (e : Extent) (bytes : List ℕ) (d : Drafted) → IfSome case (λ c. own ≡ Some c) → IsDraft own block e bytes d → IsDraft case block e bytes d
draft-told None own block e bytes d told draft = record {
  read = record {
    len = draft.read.len;
    fits = record { rising = draft.read.fits.rising; inside = draft.read.fits.inside; together = draft.read.fits.together; weak = tt; every_bad = tt };
    known = tt;
    zero = draft.read.zero;
  };
  cut = draft.cut;
  chosen = draft.chosen;
  digests = draft.digests;
}
draft-told (Some c) own block e bytes d told draft = subst (λ o. IsDraft o block e bytes d) told draft
