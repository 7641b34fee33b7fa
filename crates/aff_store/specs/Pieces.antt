-- What is kept of an extent that was stored.
use Rattle.std.specs.Prelude.{◌≡◌, ℕ, ◌<◌, Bool, List, length, map, slice_index_or, IsTrue}
use Rattle.std.specs.List.{range_with_len}
use Rattle.sha2.specs.Sha256.{sha256}
use Rattle.aff_model.specs.declared.publication.Place.{Place}
use Rattle.aff_model.specs.declared.publication.Place.TheVariants.{Zero, Chunk, Nothing}
use Rattle.aff_model.specs.History.{Part, publication_of}
use Rattle.aff_model.specs.Legal.{numbers_of}
use Rattle.aff_spec.specs.Chunks.{chunk_at}
use Rattle.aff_chunk.specs.declared.kind.Cut.{Cut}
use Rattle.aff_chunk.specs.declared.kind.Cut.TheVariants.{Zero as CutZero, Stored as CutStored, Nothing as CutNothing}
use Rattle.aff_extent.specs.Drafts.{Drafted}
use Rattle.aff_store.specs.declared.claim.Claim.{Claim}

-- a chunk that is cut so has such a place
abbrev pub IsPlaceOf : Cut → Place → Type 0
IsPlaceOf CutZero Zero = Unit {0}
IsPlaceOf CutZero (Chunk c) = ⊥
IsPlaceOf CutZero Nothing = ⊥
IsPlaceOf CutStored Zero = ⊥
IsPlaceOf CutStored (Chunk c) = Unit {0}
IsPlaceOf CutStored Nothing = ⊥
IsPlaceOf CutNothing Zero = ⊥
IsPlaceOf CutNothing (Chunk c) = ⊥
IsPlaceOf CutNothing Nothing = Unit {0}

-- each chunk has its place, and the stored ones are numbered one after another from a first number on
pub record ArePlaces (first : ℕ) (cuts : List Cut) (places : List Place) : Type 0 where
  pub count : length places ≡ length cuts
  pub kept : (j : ℕ) (c : Cut) (p : Place) → j < length cuts → IsPlaceOf (slice_index_or cuts j c) (slice_index_or places j p)
  pub numbered : numbers_of places ≡ range_with_len first (length (numbers_of places))

-- the chunks of an extent's bytes that are to be stored, padded
abbrev pub chosen_chunks : List ℕ → List ℕ → List (List ℕ)
chosen_chunks bytes stored = map (chunk_at bytes) stored

-- the piece of a claim: with the unreadable sectors and the places of the draft, and of each stored chunk the SHA-256 and a
-- receipt, which tells it, where it tells
pub record IsPieceOf (claim : Claim) (first : ℕ) (bytes : List ℕ) (d : Drafted) (tells : Bool) {R : Type 0} (told : R → List ℕ) (p : Part R) : Type 0 where
  pub is : publication_of p ≡ record { extent = claim.extent; claimant = claim.claimant; swept = claim.swept; bad = d.unreadable; places = p.places }
  pub placed : ArePlaces first d.cuts p.places
  pub digests : p.digests ≡ map sha256 (chosen_chunks bytes d.stored)
  pub receipts : length p.receipts ≡ length d.stored
  pub told_chunks : IsTrue tells → map told p.receipts ≡ chosen_chunks bytes d.stored
