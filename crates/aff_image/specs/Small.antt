-- Small inputs.
use Rattle.std.specs.Prelude.{ℕ, ◌+◌, false, List, [], ◌∷◌, replicate}
use Rattle.std.proofs.Common.{inl, refl}
use Rattle.aff_model.specs.declared.extent.Extent.{Extent}
use Rattle.aff_model.specs.declared.publication.Place.{Place}
use Rattle.aff_model.specs.declared.publication.Place.TheVariants.{Chunk}
use Rattle.aff_model.specs.Content.{Content}
use Rattle.aff_model.specs.History.{Published}
use Rattle.aff_model.specs.Plan.{Planned}
use Rattle.aff_image.specs.Image.{Image, stored_of}
use Rattle.aff_image.specs.Witnesses.{Witnessed}

-- a content whose byte at each place is the place and one
abbrev pub counting : Content
counting = record {
  block = 512;
  byte = λ i. i + 1;
  weak = λ s. false;
  bad = λ s. false;
  is_block = inl refl;
  bad_is_weak = λ s h. h;
  weak_together = λ s t h. refl;
  bad_together = λ s t h. refl;
}

-- an extent of priority 0
abbrev pub extent : ℕ → ℕ → Extent
extent at len = record { at = at; len = len; priority = 0 }

-- a plan of a device of blocks of 512 bytes
abbrev pub plan_of : ℕ → List Extent → Planned
plan_of size extents = record { extents = extents; size = size; block = 512 }

-- a publication by a worker itself
abbrev pub publication : ℕ → ℕ → List ℕ → List Place → Published
publication number claimant bad places = record { extent = number; claimant = claimant; swept = false; bad = bad; places = places }

-- the image of a plan and a history of that content
abbrev pub image : ℕ → List Extent → List Published → Image
image size extents history =
    record { content = counting; plan = plan_of size extents; history = history; chunks = stored_of (record { content = counting; plan = plan_of size extents; history = history; chunks = [] }) }

-- one sector on a device of two
abbrev pub one_sector : Image
one_sector = image 1024 (extent 0 512 ∷ []) (publication 0 0 [] (Chunk 0 ∷ []) ∷ [])

-- three sectors in one extent, the second of which could not be read
abbrev pub one_bad : Image
one_bad = image 1536 (extent 0 1536 ∷ []) (publication 0 0 (1 ∷ []) (Chunk 0 ∷ []) ∷ [])

-- two extents of a sector each, the later one published first
abbrev pub urgent_first : Image
urgent_first = image 1024 (extent 0 512 ∷ extent 512 512 ∷ []) (publication 1 0 [] (Chunk 0 ∷ []) ∷ publication 0 0 [] (Chunk 1 ∷ []) ∷ [])

-- a sector of zeros but for its first byte
abbrev pub sector : ℕ → List ℕ
sector first = first ∷ replicate 511 0

-- the same two extents read by two workers, of a device that tells nothing
abbrev pub late_one : Witnessed
late_one = record { published = publication 1 1 [] (Chunk 0 ∷ []); bytes = sector 7 }

abbrev pub early_one : Witnessed
early_one = record { published = publication 0 0 [] (Chunk 1 ∷ []); bytes = sector 9 }

abbrev pub by_two : List Witnessed
by_two = late_one ∷ early_one ∷ []
