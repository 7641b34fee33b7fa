-- Small inputs: extents, publications, and a volume of four bytes.
use Rattle.std.specs.Prelude.{ℕ, ◌+◌, false, List, [], ◌∷◌, codes, refl}
use Rattle.std.proofs.Common.{inl}
use Rattle.std.specs.List.{range_with_len}
use Rattle.std.specs.Ordering.{nat_cmp}
use Rattle.std.specs.Cmp.Lexicographic.{slice_cmp}
use Rattle.std.specs.FinMap.{from_sorted}
use Rattle.aff_model.specs.declared.limits.TheConstants.{SECTOR}
use Rattle.aff_model.specs.declared.extent.Extent.{Extent}
use Rattle.aff_model.specs.declared.publication.Place.{Place}
use Rattle.aff_model.specs.declared.publication.Place.TheVariants.{Zero, Chunk, Nothing}
use Rattle.aff_model.specs.Content.{Content}
use Rattle.aff_model.specs.Held.{Held}
use Rattle.aff_model.specs.History.{Published}
use Rattle.aff_examine.specs.Folds.{Sight}
use Rattle.aff_examine.specs.Sights.{shown_as, shown_bytes}

-- a content in blocks of one sector, whose byte at each place is the place and one
abbrev pub counting : Content
counting = record {
  block = SECTOR;
  byte = λ i. i + 1;
  weak = λ s. false;
  bad = λ s. false;
  is_block = inl refl;
  bad_is_weak = λ s h. h;
  weak_together = λ s t e. refl;
  bad_together = λ s t e. refl;
}

-- an extent of priority 0
abbrev pub extent : ℕ → ℕ → Extent
extent at len = record { at = at; len = len; priority = 0 }

-- a publication by claimant 0
abbrev pub publication : ℕ → List ℕ → List Place → Published
publication number bad places = record { extent = number; claimant = 0; swept = false; bad = bad; places = places }

-- one chunk, stored
abbrev pub one_stored : List Published
one_stored = publication 0 [] (Chunk 0 ∷ []) ∷ []

-- sectors 01, bad, 03 in one extent
abbrev pub one_bad_read : Published
one_bad_read = publication 0 (1 ∷ []) (Chunk 0 ∷ [])

abbrev pub one_bad : List Published
one_bad = one_bad_read ∷ []

-- the same as it is shown to an examiner, as the publication of this front
abbrev pub one_bad_seen : ℕ → Sight
one_bad_seen front = record { piece = shown_as (extent 0 1536) front one_bad_read; bytes = shown_bytes counting (extent 0 1536) one_bad_read }

-- blocks 01, bad, 03 of eight sectors each, in one extent
abbrev pub one_bad_block : List Published
one_bad_block = publication 0 (range_with_len 8 8) (Chunk 0 ∷ []) ∷ []

-- three chunks, the second of which could not be read
abbrev pub bad_chunk : List Published
bad_chunk = publication 0 (range_with_len 64 64) (Chunk 0 ∷ Nothing ∷ Chunk 1 ∷ []) ∷ []

-- two chunks of zeros
abbrev pub two_zeros : List Published
two_zeros = publication 0 [] (Zero ∷ Zero ∷ []) ∷ []

-- two extents of a chunk each, the later one published first
abbrev pub urgent_first : List Published
urgent_first = publication 1 [] (Chunk 0 ∷ []) ∷ publication 0 [] (Chunk 1 ∷ []) ∷ []

abbrev pub uuid : List ℕ
uuid = codes "11111111-2222-4333-8444-555555555555"

-- a volume whose stream is one short chunk of four bytes, and whose map has one entry: its segments, and the folder
abbrev pub four_bytes_segments : List (List ℕ × List ℕ)
four_bytes_segments =
    (codes "aff4%3A%2F%2F11111111-2222-4333-8444-555555555555%2Fdata/00000000", 9 ∷ 8 ∷ 7 ∷ 6 ∷ [])
    ∷ (codes "aff4%3A%2F%2F11111111-2222-4333-8444-555555555555%2Fdata/00000000.index", 0 ∷ 0 ∷ 0 ∷ 0 ∷ 0 ∷ 0 ∷ 0 ∷ 0 ∷ 4 ∷ 0 ∷ 0 ∷ 0 ∷ [])
    ∷ (codes "aff4%3A%2F%2F11111111-2222-4333-8444-555555555555%2Fimage/idx", codes "aff4://11111111-2222-4333-8444-555555555555/data\nhttp://aff4.org/Schema#Zero\n")
    ∷ (
      codes "aff4%3A%2F%2F11111111-2222-4333-8444-555555555555%2Fimage/map",
      2 ∷ 0 ∷ 0 ∷ 0 ∷ 0 ∷ 0 ∷ 0 ∷ 0 ∷ 3 ∷ 0 ∷ 0 ∷ 0 ∷ 0 ∷ 0 ∷ 0 ∷ 0 ∷ 1 ∷ 0 ∷ 0 ∷ 0 ∷ 0 ∷ 0 ∷ 0 ∷ 0 ∷ 0 ∷ 0 ∷ 0 ∷ 0 ∷ [],
    )
    ∷ []

abbrev pub four_bytes : Held
four_bytes = from_sorted {R = slice_cmp nat_cmp} four_bytes_segments
