-- The report of a run, line by line.
use Rattle.std.specs.Prelude.{ℕ, ◌+◌, ◌==◌, List, [], ◌∷◌, ◌++◌, length, codes, if◌then◌else◌, map}
use Rattle.std.specs.Fmt.{decimal}
use Rattle.std.specs.List.{join_with_byte}
use Rattle.aff_model.specs.declared.publication.Place.{Place}
use Rattle.aff_model.specs.declared.publication.Place.TheVariants.{Zero, Chunk, Nothing}
use Rattle.aff_model.specs.History.{Published}

-- a run of places of one kind; of stored ones, with chunk numbers that are each one more than the one before
pub data PlaceRun : Type 0 where
  Zeros : ℕ → PlaceRun
  Nothings : ℕ → PlaceRun
  Chunks : ℕ → ℕ → PlaceRun

-- the greatest runs of a list with one more place in front
abbrev pub with_place : Place → List PlaceRun → List PlaceRun
with_place Zero (Zeros n ∷ runs) = Zeros (n + 1) ∷ runs
with_place Zero runs = Zeros 1 ∷ runs
with_place Nothing (Nothings n ∷ runs) = Nothings (n + 1) ∷ runs
with_place Nothing runs = Nothings 1 ∷ runs
with_place (Chunk c) (Chunks first n ∷ runs) = if first == c + 1 then Chunks c (n + 1) ∷ runs else Chunks c 1 ∷ Chunks first n ∷ runs
with_place (Chunk c) runs = Chunks c 1 ∷ runs

-- the greatest runs of a list of places
abbrev pub place_runs : List Place → List PlaceRun
place_runs [] = []
place_runs (p ∷ places) = with_place p (place_runs places)

abbrev pub place_run_text : PlaceRun → List ℕ
place_run_text (Zeros n) = codes "z" ++ decimal n
place_run_text (Nothings n) = codes "n" ++ decimal n
place_run_text (Chunks first n) = codes "c" ++ (decimal first ++ (codes "+" ++ decimal n))

abbrev pub places_text : List Place → List ℕ
places_text places = join_with_byte 44 (map place_run_text (place_runs places))

-- a run of neighbouring sectors
pub record SectorRun : Type 0 where
  pub first : ℕ
  pub count : ℕ

-- the greatest runs of a list with one more sector in front
abbrev pub with_sector : ℕ → List SectorRun → List SectorRun
with_sector s [] = record { first = s; count = 1 } ∷ []
with_sector s (r ∷ runs) = if r.first == s + 1 then record { first = s; count = r.count + 1 } ∷ runs else record { first = s; count = 1 } ∷ r ∷ runs

-- the greatest runs of a list of sectors
abbrev pub sector_runs : List ℕ → List SectorRun
sector_runs [] = []
sector_runs (s ∷ sectors) = with_sector s (sector_runs sectors)

abbrev pub sector_run_text : SectorRun → List ℕ
sector_run_text r = decimal r.first ++ (codes "+" ++ decimal r.count)

abbrev pub bad_text : List ℕ → List ℕ
bad_text [] = codes "-"
bad_text (s ∷ sectors) = join_with_byte 44 (map sector_run_text (sector_runs (s ∷ sectors)))

-- `publication FRONT EXTENT CLAIMANT HOW BAD PLACES`
abbrev pub publication_line : ℕ → Published → List ℕ
publication_line front p = codes "publication " ++ (decimal front ++ (codes " " ++ (decimal p.extent ++ (codes " " ++ (decimal p.claimant
    ++ (codes " " ++ ((if p.swept then codes "swept" else codes "own") ++ (codes " " ++ (bad_text p.bad ++ (codes " " ++ (places_text p.places ++ codes "\n")))))))))))

-- one line a publication, in order, the first of them with the front given
abbrev pub publication_lines : ℕ → List Published → List ℕ
publication_lines front [] = []
publication_lines front (p ∷ history) = publication_line front p ++ publication_lines (front + 1) history

-- the lines before the publications
abbrev pub header_text : List ℕ → ℕ → ℕ → ℕ → List ℕ
header_text uuid size extents publications =
    codes "volume aff4://" ++ (uuid ++ (codes "\nsize " ++ (decimal size ++ (codes "\nextents " ++ (decimal extents
    ++ (codes "\npublications " ++ (decimal publications ++ codes "\n")))))))

-- the lines from `volume` to the last `publication`
abbrev pub report_text : List ℕ → ℕ → ℕ → List Published → List ℕ
report_text uuid size extents history = header_text uuid size extents (length history) ++ publication_lines 1 history
