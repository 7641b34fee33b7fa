-- Runs as the code has them, and the texts of lists of which a part is written.
use Rattle.std.specs.Prelude.{ℕ, ◌+◌, List, map}
use Rattle.std.specs.List.{join_with_byte}
use Rattle.aff_model.specs.declared.publication.Place.{Place}
use Rattle.aff_model.specs.declared.publication.Place.TheVariants.{Zero, Chunk, Nothing}
use Rattle.aff_spec.specs.Report as report
use Rattle.aff_spec.specs.Report.{Zeros, Nothings, Chunks, sector_run_text, sector_runs}
use Rattle.aff_report.specs.declared.places.PlaceRun.{PlaceRun}
use Rattle.aff_report.specs.declared.sectors.SectorRun.{SectorRun}

-- a run of sectors, as the format has it
abbrev pub sector_run : SectorRun → report.SectorRun
sector_run run = record { first = run.first; count = run.count }

-- the runs of sectors with commas between them; nothing where there are none
abbrev pub sectors_text : List ℕ → List ℕ
sectors_text sectors = join_with_byte 44 (map sector_run_text (sector_runs sectors))

-- places of one kind, from the first of them on
abbrev pub run_of : Place → ℕ → report.PlaceRun
run_of Zero n = Zeros n
run_of (Chunk first) n = Chunks first n
run_of Nothing n = Nothings n

-- a run of places, as the format has it
abbrev pub place_run : PlaceRun → report.PlaceRun
place_run run = run_of run.first run.count

-- the place that goes on a run behind another
abbrev pub next_place : Place → Place
next_place Zero = Zero
next_place (Chunk c) = Chunk (c + 1)
next_place Nothing = Nothing
