-- How sectors and places are cut into runs.
use Rattle.std.proofs.Common.{◌≡◌, ℕ, ◌+◌, ◌==◌, true, false, List, [], ◌∷◌, refl, ap, arith}
use Rattle.std.specs.Prelude.{if◌then◌else◌}
use Rattle.std.proofs.lemmas.Bool.Decides.{nat_tests}
use Rattle.aff_model.specs.declared.publication.Place.{Place}
use Rattle.aff_model.specs.declared.publication.Place.TheVariants.{Zero, Chunk, Nothing}
use Rattle.aff_spec.specs.Report.{PlaceRun, SectorRun, Zeros, Nothings, Chunks, with_place, with_sector, place_runs, sector_runs}
use Rattle.aff_report.specs.Runs.{next_place, run_of}
use Rattle.aff_report.proofs.Joins.{AreJoined}

abbrev pub sectors_from : ℕ → ℕ → SectorRun
sectors_from first n = record { first = first; count = n }

same : (a : ℕ) → (a == a) ≡ true
same a = grind (arith, nat_tests)

differ : (a b : ℕ) → ¬ (a ≡ b) → (a == b) ≡ false
differ a b h = grind (arith, nat_tests)

sector_starts : (a : ℕ) (rest : List SectorRun) → (n : ℕ) × ((more : List SectorRun) × (with_sector a rest ≡ sectors_from a n ∷ more))
sector_starts a [] = (1, ([], refl))
sector_starts a (r ∷ rest) =
    elim (r.first == a + 1) as (λ b. (n : ℕ) × ((more : List SectorRun) × ((if b then sectors_from a (r.count + 1) ∷ rest else sectors_from a 1 ∷ r ∷ rest) ≡ sectors_from a n ∷ more)))
    [ true ↦ (r.count + 1, (rest, refl)) | false ↦ (1, (r ∷ rest, refl)) ]

pub sectors_joined : AreJoined (λ s. s + 1) sectors_from with_sector sector_runs
sectors_joined = record {
  none = refl;
  more = λ a xs. refl;
  alone = λ a. refl;
  goes_on = λ a n rest. ap (λ t. if t then sectors_from a (n + 1) ∷ rest else sectors_from a 1 ∷ sectors_from (a + 1) n ∷ rest) (same (a + 1));
  apart = λ a b n rest h. ap (λ t. if t then sectors_from a (n + 1) ∷ rest else sectors_from a 1 ∷ sectors_from b n ∷ rest) (differ b (a + 1) h);
  starts = sector_starts;
}

place_starts : (a : Place) (rest : List PlaceRun) → (n : ℕ) × ((more : List PlaceRun) × (with_place a rest ≡ run_of a n ∷ more))
place_starts Zero [] = (1, ([], refl))
place_starts Zero (Zeros n ∷ rest) = (n + 1, (rest, refl))
place_starts Zero (Nothings n ∷ rest) = (1, (Nothings n ∷ rest, refl))
place_starts Zero (Chunks first n ∷ rest) = (1, (Chunks first n ∷ rest, refl))
place_starts Nothing [] = (1, ([], refl))
place_starts Nothing (Zeros n ∷ rest) = (1, (Zeros n ∷ rest, refl))
place_starts Nothing (Nothings n ∷ rest) = (n + 1, (rest, refl))
place_starts Nothing (Chunks first n ∷ rest) = (1, (Chunks first n ∷ rest, refl))
place_starts (Chunk c) [] = (1, ([], refl))
place_starts (Chunk c) (Zeros n ∷ rest) = (1, (Zeros n ∷ rest, refl))
place_starts (Chunk c) (Nothings n ∷ rest) = (1, (Nothings n ∷ rest, refl))
place_starts (Chunk c) (Chunks first n ∷ rest) =
    elim (first == c + 1) as (λ b. (k : ℕ) × ((more : List PlaceRun) × ((if b then Chunks c (n + 1) ∷ rest else Chunks c 1 ∷ Chunks first n ∷ rest) ≡ Chunks c k ∷ more)))
    [ true ↦ (n + 1, (rest, refl)) | false ↦ (1, (Chunks first n ∷ rest, refl)) ]

place_goes_on : (a : Place) (n : ℕ) (rest : List PlaceRun) → with_place a (run_of (next_place a) n ∷ rest) ≡ run_of a (n + 1) ∷ rest
place_goes_on Zero n rest = refl
place_goes_on Nothing n rest = refl
place_goes_on (Chunk c) n rest = ap (λ t. if t then Chunks c (n + 1) ∷ rest else Chunks c 1 ∷ Chunks (c + 1) n ∷ rest) (same (c + 1))

place_apart : (a b : Place) (n : ℕ) (rest : List PlaceRun) → ¬ (b ≡ next_place a) → with_place a (run_of b n ∷ rest) ≡ run_of a 1 ∷ run_of b n ∷ rest
place_apart Zero Zero n rest h = absurd (h refl)
place_apart Zero Nothing n rest h = refl
place_apart Zero (Chunk c) n rest h = refl
place_apart Nothing Zero n rest h = refl
place_apart Nothing Nothing n rest h = absurd (h refl)
place_apart Nothing (Chunk c) n rest h = refl
place_apart (Chunk c) Zero n rest h = refl
place_apart (Chunk c) Nothing n rest h = refl
place_apart (Chunk c) (Chunk first) n rest h =
    ap (λ t. if t then Chunks c (n + 1) ∷ rest else Chunks c 1 ∷ Chunks first n ∷ rest) (differ first (c + 1) (λ e. h (ap Chunk e)))

place_alone : (a : Place) → with_place a [] ≡ run_of a 1 ∷ []
place_alone Zero = refl
place_alone Nothing = refl
place_alone (Chunk c) = refl

pub places_joined : AreJoined next_place run_of with_place place_runs
places_joined = record {
  none = refl;
  more = λ a xs. refl;
  alone = place_alone;
  goes_on = place_goes_on;
  apart = place_apart;
  starts = place_starts;
}
