-- Readings of one sector.
use Rattle.std.proofs.Common.{◌≢◌, ℕ, zero, suc, ◌<◌, [], ◌∷◌, get_or, refl, arith}
use Rattle.std.specs.Prelude.{None}
use Rattle.std.proofs.lemmas.List.Elements.{All-nil}
use Rattle.aff_model.specs.declared.publication.Place.{Place}
use Rattle.aff_model.specs.declared.publication.Place.TheVariants.{Chunk}
use Rattle.aff_spec.proofs.Members.{Contains-none}
use Rattle.aff_image.specs.Sound.{IsPlaceIn, IsReading}
use Rattle.aff_image.specs.Small.{extent, sector}

-- a sector whose first byte is not 0 is read, whatever the device tells of it
pub sector_read : (at first number : ℕ) → first ≢ 0 → IsReading None 512 (extent at 512) (sector first) [] (Chunk number ∷ [])
sector_read at first number some = record {
  len = refl;
  fits = record {
    rising = λ k below. absurd (omega (arith, below));
    inside = All-nil (λ s. s < 1);
    together = λ s t has low one. absurd (Contains-none s has);
    weak = tt;
    every_bad = tt;
  };
  known = tt;
  zero = λ k below has. absurd (Contains-none _ has);
  count = refl;
  placed = placed;
}
  where
    placed : (j : ℕ) (d : Place) → j < 1 → IsPlaceIn (extent at 512) (sector first) [] j (get_or (Chunk number ∷ []) j d)
    placed zero d below = (
      λ none. Contains-none 0 (none 0 (record { from = omega arith; to = omega arith; inside = omega arith })),
      λ both. some (both.1 0 (omega arith) (omega arith) (omega arith)),
    )
    placed (suc j) d below = absurd (omega (arith, below))
