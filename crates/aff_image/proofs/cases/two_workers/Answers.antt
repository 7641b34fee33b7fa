use Rattle.std.proofs.Common.{◌≢◌, ℕ, suc, refl, arith, inl, [], ◌∷◌}
use Rattle.std.specs.Prelude.{None, nat_eq}
use Rattle.std.specs.List.{IsDistinct}
use Rattle.std.proofs.lemmas.List.Elements.{All-cons, All-nil}
use Rattle.aff_model.specs.Legal.{IsClaimant}
use Rattle.aff_spec.specs.Chunks.{padded}
use Rattle.aff_image.specs.Witnesses.{Witnessed, IsWitnessed}
use Rattle.aff_image.specs.Small.{early_one, extent, late_one, plan_of}
use Rattle.aff_image.proofs.Small.{sector_read}
use Rattle.aff_image.proofs.cases.two_workers.Goals as goal

distinct : IsDistinct nat_eq (1 ∷ 0 ∷ [])
unfolding IsDistinct
distinct = ((refl, tt), (tt, tt))

pub returns-clause-readings : goal.returns-clause-readings
returns-clause-readings c =
    let P = IsWitnessed None (plan_of 1024 (extent 0 512 ∷ extent 512 512 ∷ [])) in
    let Q = λ (r : Witnessed). IsClaimant 2 r.published in
    record {
      each = All-cons P late_one (early_one ∷ []) (sector_read 512 7 0 (some 6)) (All-cons P early_one [] (sector_read 0 9 1 (some 8)) (All-nil P));
      claimants = All-cons Q late_one (early_one ∷ []) (inl (omega arith)) (All-cons Q early_one [] (inl (omega arith)) (All-nil Q));
      once = distinct;
      numbered = refl;
    }
  where
    some : (n : ℕ) → suc n ≢ 0
    some n e = omega (arith, e)

pub returns-clause-chunks : goal.returns-clause-chunks
unfolding padded
returns-clause-chunks c = refl
