use Rattle.std.proofs.Common.{◌≡◌, ◌+◌, ◌-◌, ◌∷◌, length, drop, get_or, refl, subst, arith}
use Rattle.aff_model.specs.declared.publication.Place.TheVariants.{Zero}
use Rattle.std.proofs.lemmas.List.{drop_all}
use Rattle.aff_spec.specs.Report.{place_runs, with_place}
use Rattle.aff_report.specs.Runs.{next_place, run_of}
use Rattle.aff_report.proofs.Cuts.{places_joined}
use Rattle.aff_report.proofs.Joins.{IsOpen, IsOpen-apart, IsOpen-end, IsOpen-more}
use Rattle.aff_report.proofs.places.first_run.Goals as goal

pub returns-then-not-goes_on-clause-run : goal.returns-then-not-goes_on-clause-run
returns-then-not-goes_on-clause-run c =
    IsOpen-apart next_place run_of with_place place_runs places_joined c.args.places.now _ _ Zero c.loop-count.count c.loop-count.invariant.some (omega arith) (λ e. let same = c.if-not-goes_on.ensures.1 e in cc) c.loop-count.invariant.is_open

pub loop-count-preserved : goal.loop-count-preserved
loop-count-preserved c =
    let before : c.loop-count.count ≡ c.loop-count.count + 1 - 1 = omega arith in
    record {
      some = omega arith;
      is_open = subst (λ k. IsOpen run_of with_place place_runs c.args.places.now (get_or c.args.places.now 0 Zero) (get_or c.args.places.now k Zero) (c.loop-count.count + 1)) before
          (IsOpen-more next_place run_of with_place place_runs places_joined c.args.places.now _ _ Zero c.loop-count.count c.loop-count.invariant.some (omega arith) (c.if-not-goes_on.ensures.0 refl) c.loop-count.invariant.is_open);
    }

pub returns-clause-run : goal.returns-clause-run
returns-clause-run c =
    let ended : c.loop-count.count ≡ length c.args.places.now = omega arith in
    subst (λ k. place_runs c.args.places.now ≡ run_of (get_or c.args.places.now 0 Zero) k ∷ place_runs (drop k c.args.places.now)) ended
    (IsOpen-end next_place run_of with_place place_runs places_joined c.args.places.now _ _ c.loop-count.count c.loop-count.invariant.some (drop_all c.loop-count.count c.args.places.now (omega arith)) c.loop-count.invariant.is_open)
