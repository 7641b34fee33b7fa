use Rattle.std.proofs.Common.{◌≡◌, ◌+◌, ◌-◌, ◌∷◌, length, drop, get_or, refl, subst, arith}
use Rattle.std.proofs.lemmas.List.{drop_all}
use Rattle.aff_spec.specs.Report.{sector_runs, with_sector}
use Rattle.aff_report.proofs.Cuts.{sectors_from, sectors_joined}
use Rattle.aff_report.proofs.Joins.{IsOpen, IsOpen-apart, IsOpen-end, IsOpen-more}
use Rattle.aff_report.proofs.sectors.first_run.Goals as goal

pub returns-then-not-goes_on-clause-run : goal.returns-then-not-goes_on-clause-run
returns-then-not-goes_on-clause-run c =
    IsOpen-apart (λ s. s + 1) sectors_from with_sector sector_runs sectors_joined c.args.sectors.now _ _ 0 c.loop-count.count c.loop-count.invariant.some (omega arith) (λ e. let same = c.if-not-goes_on.ensures.1 e in cc) c.loop-count.invariant.is_open

pub loop-count-preserved : goal.loop-count-preserved
loop-count-preserved c =
    let before : c.loop-count.count ≡ c.loop-count.count + 1 - 1 = omega arith in
    record {
      some = omega arith;
      is_open = subst (λ k. IsOpen sectors_from with_sector sector_runs c.args.sectors.now (get_or c.args.sectors.now 0 0) (get_or c.args.sectors.now k 0) (c.loop-count.count + 1)) before
          (IsOpen-more (λ s. s + 1) sectors_from with_sector sector_runs sectors_joined c.args.sectors.now _ _ 0 c.loop-count.count c.loop-count.invariant.some (omega arith) (c.if-not-goes_on.ensures.0 refl) c.loop-count.invariant.is_open);
    }

pub returns-clause-run : goal.returns-clause-run
returns-clause-run c =
    let ended : c.loop-count.count ≡ length c.args.sectors.now = omega arith in
    subst (λ k. sector_runs c.args.sectors.now ≡ sectors_from (get_or c.args.sectors.now 0 0) k ∷ sector_runs (drop k c.args.sectors.now)) ended
    (IsOpen-end (λ s. s + 1) sectors_from with_sector sector_runs sectors_joined c.args.sectors.now _ _ c.loop-count.count c.loop-count.invariant.some (drop_all c.loop-count.count c.args.sectors.now (omega arith)) c.loop-count.invariant.is_open)
