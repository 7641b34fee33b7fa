use Rattle.std.proofs.Common.{◌<◌, length, arith, eq-eqb}
use Rattle.std.proofs.lemmas.Bool.Decides.{nat_tests}
use Rattle.aff_map.proofs.Sectors.{clear_at_end, clear_before_next, next_of_clear}
use Rattle.aff_map.proofs.extent.is_clean.Goals as goal

pub returns-then-next-bad : goal.returns-then-next-bad
returns-then-next-bad c = (
  λ _. clear_at_end c.args.bad.now c.args.first c.args.last c.in-Err.next c.in-Err.ensures.position c.requires.rising c.if-next-bad.true,
  λ _. eq-eqb _ _ c.if-next-bad.true,
)

pub returns-else-next-bad : goal.returns-else-next-bad
returns-else-next-bad c =
    let more : c.in-Err.next < length c.args.bad.now = omega (arith, c.in-Err.ensures.bound) in (
      λ low. clear_before_next c.args.bad.now c.args.first c.args.last c.in-Err.next c.in-Err.ensures.position c.requires.rising (grind (arith, nat_tests, low)),
      λ clear. let low = next_of_clear c.args.bad.now c.args.first c.args.last c.in-Err.next c.in-Err.ensures.position c.requires.rising more clear in grind (arith, nat_tests, low),
    )
