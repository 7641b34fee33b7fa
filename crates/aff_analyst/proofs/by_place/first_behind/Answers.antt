use Rattle.std.proofs.Common.{rules, ◌≡◌, ℕ, ◌<◌, ◌≤◌, leb, true, false, get_or, arith}
use Rattle.std.proofs.lemmas.Bool.Decides.{leb_tells, nat_tests}
use Rattle.std.proofs.lemmas.List.Sorted.{IsPartitionedBy-leb, IsPartitionPoint-from_clause}
use Rattle.aff_model.specs.Index.{end_of}
use Rattle.aff_model.proofs.Find.{begun_by}
use Rattle.aff_analyst.proofs.Raising.{ends_rise}
use Rattle.aff_analyst.proofs.by_place.first_behind.Goals as goal

pub returns-clause-before : goal.returns-clause-before
returns-clause-before c k l =
    let es = c.args.extents.now in
    let index = c.args.index.now in
    let rise = ends_rise es index c.requires.bytes c.requires.apart c.requires.sorted in
    let point = IsPartitionPoint-from_clause (λ n. leb (end_of es n) c.args.at) _ _ c.partition_point.ensures.partitioned (IsPartitionedBy-leb (end_of es) _ c.args.at rise) (λ a r q k. search rules) in
    begun_by (end_of es (get_or index k 0)) c.args.at (point.0 k 0 (omega arith) l)

pub returns-clause-behind : goal.returns-clause-behind
returns-clause-behind c k low high =
    let es = c.args.extents.now in
    let index = c.args.index.now in
    let rise = ends_rise es index c.requires.bytes c.requires.apart c.requires.sorted in
    let point = IsPartitionPoint-from_clause (λ n. leb (end_of es n) c.args.at) _ _ c.partition_point.ensures.partitioned (IsPartitionedBy-leb (end_of es) _ c.args.at rise) (λ a r q k. search rules) in
    ends_late (end_of es (get_or index k 0)) c.args.at (point.1 k 0 low high)
  where
    ends_late : (end at : ℕ) → leb end at ≡ false → at < end
    ends_late end at t = let b = leb_tells end at in grind (arith, nat_tests)
