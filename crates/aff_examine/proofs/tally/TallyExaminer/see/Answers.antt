use Rattle.std.proofs.Common.{◌/◌, ◌≤◌, length, ap, rules, arith}
use Rattle.aff_model.specs.Shown.{Shown}
use Rattle.aff_examine.proofs.Counts.{few_rise}
use Rattle.aff_examine.proofs.tally.TallyExaminer.see.Goals as goal

pub overflow_mul-unreadable : goal.overflow_mul-unreadable
overflow_mul-unreadable c =
    let few = few_rise c.args.piece.now.bad (c.args.piece.now.len / 512) c.requires.rising c.requires.inside in
    let count = ap (λ (s : Shown). length s.bad) c.piece.view_is in
    let low : c.len.result ≤ 131072 = omega (arith, few, count, c.requires.short, c.len.ensures) in
    search rules

pub overflow_sub-piece-inside : goal.overflow_sub-piece-inside
overflow_sub-piece-inside c =
    let few = few_rise c.args.piece.now.bad (c.args.piece.now.len / 512) c.requires.rising c.requires.inside in
    let count = ap (λ (s : Shown). length s.bad) c.piece.view_is in
    let len = ap (λ (s : Shown). s.len) c.piece.view_is in
    omega (arith, few, count, len, c.len.ensures)
