use Rattle.std.proofs.Common.{◌≡◌, length, map, refl, sym, ap, ◌∙◌, arith}
use Rattle.std.specs.List.{range_with_len}
use Rattle.aff_map.specs.declared.target.Target.TheVariants as target
use Rattle.aff_map.specs.Symbol.{symbol_of}
use Rattle.aff_analyst.proofs.Marks.{mark_bad, mark_good}
use Rattle.aff_analyst.proofs.sectors.mark_sector.Goals as goal

pub returns-then-is_bad : goal.returns-then-is_bad
returns-then-is_bad g c =
    let out = c.fill_letters.new.out in
    mark_bad g.R.Telling.receipt_tells g.R.Telling.told c.args.extent.now c.args.piece.now c.args.at (length out) out c.args.runs.now c.add.new.self
    (omega (arith, c.fill_letters.auto.out, c.requires.some)) (omega (arith, c.fill_letters.auto.out, c.requires.sector))
    (sym c.is_bad.ensures ∙ c.if-is_bad.true)
    (c.fill_letters.ensures ∙ ap (λ n. map (symbol_of target.Unreadable) (range_with_len c.args.at n)) (sym c.fill_letters.auto.out))
    c.add.ensures.kinds c.add.ensures.greatest c.add.ensures.few

pub returns-else-is_bad : goal.returns-else-is_bad
returns-else-is_bad g c =
    let out = c.args.out.now in
    mark_good g.R.Telling.receipt_tells g.R.Telling.told c.args.extent.now c.args.piece.now c.args.at (length out) out c.args.runs.now c.add-else-is_bad.new.self
    c.requires.some c.requires.sector
    (sym c.is_bad.ensures ∙ c.if-is_bad.false)
    refl c.requires.kept
    c.add-else-is_bad.ensures.kinds c.add-else-is_bad.ensures.greatest c.add-else-is_bad.ensures.few
