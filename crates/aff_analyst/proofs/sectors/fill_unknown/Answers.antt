use Rattle.std.proofs.Common.{◌≡◌, length, map, sym, ap, ◌∙◌, arith}
use Rattle.std.specs.List.{range_with_len}
use Rattle.aff_map.specs.declared.target.Target.TheVariants as target
use Rattle.aff_map.specs.Symbol.{symbol_of}
use Rattle.aff_analyst.proofs.Marks.{mark_unknown}
use Rattle.aff_analyst.proofs.sectors.fill_unknown.Goals as goal

pub returns : goal.returns
returns c =
    let out = c.fill_letters.new.out in
    mark_unknown c.args.at (length out) out c.args.runs.now c.add.new.self
    (omega (arith, c.fill_letters.auto.out, c.requires.some))
    (c.fill_letters.ensures ∙ ap (λ n. map (symbol_of target.Unknown) (range_with_len c.args.at n)) (sym c.fill_letters.auto.out))
    c.add.ensures.kinds c.add.ensures.greatest c.add.ensures.few
