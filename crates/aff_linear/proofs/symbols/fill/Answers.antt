use Rattle.std.proofs.Common.{length, map, sym, ap, ◌∙◌}
use Rattle.std.specs.List.{range_with_len}
use Rattle.aff_map.specs.Symbol.{symbol_of}
use Rattle.aff_linear.proofs.Pieces.{zeros_are}
use Rattle.aff_linear.proofs.symbols.fill.Goals as goal

pub returns-in-Zero : goal.returns-in-Zero
returns-in-Zero c =
    c.fill.ensures.after (λ y same. same)
    ∙ zeros_are c.args.at (length c.args.out.now)
    ∙ ap (λ t. map (symbol_of t) (range_with_len c.args.at (length c.args.out.now))) (sym c.in-Zero.is)
