use Rattle.std.proofs.Common.{◌∙◌, rules, tests}
use Rattle.std.proofs.lemmas.Iterator.{YieldsList-from_slice}
use Rattle.std.proofs.lemmas.Iterator.Search.{find_from_yields_List}
use Rattle.aff_spec.specs.Runs.{covers}
use Rattle.aff_map.proofs.map.covering.Goals as goal

pub returns : goal.returns
returns c =
    c.copied.ensures
    ∙ find_from_yields_List (covers c.args.at) _ _ c.find.result c.find.ensures.ran (YieldsList-from_slice c.args.entries.now cc) (λ x b q k. search (rules, tests))
