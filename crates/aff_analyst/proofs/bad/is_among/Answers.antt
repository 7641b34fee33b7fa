use Rattle.std.proofs.Common.{◌∙◌}
use Rattle.aff_map.proofs.Sectors.{is_ok-search}
use Rattle.aff_analyst.proofs.bad.is_among.Goals as goal

pub returns : goal.returns
returns c = c.is_ok.ensures.value ∙ is_ok-search c.args.rising.now c.args.sector _ c.binary_search.ensures.position c.requires
