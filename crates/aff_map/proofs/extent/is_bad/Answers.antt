use Rattle.std.proofs.Common.{◌∙◌}
use Rattle.aff_map.proofs.Sectors.{is_ok-search}
use Rattle.aff_map.proofs.extent.is_bad.Goals as goal

pub returns : goal.returns
returns c = c.is_ok.ensures.value ∙ is_ok-search c.args.bad.now c.args.sector c.binary_search.result c.binary_search.ensures.position c.requires
