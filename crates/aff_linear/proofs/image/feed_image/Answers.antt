use Rattle.aff_linear.proofs.Runs.{rest_fed}
use Rattle.aff_linear.proofs.image.feed_image.Goals as goal

pub returns-in-Ok-clause-fed : goal.returns-in-Ok-clause-fed
returns-in-Ok-clause-fed g c told =
    let image = c.requires.image in
    rest_fed c.args.size image.chunks c.args.entries.now image.runs (g.F.Folder.held c.args.folder.now) c.args.stream.now c.in-Ok.at c.args.feeder.now c.feed_entries.new.feeder c.feed_symbols.new.feeder
    c.in-Ok.ensures.last c.in-Ok.ensures.inside (c.in-Ok.ensures.fed told) c.feed_symbols.ensures
