use Rattle.std.proofs.Common.{◌++◌, ap, ◌∙◌}
use Rattle.aff_linear.proofs.Runs.{on_ok, stored_run}
use Rattle.aff_linear.proofs.image.feed_entry.Goals as goal

pub returns-in-0-clause-fed : goal.returns-in-0-clause-fed
returns-in-0-clause-fed g c =
    on_ok c.feed_stored.result (λ fed told. fed told ∙ ap (λ v. c.args.feeder.now ++ v) (stored_run (g.F.Folder.held c.args.folder.now) c.args.stream.now c.args.entry.now c.in-0.is)) c.feed_stored.ensures.fed
