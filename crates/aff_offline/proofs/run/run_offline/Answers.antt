use Rattle.std.proofs.Common.{map}
use Rattle.aff_offline.specs.Answered.{shown_folder}
use Rattle.aff_offline.specs.Written.{shown_sink}
use Rattle.aff_offline.proofs.Endings.{outcome_of}
use Rattle.aff_offline.proofs.run.run_offline.Goals as goal

pub returns : goal.returns
returns g c = record {
  outcome =
      outcome_of (map (λ w. w.now) c.args.words.now) g.F.Folder.tells (shown_folder g.F.Folder c.args.folder.now) (shown_folder g.F.Folder c.perform-outcome.new.folder) (shown_sink g.K.Sink c.args.sink.now)
      (shown_sink g.K.Sink c.tell.new.sink) c.tell.result c.perform-outcome.result c.perform-outcome.ensures.result c.perform-outcome.ensures.kept c.tell.ensures;
}
