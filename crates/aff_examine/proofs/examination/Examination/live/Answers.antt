use Rattle.aff_examine.proofs.Goings.{live_folds}
use Rattle.aff_examine.proofs.examination.Examination.live.Goals as goal

pub returns-clause-fold : goal.returns-clause-fold
returns-clause-fold g c = live_folds g.F.Receipt.Telling.receipt_tells g.F.Receipt.Telling.told c.args.self.now.follower c.follow.new.follower _ _ _ c.follow.ensures.on c.requires.inside c.follow.ensures.fold
