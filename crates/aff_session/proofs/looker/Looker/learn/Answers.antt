use Rattle.std.proofs.Common.{subst, IfSome}
use mathlib.Core.List.{IsPrefix}
use Rattle.aff_snapshot.specs.Lists.{HasEvery}
use Rattle.aff_session.specs.Looking.{Looking}
use Rattle.aff_session.proofs.looker.Looker.learn.Goals as goal

pub returns-clause-whole : goal.returns-clause-whole
returns-clause-whole g c t = subst (λ (x : Looking _ _). IfSome x.viewer (λ v. HasEvery x.plan c.args.told.pieces → IsPrefix v.pieces c.args.told.pieces)) c.self.view_is (c.learn.ensures.whole t)
