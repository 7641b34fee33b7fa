use Rattle.std.proofs.Common.{◌≡◌, ap, subst, List}
use mathlib.Core.List.{IsPrefix}
use Rattle.aff_snapshot.specs.Codes.{Name}
use Rattle.aff_snapshot.specs.Lists.{Reached}
use Rattle.aff_snapshot.proofs.Beginnings.{prefix_shorter}
use Rattle.aff_snapshot.proofs.front.Front.compare.Goals as goal

pub returns-clause-order : goal.returns-clause-order
returns-clause-order c =
    let both = c.learn.new.self.log in
    let this : IsPrefix c.self.inside.seen.log both = subst (λ l. IsPrefix l both) (ap (λ s. s.log) c.again-both.ensures) c.learn.ensures.2 in
    let names : Reached → List Name = λ r. r.names in
    let a : c.self.inside.seen.log ≡ c.args.self.now.names = ap names c.self.view_is in
    let b : c.other.inside.seen.log ≡ c.args.other.now.names = ap names c.other.view_is in
    λ le. prefix_shorter c.args.self.now.names c.args.other.now.names both (subst (λ l. IsPrefix l both) a this) (subst (λ l. IsPrefix l both) b c.learn.ensures.3) le
