use Rattle.std.proofs.Common.{◌≡◌, ◌<◌, length, refl, sym, ap, ◌∙◌, subst, arith}
use mathlib.Core.List.{IsPrefix}
use Rattle.left_right.specs.Sides.{view}
use Rattle.aff_snapshot.specs.declared.shown.Sight.{Sight}
use Rattle.aff_snapshot.specs.Lists.{ListName, Reached}
use Rattle.aff_snapshot.proofs.Beginnings.{prefix_self}
use Rattle.aff_snapshot.proofs.Plans.{list_tells}
use Rattle.aff_snapshot.proofs.Seeing.{sees}
use Rattle.aff_snapshot.proofs.viewer.enter.Goals as goal

pub enter_as-requires : goal.enter_as-requires
enter_as-requires c shown = sees _ _ shown shown refl (prefix_self shown.names)

pub returns-in-Ok-clause-seen : goal.returns-in-Ok-clause-seen
returns-in-Ok-clause-seen c =
    let eye : Sight = view c.args.eye.place in
    let after : Sight = view c.leave.result.place in
    let mine : ListName = c.args.mine.now.list in
    let shown : Reached = c.in-Ok.reading.part.value in
    let is : c.again-front.result ≡ shown = c.again-front.ensures ∙ c.get.ensures in
    let seen = c.in-Ok.ensures.1 in
    let named : 0 < length eye.list = subst (λ l. 0 < length l) (sym c.requires.named) (omega arith) in
    let list : shown.list ≡ mine = list_tells shown.list mine (sym (seen.had.list named) ∙ c.requires.named) in
    let names : Sight → _ = λ s. s.names in
    subst (λ (f : Reached). (f.list ≡ mine) × IsPrefix eye.names f.names × (after.names ≡ f.names)) (sym is) (list, seen.had.names, ap names c.leave.ensures.1 ∙ seen.names)
