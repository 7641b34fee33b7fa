use Rattle.std.proofs.Common.{◌≡◌, List, map, sym, ap, ◌∙◌, subst}
use mathlib.Core.List.{IsPrefix}
use Rattle.std.specs.Arc.{arc_value}
use Rattle.aff_model.specs.History.{Part}
use Rattle.aff_snapshot.specs.Codes.{Name}
use Rattle.aff_snapshot.specs.Lists.{Beginning, AreListed, ListName, names_of}
use Rattle.aff_snapshot.specs.Sound.{AreSound}
use Rattle.aff_snapshot.proofs.Beginnings.{prefix_trans}
use Rattle.aff_snapshot.proofs.Joining.{begins, one_list, sound_listed, whole_begins}
use Rattle.aff_snapshot.proofs.viewer.Viewer.learn.Goals as goal

pub returns-in-Some-clause-one_list : goal.returns-in-Some-clause-one_list
returns-in-Some-clause-one_list g c =
    let code = g.R.Marked.marks in
    let ps = map arc_value c.self.inside.pieces.items in
    let qs = map arc_value c.told.inside.pieces.value.items in
    let mine : ListName = c.self.inside.front.list in
    let list : Beginning g.row.R.Denot → ListName = λ b. b.list in
    let pieces : Beginning g.row.R.Denot → List (Part g.row.R.Denot) = λ b. b.pieces in
    let same : c.told.inside.front.list ≡ mine = ap list c.told.view_is ∙ (c.requires ∙ sym (ap list c.self.view_is)) in
    let one = c.compare.ensures.one in
    let all : List Name = one.0 in
    let first : IsPrefix (names_of code ps) all = subst (λ (l : List Name). IsPrefix l all) (sym c.self.invariant.0) (prefix_trans _ _ _ c.self.invariant.4 (prefix_trans _ _ _ c.in-Some.ensures.0.1 one.2)) in
    let second : IsPrefix (names_of code qs) all = subst (λ (l : List Name). IsPrefix l all) (sym c.told.invariant.0) one.3 in
    let sound : AreSound g.C.Case.content mine.plan g.R.Telling.receipt_tells g.R.Telling.told qs = subst (λ (l : ListName). AreSound g.C.Case.content l.plan g.R.Telling.receipt_tells g.R.Telling.told qs) same c.told.invariant.1 in
    let listed : AreListed mine.plan ps = sound_listed code g.C.Case.content mine.plan g.R.Telling.receipt_tells g.R.Telling.told ps all c.self.invariant.1 first one.1 in
    let told : AreListed mine.plan qs = sound_listed code g.C.Case.content mine.plan g.R.Telling.receipt_tells g.R.Telling.told qs all sound second one.1 in
    let h = one_list code mine.plan ps qs all listed told first second in
    λ _. (
      h.0,
      subst (λ (l : ListName). AreListed l.plan h.0) (ap list c.self.view_is) h.1,
      subst (λ (l : List (Part g.row.R.Denot)). IsPrefix l h.0) (ap pieces c.self.view_is) h.2,
      subst (λ (l : List (Part g.row.R.Denot)). IsPrefix l h.0) (ap pieces c.told.view_is) h.3,
    )

pub returns-in-Some-clause-begins : goal.returns-in-Some-clause-begins
returns-in-Some-clause-begins g c = λ is le. let h = returns-in-Some-clause-one_list g c is in begins _ _ h.0 h.2 h.3 le

pub returns-in-Some-clause-whole : goal.returns-in-Some-clause-whole
returns-in-Some-clause-whole g c = λ is every. let h = returns-in-Some-clause-one_list g c is in whole_begins _ _ _ h.0 h.1 h.2 h.3 every
