use Rattle.std.proofs.Common.{◌≡◌, ℕ, List, [], map, refl, sym, ap, ◌∙◌, subst}
use Rattle.std.proofs.lemmas.List.Elements.{All-nil}
use mathlib.Core.List.{IsPrefix}
use Rattle.std.specs.Arc.{arc_value}
use Rattle.left_right.specs.Sides.{view}
use Rattle.aff_model.specs.History.{Part}
use Rattle.aff_snapshot.specs.declared.shown.Sight.{Sight}
use Rattle.aff_snapshot.specs.Codes.{Name}
use Rattle.aff_snapshot.specs.Lists.{Reached, Beginning, names_of, numbers_of}
use Rattle.aff_snapshot.specs.Sound.{AreSound}
use Rattle.aff_snapshot.proofs.Seeing.{admits, forks, merges}
use Rattle.aff_snapshot.proofs.publisher.Publisher.viewer.Goals as goal

pub reader-requires : goal.reader-requires
reader-requires g c = admits

pub tell-requires : goal.tell-requires
tell-requires g c = forks _ _

pub learn-requires-clause-rule : goal.learn-requires-clause-rule
learn-requires-clause-rule g c = merges _ _ _ _

pub invariant_of-result : goal.invariant_of-result
invariant_of-result g c =
    let code = g.R.Marked.marks in
    let front = c.self.inside.front in
    let none : map arc_value c.self.inside.pieces.items ≡ [] = ap (λ (b : Beginning g.row.R.Denot). b.pieces) c.self.view_is ∙ c.requires.new in
    let empty : front.names ≡ [] = sym c.self.invariant.0 ∙ ap (names_of code) none in
    let again : c.again.result ≡ front = c.again.ensures in
    let list : Sight → List ℕ = λ v. v.list in
    let sight : view c.learn.new.self.place ≡ view c.self.inside.desk.hand.desk.place = c.learn.ensures.1 ∙ c.tell.ensures.given.1 in
    let start : c.again.result.names ≡ [] = ap (λ (r : Reached). r.names) again ∙ empty in (
      ap (λ l. names_of code (map arc_value l)) c.in_ok-pieces.ensures.items ∙ sym start,
      subst (λ (ps : List (Part g.row.R.Denot)). AreSound g.C.Case.content c.again.result.list.plan g.R.Telling.receipt_tells g.R.Telling.told ps) (sym (ap (map arc_value) c.in_ok-pieces.ensures.items)) (All-nil _),
      ap (λ (l : _). l.tag) c.in_ok-list.ensures ∙ (c.self.invariant.3 ∙ ap (λ (r : Reached). numbers_of r.list) (sym again)),
      ap list sight ∙ (c.self.invariant.5 ∙ ap (λ (r : Reached). numbers_of r.list) (sym again)),
      subst (λ (l : List Name). IsPrefix l (view c.learn.new.self.place).names) (sym start) ((view c.learn.new.self.place).names, refl),
    )
