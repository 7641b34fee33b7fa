use Rattle.std.proofs.Common.{◌≡◌, [], ◌∷◌, ◌++◌, List, map, ap, sym, ◌∙◌, subst, rules}
use Rattle.std.proofs.lemmas.List.{map-append}
use Rattle.std.proofs.lemmas.List.Elements.{All-push}
use Rattle.std.specs.Arc.{arc_value}
use Rattle.aff_model.specs.History.{Part}
use Rattle.aff_snapshot.specs.Codes.{Name, name_of}
use Rattle.aff_snapshot.specs.Lists.{ListName, Reached, Beginning, IsNew}
use Rattle.aff_snapshot.specs.Log.{IsFirst}
use Rattle.aff_snapshot.specs.Sound.{AreSound, IsSoundIn}
use Rattle.aff_snapshot.proofs.Names.{is_first}
use Rattle.aff_snapshot.proofs.publisher.Publisher.publish.Goals as goal

pub add-requires-clause-first : goal.add-requires-clause-first
add-requires-clause-first g c κs within =
    let code = g.R.Marked.marks in
    let pieces = map arc_value c.self.inside.pieces.items in
    let new : IsNew pieces (arc_value c.args.piece) = subst (λ (b : Beginning g.row.R.Denot). IsNew b.pieces (arc_value c.args.piece)) (sym c.self.view_is) c.requires.once in
    let first : IsFirst c.self.inside.front.names (name_of code (arc_value c.args.piece)) = is_first code pieces (arc_value c.args.piece) c.self.inside.front.names c.self.invariant.0 new in
    subst (λ (r : Reached). IsFirst r.names (name_of code c.deref.result.now)) (sym c.again-front.ensures)
    (subst (λ (p : Part g.row.R.Denot). IsFirst c.self.inside.front.names (name_of code p)) (sym c.deref.ensures) first)

pub invariant_of-self-2 : goal.invariant_of-self-2
invariant_of-self-2 g c =
    let pieces = map arc_value c.self.inside.pieces.items in
    let list : ListName = c.self.inside.front.list in
    let IsOne : ListName → Part g.row.R.Denot → Type 0 = λ l p. IsSoundIn g.C.Case.content l.plan g.R.Telling.receipt_tells g.R.Telling.told p in
    let AreAll : ListName → List (Part g.row.R.Denot) → Type 0 = λ l ps. AreSound g.C.Case.content l.plan g.R.Telling.receipt_tells g.R.Telling.told ps in
    let same : c.add.new.self.list ≡ list = c.add.ensures.list ∙ ap (λ (r : Reached). r.list) c.again-front.ensures in
    let kept : arc_value c.in-Ok.kept ≡ arc_value c.args.piece = c.in-Ok.ensures in
    let one : IsOne list (arc_value c.args.piece) = subst (λ (b : Beginning g.row.R.Denot). IsOne b.list (arc_value c.args.piece)) (sym c.self.view_is) c.requires.sound in
    let all : AreAll list (pieces ++ arc_value c.in-Ok.kept ∷ []) = All-push (IsOne list) pieces (arc_value c.in-Ok.kept) c.self.invariant.1 (subst (IsOne list) (sym kept) one) in
    let more = ap (map arc_value) c.push_reserved.ensures.items ∙ map-append arc_value c.self.inside.pieces.items (c.in-Ok.kept ∷ []) in
    let grown : AreAll list (map arc_value c.push_reserved.new.self.items) = subst (AreAll list) (sym more) all in
    let sound : AreAll c.add.new.self.list (map arc_value c.push_reserved.new.self.items) = subst (λ (l : ListName). AreAll l (map arc_value c.push_reserved.new.self.items)) (sym same) grown in
    let name : Part g.row.R.Denot → Name = name_of g.R.Marked.marks in
    let front : List Name = c.self.inside.front.names in
    let again : c.again-front.result.names ≡ front = ap (λ (r : Reached). r.names) c.again-front.ensures in
    let same_piece : arc_value c.in-Ok.kept ≡ c.deref.result.now = kept ∙ sym c.deref.ensures in
    let names =
    ap (map name) more ∙ (map-append name pieces (arc_value c.in-Ok.kept ∷ []) ∙ (ap (λ l. l ++ name (arc_value c.in-Ok.kept) ∷ []) c.self.invariant.0
    ∙ (ap (λ p. front ++ name p ∷ []) same_piece ∙ (ap (λ l. l ++ name c.deref.result.now ∷ []) (sym again) ∙ sym c.if-not-add.ensures.added)))) in
    (names, sound, search rules, search rules, search rules, search rules, search rules)
