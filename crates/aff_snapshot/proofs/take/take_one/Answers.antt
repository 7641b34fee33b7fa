use Rattle.std.proofs.Common.{◌≡◌, ◌+◌, ◌≤◌, List, [], ◌∷◌, ◌++◌, length, map, ap, sym, ◌∙◌, subst, arith, rules}
use Rattle.std.proofs.lemmas.List.{map-append}
use Rattle.std.proofs.lemmas.List.Elements.{All-push}
use Rattle.std.specs.Arc.{arc_value}
use Rattle.aff_model.specs.History.{Part}
use Rattle.aff_snapshot.specs.Codes.{Name, name_of}
use Rattle.aff_snapshot.specs.Lists.{ListName, Reached}
use Rattle.aff_snapshot.specs.Sound.{AreSound, IsSoundIn}
use Rattle.aff_snapshot.proofs.Steps.{next_is}
use Rattle.aff_snapshot.proofs.take.take_one.Goals as goal

pub returns-clause-same : goal.returns-clause-same
returns-clause-same g c =
    let name : Part g.row.R.Denot → Name = name_of g.R.Marked.marks in
    let inside = c.listed.inside.front.names in
    let old = c.args.front.now.names in
    let names : Reached → List Name = λ r. r.names in
    let next : c.len-else-len-capacity.result ≡ c.len-else-len-capacity-2.result + 1 = search (rules, c.if-len-capacity.false) in
    let longer : length inside ≡ length old + 1 = sym c.len-else-len-capacity.ensures.length ∙ (next ∙ ap (λ n. n + 1) c.len-else-len-capacity-2.ensures.length) in
    let le : length old ≤ length inside = omega arith in
    let is = next_is old inside (name (arc_value c.listed.inside.piece)) c.listed.invariant.0 longer (c.compare.ensures.order le) in
    let kept : arc_value c.in-Ok.piece ≡ arc_value c.listed.inside.piece = c.in-Ok.ensures in
    ap (λ l. map name (map arc_value l)) c.push_reserved.ensures.items ∙ (ap (map name) (map-append arc_value c.args.pieces.now.items (c.in-Ok.piece ∷ [])) ∙ (map-append name (map arc_value c.args.pieces.now.items) (arc_value c.in-Ok.piece ∷ [])
    ∙ (ap (λ l. l ++ name (arc_value c.in-Ok.piece) ∷ []) c.requires.same ∙ (ap (λ p. old ++ name p ∷ []) kept ∙ (sym is ∙ sym (ap names c.again.ensures))))))

pub returns-clause-longer : goal.returns-clause-longer
returns-clause-longer g c = (arc_value c.in-Ok.piece ∷ [], sym (ap (map arc_value) c.push_reserved.ensures.items ∙ map-append arc_value c.args.pieces.now.items (c.in-Ok.piece ∷ [])))

pub returns-clause-sound : goal.returns-clause-sound
returns-clause-sound g c =
    let list : Reached → ListName = λ r. r.list in
    let old = map arc_value c.args.pieces.now.items in
    let kept : arc_value c.in-Ok.piece ≡ arc_value c.listed.inside.piece = c.in-Ok.ensures in
    let here : c.listed.inside.front.list ≡ c.args.front.now.list = ap list c.listed.view_is ∙ sym c.requires.list.0 in
    let IsOne : ListName → Part g.row.R.Denot → Type 0 = λ l p. IsSoundIn g.C.Case.content l.plan g.R.Telling.receipt_tells g.R.Telling.told p in
    let AreAll : ListName → List (Part g.row.R.Denot) → Type 0 = λ l ps. AreSound g.C.Case.content l.plan g.R.Telling.receipt_tells g.R.Telling.told ps in
    let one : IsOne c.args.front.now.list (arc_value c.in-Ok.piece) = subst (IsOne c.args.front.now.list) (sym kept) (subst (λ (l : ListName). IsOne l (arc_value c.listed.inside.piece)) here c.listed.invariant.1) in
    let all : AreAll c.args.front.now.list (old ++ arc_value c.in-Ok.piece ∷ []) = All-push (IsOne c.args.front.now.list) old (arc_value c.in-Ok.piece) c.requires.sound one in
    let grown : AreAll c.args.front.now.list (map arc_value c.push_reserved.new.self.items) = subst (AreAll c.args.front.now.list) (sym (ap (map arc_value) c.push_reserved.ensures.items ∙ map-append arc_value c.args.pieces.now.items (c.in-Ok.piece ∷ []))) all in
    subst (λ (l : ListName). AreAll l (map arc_value c.push_reserved.new.self.items)) (sym (ap list c.again.ensures ∙ here)) grown
