use Rattle.std.proofs.Common.{◌≡◌, ◌+◌, ◌*◌, ◌/◌, ◌<◌, ◌≤◌, Some, Err, IfErr, length, map, take, sym, ap, subst, ◌∙◌, arith, slice_get}
use Rattle.std.specs.Prelude.{vec_capacity}
use Rattle.std.specs.Arc.{arc_value}
use Rattle.std.proofs.lemmas.List.{take_at}
use Rattle.std.proofs.lemmas.Result.{err_from_is_err_and}
use Rattle.aff_model.specs.declared.extent.Extent.{Extent}
use Rattle.aff_model.specs.History.{publication_of}
use Rattle.aff_model.specs.Plan.{Planned}
use Rattle.aff_outside.specs.Seen.{IsSeen}
use Rattle.aff_image.specs.Sound.{AreSound}
use Rattle.aff_examine.specs.Faults.{IsFollowFault}
use Rattle.aff_examine.specs.Reading.{Reading, sight_of}
use Rattle.aff_examine.specs.Sights.{IsSight, IsSightOf, shown_as}
use Rattle.aff_examine.proofs.Counts.{few_rise}
use Rattle.aff_examine.proofs.Showing.{err_case, from_ok, ok_case, planned_at, room_at, sight_in, sound_at, view_at}
use Rattle.aff_examine.proofs.reader.PieceReader.show.Goals as goal
use Rattle.aff_examine.proofs.reader.PieceReader.show.Goals.{in-Ok, in-Err}

pub extent_of-extent-requires-after_bounds : goal.extent_of-extent-requires-after_bounds
extent_of-extent-requires-after_bounds g c κs within =
    let pieces = map arc_value c.args.pieces.now in
    let p = c.deref-piece.result.now in
    let plan = c.self.inside.analyst.plan in
    let same = ap (λ (r : Reading _). r.plan) c.self.view_is in
    let there : slice_get pieces c.args.number ≡ Some p = view_at arc_value c.args.pieces.now c.args.number c.index-pieces-number.result p c.requires.inside c.index-pieces-number.is c.deref-piece.ensures in
    let sound = subst (λ (q : Planned). AreSound g.C.Case.content q g.F.Receipt.Telling.receipt_tells g.F.Receipt.Telling.told pieces) (sym same) c.requires.sound in
    subst (λ l. p.extent < length l) (sym (c.deref.ensures.value ∙ c.self.invariant.0)) (planned_at g.C.Case.content plan g.F.Receipt.Telling.receipt_tells g.F.Receipt.Telling.told pieces c.args.number p sound there)

pub read_whole-requires-clause-sound : goal.read_whole-requires-clause-sound
read_whole-requires-clause-sound g c κs within =
    let pieces = map arc_value c.args.pieces.now in
    let p = c.deref-piece.result.now in
    let plan = c.self.inside.analyst.plan in
    let same = ap (λ (r : Reading _). r.plan) c.self.view_is in
    let there : slice_get pieces c.args.number ≡ Some p = view_at arc_value c.args.pieces.now c.args.number c.index-pieces-number.result p c.requires.inside c.index-pieces-number.is c.deref-piece.ensures in
    let sound = subst (λ (q : Planned). AreSound g.C.Case.content q g.F.Receipt.Telling.receipt_tells g.F.Receipt.Telling.told pieces) (sym same) c.requires.sound in
    let planned : slice_get plan.extents p.extent ≡ Some c.extent_of-extent.result = subst (λ l. slice_get l p.extent ≡ Some c.extent_of-extent.result) (c.deref.ensures.value ∙ c.self.invariant.0) c.extent_of-extent.ensures in
    sound_at g.C.Case.content plan g.F.Receipt.Telling.receipt_tells g.F.Receipt.Telling.told pieces c.args.number p sound there c.extent_of-extent.result planned

pub read_whole-requires-clause-room : goal.read_whole-requires-clause-room
read_whole-requires-clause-room g c κs within =
    let p = c.deref-piece.result.now in
    let planned = subst (λ l. slice_get l p.extent ≡ Some c.extent_of-extent.result) c.deref.ensures.value c.extent_of-extent.ensures in
    let room = (room_at c.self.inside.extents.items (λ (e : Extent). (e.len + 1048576 ≤ length c.self.inside.bytes.items) × (e.len ≤ 512 * vec_capacity c.self.inside.bad)) p.extent c.extent_of-extent.result c.self.invariant.3 planned).0 in
    subst (λ l. c.extent_of-extent.result.len + 1048576 ≤ length l) (sym c.deref_mut.ensures.value) room

pub returns-in_err-read_whole-clause-fault : goal.returns-in_err-read_whole-clause-fault
returns-in_err-read_whole-clause-fault g c =
    let pieces = map arc_value c.args.pieces.now in
    let p = c.deref-piece.result.now in
    let plan = c.self.inside.analyst.plan in
    let same = ap (λ (r : Reading _). r.plan) c.self.view_is in
    let there : slice_get pieces c.args.number ≡ Some p = view_at arc_value c.args.pieces.now c.args.number c.index-pieces-number.result p c.requires.inside c.index-pieces-number.is c.deref-piece.ensures in
    let error = err_from_is_err_and c.from_residual.result c.from_residual.ensures.1 in
    subst (λ r. IfErr r (IsFollowFault c.args.self.now.plan g.F.Receipt.Telling.receipt_tells pieces c.args.number)) (sym (error.1 ∙ ap Err error.2))
    (subst (λ (q : Planned). IsFollowFault q g.F.Receipt.Telling.receipt_tells pieces c.args.number c.in_err-read_whole.field-0.0) same (p, there, c.in_err-read_whole.ensures.fault))

pub show_to-room-requires-clause-room : goal.show_to-room-requires-clause-room
show_to-room-requires-clause-room g c κs within =
    let p = c.deref-piece.result.now in
    let e = c.extent_of-extent.result in
    let planned = subst (λ l. slice_get l p.extent ≡ Some e) c.deref.ensures.value c.extent_of-extent.ensures in
    let room = (room_at c.self.inside.extents.items (λ (x : Extent). (x.len + 1048576 ≤ length c.self.inside.bytes.items) × (x.len ≤ 512 * vec_capacity c.self.inside.bad)) p.extent e c.self.invariant.3 planned).1 in
    let seen = c.in_ok-read_whole.ensures.read.seen 0 in
    let few = few_rise p.bad (e.len / 512) seen.rising seen.inside in
    let same : vec_capacity c.replace-room.result ≡ vec_capacity c.self.inside.bad = ap vec_capacity c.replace-room.ensures.value in
    omega (arith, few, room, same)

pub show_to-room-requires-clause-seen : goal.show_to-room-requires-clause-seen
show_to-room-requires-clause-seen g c κs within =
    let e = c.extent_of-extent.result in
    let p = c.deref-piece.result.now in
    let new = c.read_whole.new.out in
    let same : c.deref-2.result.now ≡ new = c.deref-2.ensures.value ∙ take_at new _ c.self.inside.bytes.len (omega (arith, c.read_whole.ensures.len, c.deref_mut.ensures.len)) in
    subst (λ l. IsSeen (shown_as e (c.args.number + 1) (publication_of p)) (take e.len l)) (sym same) (c.in_ok-read_whole.ensures.read.seen (c.args.number + 1))

pub returns-clause-shown : goal.returns-clause-shown
returns-clause-shown g c =
    let pieces = map arc_value c.args.pieces.now in
    let e = c.extent_of-extent.result in
    let p = c.deref-piece.result.now in
    let plan = c.self.inside.analyst.plan in
    let tells = g.F.Receipt.Telling.receipt_tells in
    let told = g.F.Receipt.Telling.told in
    let new = c.read_whole.new.out in
    let same : c.deref-2.result.now ≡ new = c.deref-2.ensures.value ∙ take_at new _ c.self.inside.bytes.len (omega (arith, c.read_whole.ensures.len, c.deref_mut.ensures.len)) in
    let there : slice_get pieces c.args.number ≡ Some p = view_at arc_value c.args.pieces.now c.args.number c.index-pieces-number.result p c.requires.inside c.index-pieces-number.is c.deref-piece.ensures in
    let planned = subst (λ l. slice_get l p.extent ≡ Some e) (c.deref.ensures.value ∙ c.self.invariant.0) c.extent_of-extent.ensures in
    let sight = sight_of e (c.args.number + 1) p c.deref-2.result.now in
    let of : IsSightOf plan tells told (c.args.number + 1) p sight =
    sight_in plan tells told (c.args.number + 1) p e sight planned (subst (λ l. IsSight plan.block tells told (c.args.number + 1) e p (sight_of e (c.args.number + 1) p l)) (sym same) (c.in_ok-read_whole.ensures.read.sight (c.args.number + 1))) in
    elim c.match-shown.branch [
      | in-Ok w ↦ ok_case _ c.match-shown.result _ w.result-is (
        p,
        there,
        record {
          sight = sight;
          of = subst (λ (q : Planned). IsSightOf q tells told (c.args.number + 1) p sight) (ap (λ (r : Reading _). r.plan) c.self.view_is) of;
          seen = from_ok _ c.show_to-room.result.1 _ w.in-Ok.is c.show_to-room.ensures.seen;
        },
      )
      | in-Err w ↦ err_case _ c.match-shown.result _ w.result-is
    ]

pub returns-clause-fault : goal.returns-clause-fault
returns-clause-fault g c =
    let pieces = map arc_value c.args.pieces.now in
    let p = c.deref-piece.result.now in
    let there : slice_get pieces c.args.number ≡ Some p = view_at arc_value c.args.pieces.now c.args.number c.index-pieces-number.result p c.requires.inside c.index-pieces-number.is c.deref-piece.ensures in elim c.match-shown.branch [
      | in-Ok w ↦ subst (λ r. IfErr r (IsFollowFault c.args.self.now.plan g.F.Receipt.Telling.receipt_tells pieces c.args.number)) (sym w.result-is) tt
      | in-Err w ↦ subst (λ r. IfErr r (IsFollowFault c.args.self.now.plan g.F.Receipt.Telling.receipt_tells pieces c.args.number)) (sym w.result-is) (p, there, tt)
    ]
