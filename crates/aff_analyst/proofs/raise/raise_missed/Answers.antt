use Rattle.std.proofs.Common.{◌≡◌, ℕ, ◌+◌, ◌<◌, ◌≤◌, List, IfSome, length, map, not, get_or, sym, ap, subst, ◌∙◌, arith}
use Rattle.std.specs.Arc.{arc_value}
use Rattle.std.proofs.lemmas.List.{length-map}
use Rattle.aff_model.specs.declared.extent.Extent.{Extent}
use Rattle.aff_model.specs.Index.{end_of, start_of}
use Rattle.aff_claim.specs.Values.{Passing}
use Rattle.aff_analyst.specs.Raised.{IsMissed}
use Rattle.aff_analyst.proofs.Raising.{HasAsked, asked_all, asked_empty, asked_more, asked_none, asked_seen, none_is, plan_bytes, shares_from_ends, some_is}
use Rattle.aff_model.proofs.Index.{number_below}
use Rattle.aff_analyst.proofs.raise.raise_missed.Goals as goal
use Rattle.aff_analyst.proofs.raise.raise_missed.Goals.{then-is_none, else-is_none}

pub returns-then-start_of-at-clause-raised : goal.returns-then-start_of-at-clause-raised
returns-then-start_of-at-clause-raised g c =
    let es = c.args.plan.now.extents in
    let index = c.args.index.now in
    let place = c.loop-place.place in
    let same = c.extents-extents.ensures.extents in
    let first = c.first_behind-place.result in
    let start : c.start_of.result ≡ start_of es (get_or index place 0) = c.start_of.ensures ∙ ap (λ xs. start_of xs (get_or index place 0)) same in
    let late = c.if-start_of-at.true in
    asked_all es (map arc_value c.args.pieces.now) index c.args.at c.args.len first place c.args.pass.now.view c.loop-place.pass.view c.requires.sorted
    (subst (λ (xs : List Extent). (k : ℕ) → k < first → end_of xs (get_or index k 0) ≤ c.args.at) same c.first_behind-place.ensures.before)
    (λ k low high. let rises = c.requires.sorted.sorted place k 0 low high in omega arith) c.loop-place.invariant.1

pub returns-clause-raised : goal.returns-clause-raised
returns-clause-raised g c =
    let es = c.args.plan.now.extents in
    let index = c.args.index.now in
    let same = c.extents-extents.ensures.extents in
    let first = c.first_behind-place.result in
    let end = c.loop-place-test.false in
    asked_all es (map arc_value c.args.pieces.now) index c.args.at c.args.len first c.loop-place.place c.args.pass.now.view c.loop-place.pass.view c.requires.sorted
    (subst (λ (xs : List Extent). (k : ℕ) → k < first → end_of xs (get_or index k 0) ≤ c.args.at) same c.first_behind-place.ensures.before)
    (λ k low high. absurd (omega arith)) c.loop-place.invariant.1

pub loop-place-preserved : goal.loop-place-preserved
loop-place-preserved g c =
    let i = c.loop-place.invariant in
    let es = c.args.plan.now.extents in
    let index = c.args.index.now in
    let pieces = map arc_value c.args.pieces.now in
    let at = c.args.at in
    let len = c.args.len in
    let place = c.loop-place.place in
    let number = get_or index place 0 in
    let first = c.first_behind-place.result in
    let old = c.args.pass.now in
    let mid = c.loop-place.pass in
    let same = c.extents-extents.ensures.extents in
    let inside = c.loop-place-test.true in
    let start : c.start_of.result ≡ start_of es number = c.start_of.ensures ∙ ap (λ xs. start_of xs number) same in
    let early = c.if-start_of-at.false in
    let some = c.if-len-eq0.false in
    let P : Passing → Type 0 = λ p. (p.claims ≡ old.claims) × HasAsked es pieces index at len first (place + 1) old.view p.view in
    elim c.if-is_none.branch [
      | then-is_none w ↦
          let behind : at < end_of es number = subst (λ (xs : List Extent). at < end_of xs number) same (c.first_behind-place.ensures.behind place c.loop-place.auto.place inside) in
          let shares = shares_from_ends es at len number (omega arith) (plan_bytes c.args.plan.now.size c.args.plan.now.block es c.requires.small c.extents-extents.ensures.plan) (number_below es index c.requires.sorted place 0 inside) (omega arith) behind in
          let unseen = c.first_of.ensures.none (none_is c.first_of.result (c.is_none.ensures ∙ ap not w.if-is_none.true)) in
          subst P (sym w.pass-is) (w.raise.ensures.table ∙ i.0, asked_more es pieces index at len first place old.view mid.view w.raise.new.pass.view record { shares = shares; unseen = unseen } w.raise.ensures.view i.1)
      | else-is_none w ↦
          let within = subst (λ n. IfSome c.first_of.result (λ q. q < n)) (sym (length-map c.args.pieces.now arc_value)) c.first_of.ensures.inside in
          let seen = some_is pieces number c.first_of.result (c.is_none.ensures ∙ ap not w.if-is_none.false) within c.first_of.ensures.is in
          subst P (sym w.pass-is) (i.0, asked_seen es pieces index at len first place old.view mid.view seen i.1)
    ]
