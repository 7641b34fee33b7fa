use Rattle.std.proofs.Common.{◌≡◌, List, ◌++◌, None, IfSome, cond, map, sym, ap, subst, ◌∙◌}
use Rattle.std.specs.Arc.{arc_value}
use Rattle.std.specs.Prelude.{All, is_some}
use mathlib.Core.List.{IsPrefix}
use Rattle.aff_script.specs.Script.{IsRequest}
use Rattle.aff_script.specs.declared.script.Request.{Request}
use Rattle.aff_session.specs.Answers.{late_of}
use Rattle.aff_session.specs.Shown.{AreAnsweredBy, AreLive}
use Rattle.aff_session.specs.Sittings.{Sitting}
use Rattle.aff_session.proofs.Growing.{closed}
use Rattle.aff_session.proofs.Looks.{no_fault, none_by}
use Rattle.aff_session.proofs.Requests.{all_left}
use Rattle.aff_session.proofs.session.Session.close.Goals as goal

pub ask_late-asked-requires-clause-requests : goal.ask_late-asked-requires-clause-requests
ask_late-asked-requires-clause-requests g c κs within =
    let inside = c.self.inside in
    let P = IsRequest inside.looker.plan.size in
    subst (All P) (sym c.late_part-requests.ensures) (all_left c.has_viewer.result P c.deref.result.now (subst (All P) (sym c.deref.ensures.value) c.self.invariant.each))

pub returns-clause-answers : goal.returns-clause-answers
returns-clause-answers g c none =
    let inside = c.self.inside in
    let plan = inside.looker.plan in
    let viewer = inside.looker.viewer in
    let requests = inside.requests.items in
    let olds = inside.answers.items in
    let news = c.ask_late-asked.new.answers.items in
    let tells = g.F.Receipt.Telling.receipt_tells in
    let told = g.F.Receipt.Telling.told in
    let pieces = map arc_value c.args.pieces.now in
    let unfaulted = none_by inside.fault c.is_some.result c.is_some.ensures c.if-is_some.false in
    let seen = subst (λ (s : Sitting _ _). s.fault ≡ None → IfSome s.viewer (λ v. IsPrefix v.pieces pieces)) (sym c.self.view_is) c.requires.seen unfaulted in
    let live = subst (λ (s : Sitting _ _). s.fault ≡ None → AreLive s.plan tells told s.viewer s.requests s.answers) (sym c.self.view_is) c.requires.live unfaulted in
    let left = c.late_part-requests.ensures ∙ ap (λ b. cond b (late_of c.deref.result.now) c.deref.result.now) c.has_viewer.ensures ∙ ap (λ rs. cond (is_some viewer) (late_of rs) rs) c.deref.ensures.value in
    let step = no_fault c.ask_late-asked.result c.err-self-inside.result ((done : List Request) → AreAnsweredBy plan tells told pieces done olds → AreAnsweredBy plan tells told pieces (done ++ c.late_part-requests.result.now) news)
    c.err-self-inside.ensures.value none c.ask_late-asked.ensures.answers in
    let all = closed plan tells told pieces viewer requests olds news seen live (subst (λ rs. (done : List Request) → AreAnsweredBy plan tells told pieces done olds → AreAnsweredBy plan tells told pieces (done ++ rs) news) left step) in
    subst (λ (s : Sitting _ _). AreAnsweredBy s.plan tells told pieces s.requests news) c.self.view_is all
