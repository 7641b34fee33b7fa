use Rattle.std.proofs.Common.{◌-◌, [], ◌∷◌, ◌++◌, ap, arith, refl, ◌∙◌}
use Rattle.std.specs.Vec.{vec_len}
use Rattle.aff_script.proofs.Sessions.{adds_last}
use Rattle.aff_script.proofs.read.add.Goals as goal

pub returns-in_ok-push-in-Some : goal.returns-in_ok-push-in-Some
returns-in_ok-push-in-Some c =
    let sessions = c.args.sessions.now in
    let r = c.in-Ask.request in
    adds_last sessions.items (vec_len sessions - 1) c.args.said c.in-Some.session.now c.push-in-Some.new.self.items r c.in-Ask.is
    (omega (arith, c.in-Some.ensures.variant.0 refl)) c.in-Some.ensures.value
    (c.in_ok-push-in-Some.ensures.items ∙ ap (λ v. v ++ r ∷ []) c.session.view_is)
