use Rattle.std.proofs.Common.{◌≡◌, ◌+◌, ◌++◌, length, ap, ◌∙◌, rules}
use Rattle.std.specs.List.{concat}
use Rattle.std.specs.String.{string_bytes}
use Rattle.aff_memory.proofs.Appends.{concat_push, grown_len}
use Rattle.aff_memory.proofs.kept.Kept.grow.Goals as goal

pub invariant_of-self-2 : goal.invariant_of-self-2
invariant_of-self-2 c =
    let sum : c.in-Some.len ≡ c.self.inside.len + length c.args.shared = search rules in
    grown_len c.self.inside.appends.items c.push.new.self.items c.args.shared c.self.inside.len c.in-Some.len c.self.invariant c.in_ok-push.ensures.items sum

pub returns-clause-ok : goal.returns-clause-ok
returns-clause-ok c =
    let bytes : concat c.push.new.self.items ≡ concat c.self.inside.appends.items ++ c.args.shared = ap concat c.in_ok-push.ensures.items ∙ concat_push c.self.inside.appends.items c.args.shared in
    (λ i. (string_bytes c.self.inside.name, bytes i)) ∙ ap (λ v. (v.0, v.1 ++ c.args.shared)) c.self.view_is
