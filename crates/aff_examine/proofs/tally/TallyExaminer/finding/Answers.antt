use Rattle.std.proofs.Common.{◌≡◌, ◌∷◌, [], subst, rules, arith}
use Rattle.std.specs.Prelude.{Contains}
use Rattle.aff_examine.specs.Tallies.{tally_text}
use Rattle.aff_examine.proofs.Texts.{one_line}
use Rattle.aff_examine.proofs.tally.TallyExaminer.finding.Goals as goal

pub returns-in-Ok-clause-one_line : goal.returns-in-Ok-clause-one_line
returns-in-Ok-clause-one_line c = λ has.
    let is : c.into_bytes.result.items ≡ tally_text (c.self.inside.readable ∷ c.self.inside.unreadable ∷ []) = search rules in
    one_line c.self.inside.readable c.self.inside.unreadable (omega arith) (omega arith) (subst (λ t. Contains t 10) is has)
