use Rattle.std.proofs.Common.{ℕ, List, [], Bor, arith, ap, sym, ◌∙◌}
use Rattle.std.specs.Option.{is_some}
use Rattle.aff_command.proofs.FourWords.{acquire_from, command_of, four_words, full_from, not_empty}
use Rattle.aff_command.proofs.words.acquisition.Goals as goal

pub returns-then-words-lt4-clause-none : goal.returns-then-words-lt4-clause-none
returns-then-words-lt4-clause-none c = λ block is.
    let d : Bor (List ℕ) = record { ref_ptr = (0, 0); now = [] } in
    absurd (omega (arith, four_words c.args.words.now d block is, c.if-words-lt4.true))

pub returns-then-has_empty-clause-none : goal.returns-then-has_empty-clause-none
returns-then-has_empty-clause-none c = λ block is.
    let d : Bor (List ℕ) = record { ref_ptr = (0, 0); now = [] } in
    not_empty c.args.words.now d block is (sym c.has_empty.ensures ∙ c.if-has_empty.true)

pub returns-in_default-clause-none : goal.returns-in_default-clause-none
returns-in_default-clause-none c = λ block is.
    let d : Bor (List ℕ) = record { ref_ptr = (0, 0); now = [] } in
    c.in_default.ensures.none block (command_of c.args.words.now d block is)

pub returns-clause-some : goal.returns-clause-some
returns-clause-some c =
    let ws = c.args.words.now in
    let d : Bor (List ℕ) = record { ref_ptr = (0, 0); now = [] } in
    let all = acquire_from ws d c.in-Some.block c.if-words-lt4.false (full_from ws d (sym c.has_empty.ensures ∙ c.if-has_empty.false)) c.in-Some.ensures.some (sym c.read.ensures.some ∙ ap is_some c.in-Some-read.is) in
    (all.0, c.in-Some-read.ensures.text ∙ all.1)
