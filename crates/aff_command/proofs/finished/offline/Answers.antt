use Rattle.std.proofs.Common.{ℕ, List, [], Bor, map, sym, ◌∙◌}
use Rattle.aff_command.specs.Finished.{IsOffline}
use Rattle.aff_command.proofs.FolderWords.{each_some, four_from, four_to, none_asked, none_empty, two_from, two_to}
use Rattle.aff_command.proofs.FourWords.{full_from}
use Rattle.aff_command.proofs.finished.offline.Goals as goal

pub returns-then-has_empty-clause-none : goal.returns-then-has_empty-clause-none
returns-then-has_empty-clause-none c = λ are.
    let d : Bor (List ℕ) = record { ref_ptr = (0, 0); now = [] } in
    none_empty c.args.words.now d are (sym c.has_empty.ensures ∙ c.if-has_empty.true)

pub returns-in-2-clause-some : goal.returns-in-2-clause-some
returns-in-2-clause-some c =
    let ws = c.args.words.now in
    let d : Bor (List ℕ) = record { ref_ptr = (0, 0); now = [] } in
    each_some c.named.result _ (λ asked. IsOffline asked (map (λ w. w.now) ws)) (two_from ws d c.in-2.is (full_from ws d (sym c.has_empty.ensures ∙ c.if-has_empty.false))) c.named.ensures.some

pub returns-in-2-clause-none : goal.returns-in-2-clause-none
returns-in-2-clause-none c =
    let ws = c.args.words.now in
    let d : Bor (List ℕ) = record { ref_ptr = (0, 0); now = [] } in
    none_asked c.named.result _ (λ asked. IsOffline asked (map (λ w. w.now) ws)) (two_to ws d c.in-2.is) c.named.ensures.none

pub returns-in-4-clause-some : goal.returns-in-4-clause-some
returns-in-4-clause-some c =
    let ws = c.args.words.now in
    let d : Bor (List ℕ) = record { ref_ptr = (0, 0); now = [] } in
    each_some c.range.result _ (λ asked. IsOffline asked (map (λ w. w.now) ws)) (four_from ws d c.in-4.is (full_from ws d (sym c.has_empty.ensures ∙ c.if-has_empty.false))) c.range.ensures.some

pub returns-in-4-clause-none : goal.returns-in-4-clause-none
returns-in-4-clause-none c =
    let ws = c.args.words.now in
    let d : Bor (List ℕ) = record { ref_ptr = (0, 0); now = [] } in
    none_asked c.range.result _ (λ asked. IsOffline asked (map (λ w. w.now) ws)) (four_to ws d c.in-4.is) c.range.ensures.none
