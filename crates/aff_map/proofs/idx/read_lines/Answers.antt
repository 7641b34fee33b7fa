use Rattle.std.proofs.Common.{◌≡◌, ◌==◌, ◌∙◌, ◌+◌, ℕ, List, [], length, refl, ap, subst, sym, rules, tests}
use Rattle.std.specs.Slice.Iter.{split_rest, split_done, split_callee}
use Rattle.std.proofs.lemmas.Iterator.Consumers.{YieldsList-end, YieldsList-so_far, YieldsList-turn}
use Rattle.std.proofs.lemmas.Iterator.Splits.{YieldsList-from_slice_split}
use Rattle.aff_spec.specs.Lines.{lines_of}
use Rattle.aff_map.specs.Targets.{IsFirstUnnamed}
use Rattle.aff_map.proofs.Lines.{AreRead, AreRead-all, AreRead-more, AreRead-none, first_unnamed}
use Rattle.aff_map.proofs.idx.read_lines.Goals as goal

pub loop-line-init : goal.loop-line-init
loop-line-init c = subst (AreRead (λ x. x.now) c.args.stream.now []) (sym c.new-targets.ensures.items) (AreRead-none (λ x. x.now) c.args.stream.now)

pub loop-line-preserved : goal.loop-line-preserved
loop-line-preserved c =
    AreRead-more (λ x. x.now) c.args.stream.now c.loop-line.yielded c.in-Some.line c.loop-line.targets.items c.push.new.self.items c.in-Some-target_of.target c.loop-line.invariant (sym c.target_of.ensures ∙ c.in-Some-target_of.is) c.in_ok-push.ensures.items

pub returns : goal.returns
returns c =
    let from = c.into_iter-line-iterator.ensures.into_iter_gives in
    let all = YieldsList-end (YieldsList-from_slice_split _ (λ (b : ℕ). b == 10) c.args.text.now (ap split_rest from ∙ c.split-line-items.ensures.rest) (ap split_done from ∙ c.split-line-items.ensures.done) (ap split_callee from ∙ c.split-line-items.ensures.closure) (λ x b q k. search (rules, tests))) c.loop-line.yielded _ c.loop-line.yielded_by _ _ c.in-None.is c.next.ensures.steps in
    let read = AreRead-all (λ x. x.now) c.args.stream.now c.loop-line.yielded c.loop-line.targets.items (lines_of c.args.text.now) c.loop-line.invariant all.0 in
    record { targets = read.0; named = read.1; refused = tt }

pub returns-in_default-clause-refused : goal.returns-in_default-clause-refused
returns-in_default-clause-refused c other =
    let from = c.into_iter-line-iterator.ensures.into_iter_gives in
    let so_far = YieldsList-so_far (YieldsList-from_slice_split _ (λ (b : ℕ). b == 10) c.args.text.now (ap split_rest from ∙ c.split-line-items.ensures.rest) (ap split_done from ∙ c.split-line-items.ensures.done) (ap split_callee from ∙ c.split-line-items.ensures.closure) (λ x b q k. search (rules, tests))) c.loop-line.yielded _ c.loop-line.yielded_by in
    let turn = YieldsList-turn (YieldsList-from_slice_split _ (λ (b : ℕ). b == 10) c.args.text.now (ap split_rest from ∙ c.split-line-items.ensures.rest) (ap split_done from ∙ c.split-line-items.ensures.done) (ap split_callee from ∙ c.split-line-items.ensures.closure) (λ x b q k. search (rules, tests))) c.loop-line.yielded _ c.loop-line.yielded_by _ _ c.in-Some.line c.in-Some.is c.next.ensures.steps in
    let first = first_unnamed (λ x. x.now) c.args.stream.now c.loop-line.yielded c.loop-line.targets.items (lines_of c.args.text.now) c.in-Some.line c.loop-line.invariant so_far turn.0 turn.1 (sym c.target_of.ensures ∙ c.in_default.is) in
    let count : c.len.result ≡ length c.loop-line.targets.items = search rules in
    (c.len.result + 1, refl, subst (λ n. IsFirstUnnamed c.args.stream.now (lines_of c.args.text.now) (n + 1)) (sym count) first)
