use Rattle.std.proofs.Common.{sym, ap, ◌∙◌}
use Rattle.aff_turtle.specs.Triples.{Fact}
use Rattle.aff_info.specs.Table.{fits, same}
use Rattle.aff_info.proofs.Ones.{is_missing, is_twice, is_one}
use Rattle.aff_info.proofs.one.one.Goals as goal

pub returns-in_default : goal.returns-in_default
returns-in_default c = is_missing (fits c.args.name c.args.draft.now) c.args.triples.now (sym c.first_place.ensures ∙ c.in_default.is)

pub returns-then-not-same : goal.returns-then-not-same
returns-then-not-same c =
    is_twice (fits c.args.name c.args.draft.now) c.args.triples.now c.in-Some.first c.loop-triple.triple-index c.index-triples-first.result c.triple-item.result
    (sym c.first_place.ensures ∙ c.in-Some.is) c.loop-triple-test.true c.triple-item.is (sym c.if-fits.ensures)
    (ap (λ (t : Fact). same t c.triple-item.result) (sym c.index-triples-first.is) ∙ sym c.if-not-same.ensures)

pub returns : goal.returns
returns c =
    is_one (fits c.args.name c.args.draft.now) c.args.triples.now c.in-Some.first c.loop-triple.triple-index (sym c.first_place.ensures ∙ c.in-Some.is) c.loop-triple-test.false c.loop-triple.invariant
