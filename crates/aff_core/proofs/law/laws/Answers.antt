use Rattle.std.proofs.Common.{arith}
use Rattle.aff_core.specs.Steps.{start}
use Rattle.aff_core.proofs.EventLaws.{finish-complete, kind_at-cell, none-IsDistinct, run-finish, run-fronts, run-grows, run-once}
use Rattle.aff_core.proofs.law.laws.Goals as goal

pub returns-clause-once : goal.returns-clause-once
returns-clause-once c plan passes sessions events d h = run-once (start plan passes sessions) events d h none-IsDistinct

pub returns-clause-grows : goal.returns-clause-grows
returns-clause-grows c from events d h = run-grows from events d h

pub returns-clause-fronts : goal.returns-clause-fronts
returns-clause-fronts c from events d session h = (run-fronts session from events d h).1

pub returns-clause-one_finish : goal.returns-clause-one_finish
returns-clause-one_finish c plan passes sessions events d h = omega (arith, run-finish (start plan passes sessions) events d h)

pub returns-clause-complete : goal.returns-clause-complete
returns-clause-complete c from before after d h = let f = finish-complete from before after d h in (f.between, f.front, f.complete)

pub returns-clause-kinds : goal.returns-clause-kinds
returns-clause-kinds c content extents history i = kind_at-cell content extents history i
