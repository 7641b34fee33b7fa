use Rattle.std.proofs.Common.{◌≡◌, ◌≤◌, List, ◌++◌, map, take}
use Rattle.std.specs.Arc.{arc_value}
use Rattle.aff_script.specs.declared.script.Request.{Request}
use Rattle.aff_session.specs.Looking.{HasLooked}
use Rattle.aff_session.specs.Shown.{AreAnsweredBy}
use Rattle.aff_session.proofs.asking.ask_late.Given as goal

abbrev pub invariant-loop-request : goal.invariant-loop-request
invariant-loop-request g l = record {
  looked : HasLooked l.initial.looker l.looker;
  viewer : l.looker.viewer ≡ l.initial.looker.viewer;
  later : g.F.Peek.Peek.peek_faults l.initial.looker.peek ≤ g.F.Peek.Peek.peek_faults l.looker.peek;
  answers : (done : List Request) → AreAnsweredBy l.initial.looker.plan g.F.Receipt.Telling.receipt_tells g.F.Receipt.Telling.told (map arc_value l.pieces) done l.initial.answers.items
      → AreAnsweredBy l.initial.looker.plan g.F.Receipt.Telling.receipt_tells g.F.Receipt.Telling.told (map arc_value l.pieces) (done ++ take l.request-index l.requests) l.answers.items;
}
