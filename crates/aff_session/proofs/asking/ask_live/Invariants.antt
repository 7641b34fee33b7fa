use Rattle.std.proofs.Common.{◌≤◌, take, IfSome}
use Rattle.aff_session.specs.Asked.{AreAskedFor}
use Rattle.aff_session.specs.Looking.{HasLooked}
use Rattle.aff_session.specs.Shown.{AreAnsweredBy}
use Rattle.aff_session.proofs.asking.ask_live.Given as goal

abbrev pub invariant-loop-request : goal.invariant-loop-request
invariant-loop-request g l = record {
  looked : HasLooked l.initial.looker l.looker;
  later : g.F.Peek.Peek.peek_faults l.initial.looker.peek ≤ g.F.Peek.Peek.peek_faults l.looker.peek;
  answers : IfSome l.looker.viewer (λ v. AreAnsweredBy l.initial.looker.plan g.F.Receipt.Telling.receipt_tells g.F.Receipt.Telling.told v.pieces (take l.request-index l.requests) l.answers.items);
  asked : AreAskedFor l.initial.looker.plan.extents l.looker.raised (take l.request-index l.requests);
}
