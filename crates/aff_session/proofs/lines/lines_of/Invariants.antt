use Rattle.std.proofs.Common.{◌≡◌, ◌≤◌, length, take, vec_capacity}
use Rattle.aff_model.specs.Kinds.{spread}
use Rattle.aff_session.specs.Lines.{AreLinesOf}
use Rattle.aff_session.proofs.lines.lines_of.Given as goal

abbrev pub invariant-loop-run : goal.invariant-loop-run
invariant-loop-run l = record {
  so_far : l.from ≡ length (spread (take l.run-index l.runs));
  lines : AreLinesOf l.at l.bytes (take l.run-index l.runs) l.lines.items;
  room : length l.runs ≤ vec_capacity l.lines;
}
