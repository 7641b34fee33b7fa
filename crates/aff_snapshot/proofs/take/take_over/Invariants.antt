use Rattle.std.proofs.Common.{◌≡◌, map}
use Rattle.std.specs.Arc.{arc_value}
use mathlib.Core.List.{IsPrefix}
use Rattle.aff_snapshot.specs.Lists.{names_of}
use Rattle.aff_snapshot.specs.Sound.{AreSound}
use Rattle.aff_snapshot.proofs.take.take_over.Given as goal

abbrev pub invariant-loop-place : goal.invariant-loop-place
invariant-loop-place g l =
    (names_of g.R.Marked.marks (map arc_value l.pieces.items) ≡ l.front.names) × (l.front.list ≡ l.initial.front.list)
    × AreSound g.C.Case.content l.initial.front.list.plan g.R.Telling.receipt_tells g.R.Telling.told (map arc_value l.pieces.items)
    × IsPrefix (map arc_value l.initial.pieces.items) (map arc_value l.pieces.items) × IsPrefix l.front.names l.initial.shown.names
