use Rattle.std.proofs.Common.{map}
use Rattle.aff_model.specs.Pieces.{published}
use Rattle.aff_map.proofs.Spots.{IsMapOf}
use Rattle.aff_map.proofs.entries.runs_of.Given as goal

abbrev pub invariant-loop-turn : goal.invariant-loop-turn
invariant-loop-turn g l = IsMapOf l.plan.extents (map published l.pieces) l.turn-items l.turn-index l.entries.items
