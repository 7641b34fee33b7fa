use Rattle.std.proofs.Common.{◌≡◌, length, take, map}
use Rattle.aff_memory.proofs.shelf.list_of.Given as goal

abbrev pub invariant-loop-one : goal.invariant-loop-one
invariant-loop-one l = l.segments.items ≡ map (λ e. (e.0, length e.1)) (take l.one-index l.kept)
