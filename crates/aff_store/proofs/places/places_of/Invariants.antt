use Rattle.std.proofs.Common.{◌≡◌, ◌+◌, length, take}
use Rattle.aff_model.specs.Legal.{numbers_of}
use Rattle.aff_store.specs.Pieces.{ArePlaces}
use Rattle.aff_store.proofs.places.places_of.Given as goal

abbrev pub invariant-loop-cut : goal.invariant-loop-cut
invariant-loop-cut l = record {
  placed : ArePlaces l.first (take l.cut-index l.cuts) l.places.items;
  next : l.next ≡ l.first + length (numbers_of l.places.items);
}
