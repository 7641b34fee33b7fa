-- Pieces that several owners share.
use Rattle.std.specs.Arc.{arc_value}
use Rattle.std.specs.declared.sync.Arc.{Arc}
use Rattle.aff_model.specs.History.{Part, Published, publication_of}

-- the publication that a shared piece is of
abbrev pub published : {R Z : Type 0} → Arc (Part R) Z → Published
published piece = publication_of (arc_value piece)
