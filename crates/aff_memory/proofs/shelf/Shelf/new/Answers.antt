use Rattle.std.proofs.Common.{◌∙◌, ap}
use Rattle.aff_memory.specs.Shelf.{folder_of}
use Rattle.aff_memory.proofs.Shelves.{no_entries}
use Rattle.aff_memory.proofs.shelf.Shelf.new.Goals as goal

pub returns : goal.returns
returns c = ap folder_of c.new.ensures.items ∙ no_entries
