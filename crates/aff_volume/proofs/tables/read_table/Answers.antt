use Rattle.std.proofs.Common.{◌≡◌, sym, subst, ◌∙◌, length}
use Rattle.std.specs.Prelude.{IsSome}
use Rattle.std.specs.FinMap.{get}
use Rattle.aff_model.specs.Held.{bytes_of}
use Rattle.aff_spec.specs.Names.{segment_in}
use Rattle.aff_volume.proofs.Lengths.{room_known}
use Rattle.aff_volume.proofs.Refused.{some_length}
use Rattle.aff_volume.proofs.tables.read_table.Goals as goal

pub read_whole-requires-clause-there : goal.read_whole-requires-clause-there
read_whole-requires-clause-there g c κs within = λ t.
    subst (λ n. IsSome (get (g.F.Folder.held c.args.folder.now) n)) (sym (c.as_str.ensures.value ∙ c.in-Ok.ensures))
    (some_length _ c.args.len (c.requires t))

pub read_whole-requires-clause-length : goal.read_whole-requires-clause-length
read_whole-requires-clause-length g c κs within = λ t.
    subst (λ n. length (bytes_of (g.F.Folder.held c.args.folder.now) n) ≡ c.args.len) (sym (c.as_str.ensures.value ∙ c.in-Ok.ensures))
    (room_known (g.F.Folder.held c.args.folder.now) (segment_in c.args.image.now c.args.name.now) c.args.len (c.requires t))
