use Rattle.aff_volume.proofs.Chunks.{is_difference, is_recorded}
use Rattle.aff_volume.proofs.chunk.compare.Goals as goal

pub returns-in-Match-clause-found : goal.returns-in-Match-clause-found
returns-in-Match-clause-found g c = λ t.
    is_recorded c.args.kind (g.F.Folder.held c.args.folder.now) c.args.info.now.stream c.args.chunk c.read_recorded.new.out c.args.bytes.now
    (c.in_default.ensures.recorded t) c.read_recorded.ensures.len (c.requires.chunk t) (c.check.ensures.same.0 c.in-Match.is)

pub returns-in-Differs-clause-found : goal.returns-in-Differs-clause-found
returns-in-Differs-clause-found g c = λ t.
    is_difference c.args.kind (g.F.Folder.held c.args.folder.now) c.args.info.now.stream c.args.chunk c.read_recorded.new.out c.args.bytes.now
    (c.in_default.ensures.recorded t) c.read_recorded.ensures.len (c.requires.chunk t) (record { recorded = c.in-Differs.recorded; found = c.in-Differs.found }) c.in-Differs.ensures.differs
