use Rattle.std.proofs.Common.{ap, ◌∙◌}
use Rattle.aff_spec.specs.Appends.{applied}
use Rattle.aff_bevvy.specs.Written.{full_index, stored_chunk}
use Rattle.aff_bevvy.proofs.Growing.{has_one_more}
use Rattle.aff_bevvy.proofs.writer.StreamWriter.append_chunk.Goals as goal

pub returns-clause-more : goal.returns-clause-more
returns-clause-more g c = λ t.
    has_one_more (g.F.Folder.held c.args.folder.now) (g.F.Folder.held c.close_full.new.folder) c.args.self.now.stream c.args.self.now.count c.args.bytes.now c.requires.room
    (c.in_default.ensures.ok t
    ∙ ap (λ h. applied h (full_index c.self.inside.stream c.self.inside.count)) (c.in-Ok.ensures.ok t)
    ∙ ap (λ s. applied (g.F.Folder.held c.args.folder.now) (stored_chunk s.stream s.count c.args.bytes.now)) c.self.view_is)
