use Rattle.std.proofs.Common.{ap, subst, ◌∙◌, arith}
use Rattle.aff_spec.specs.Appends.{applied, Reaches}
use Rattle.aff_finish.specs.Container.{container_appends}
use Rattle.aff_finish.specs.Information.{information}
use Rattle.aff_finish.proofs.Finishing.{end_alone, hashes_there, made_in_part, made_whole, part_of_end, segments_there, walkable_there}
use Rattle.aff_finish.proofs.volume.finish.Goals as goal

pub returns-in-Err-clause-part : goal.returns-in-Err-clause-part
returns-in-Err-clause-part g c = λ t.
    part_of_end c.args.uuid.now c.args.plan.now.size c.args.stream.now.chunks c.args.entries.now (g.F.Folder.held c.args.folder.now) (g.F.Folder.held c.end.new.folder) (c.in-Err.ensures.part t)

pub hash-requires-clause-few : goal.hash-requires-clause-few
hash-requires-clause-few g c κs within = let n = c.count-chunks.ensures c.requires.going in omega (arith, n, c.requires.few)

pub hash-requires-clause-walkable : goal.hash-requires-clause-walkable
hash-requires-clause-walkable g c κs within =
    walkable_there c.args.uuid.now c.args.plan.now.size c.args.stream.now.chunks c.args.entries.now (g.F.Folder.held c.args.folder.now) g.F.Folder.tells c.count-chunks.result (g.F.Folder.held c.end.new.folder)
    (c.count-chunks.ensures c.requires.going) c.in-Ok.ensures.ok c.requires.walkable

pub hash-requires-clause-there : goal.hash-requires-clause-there
hash-requires-clause-there g c κs within =
    segments_there c.args.uuid.now c.args.plan.now.size c.args.stream.now.chunks c.args.entries.now (g.F.Folder.held c.args.folder.now) g.F.Folder.tells c.count-chunks.result (g.F.Folder.held c.end.new.folder)
    (c.count-chunks.ensures c.requires.going) c.in-Ok.ensures.ok c.in-Ok.segments.map c.in-Ok.segments.idx c.in-Ok.ensures.map c.in-Ok.ensures.idx c.requires.there

pub returns-in-Err-hash-clause-part : goal.returns-in-Err-hash-clause-part
returns-in-Err-hash-clause-part g c = λ t.
    end_alone c.args.uuid.now c.args.plan.now.size c.args.stream.now.chunks c.args.entries.now (g.F.Folder.held c.args.folder.now) (g.F.Folder.held c.hash.new.folder)
    (c.hash.ensures.same t ∙ c.in-Ok.ensures.ok t)

pub tell-requires-clause-few : goal.tell-requires-clause-few
tell-requires-clause-few g c κs within = let n = c.count-chunks.ensures c.requires.going in omega (arith, n, c.requires.few)

pub returns-in-Ok-tell-clause-ok : goal.returns-in-Ok-tell-clause-ok
returns-in-Ok-tell-clause-ok g c =
    let uuid = c.args.uuid.now in
    made_whole c.args.uuid.now c.args.plan.now.size c.args.stream.now.chunks c.args.entries.now (g.F.Folder.held c.args.folder.now) g.F.Folder.tells c.count-chunks.result (g.F.Folder.held c.end.new.folder)
    (c.count-chunks.ensures c.requires.going) c.in-Ok.ensures.ok c.in-Ok-hash.hashes c.in-Ok-hash.ensures.hashes (g.F.Folder.held c.hash.new.folder) (g.F.Folder.held c.tell.new.folder) c.hash.ensures.same
    (λ t. c.in-Ok-tell.ensures.ok t ∙ ap (λ n. applied (g.F.Folder.held c.hash.new.folder) (container_appends uuid (information uuid n c.count-chunks.result c.in-Ok-hash.hashes))) c.size.ensures)

pub returns-in-Ok-tell-clause-hashes : goal.returns-in-Ok-tell-clause-hashes
returns-in-Ok-tell-clause-hashes g c =
    hashes_there c.args.uuid.now c.args.plan.now.size c.args.stream.now.chunks c.args.entries.now (g.F.Folder.held c.args.folder.now) g.F.Folder.tells c.count-chunks.result (g.F.Folder.held c.end.new.folder)
    (c.count-chunks.ensures c.requires.going) c.in-Ok.ensures.ok c.in-Ok-hash.hashes c.in-Ok-hash.ensures.hashes

pub returns-clause-part : goal.returns-clause-part
returns-clause-part g c =
    let uuid = c.args.uuid.now in
    made_in_part c.args.uuid.now c.args.plan.now.size c.args.stream.now.chunks c.args.entries.now (g.F.Folder.held c.args.folder.now) g.F.Folder.tells c.count-chunks.result (g.F.Folder.held c.end.new.folder)
    (c.count-chunks.ensures c.requires.going) c.in-Ok.ensures.ok c.in-Ok-hash.hashes c.in-Ok-hash.ensures.hashes (g.F.Folder.held c.hash.new.folder) (g.F.Folder.held c.tell.new.folder) c.hash.ensures.same
    (λ t. subst (λ n. Reaches (g.F.Folder.held c.hash.new.folder) (container_appends uuid (information uuid n c.count-chunks.result c.in-Ok-hash.hashes)) (g.F.Folder.held c.tell.new.folder)) c.size.ensures (c.in-Err-tell.ensures.part t))
