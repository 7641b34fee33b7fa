use Rattle.std.proofs.Common.{◌≡◌, length, ap, ◌∙◌}
use Rattle.std.proofs.lemmas.Result.{on_ok_weaker, IfErr-weaker}
use Rattle.aff_model.specs.Plan.{chunk_count}
use Rattle.aff_spec.specs.BlockHashes.{chunks_in}
use Rattle.aff_bevvy.proofs.ChunkPoints.{chunks_stand, fault_from}
use Rattle.aff_bevvy.proofs.points.check_index.Goals as goal

pub returns-clause-ok : goal.returns-clause-ok
returns-clause-ok g c =
    let count : length c.deref.result.now ≡ chunks_in (chunk_count c.args.size) c.args.bevvy =
    ap length c.deref.ensures.value ∙ c.in-Ok.ensures.count ∙ c.chunks_in-count.ensures ∙ ap (λ n. chunks_in n c.args.bevvy) c.count_chunks.ensures in
    on_ok_weaker c.check_points.result
    (λ each t. chunks_stand (g.F.Folder.held c.args.folder.now) c.args.stream.now c.args.size c.args.bevvy c.args.len c.deref.result.now
    (c.deref.ensures.value ∙ c.in-Ok.ensures.points t) count (c.requires.room t) each)
    c.check_points.ensures.ok

pub returns-clause-fault : goal.returns-clause-fault
returns-clause-fault g c =
    let count : length c.deref.result.now ≡ chunks_in (chunk_count c.args.size) c.args.bevvy =
    ap length c.deref.ensures.value ∙ c.in-Ok.ensures.count ∙ c.chunks_in-count.ensures ∙ ap (λ n. chunks_in n c.args.bevvy) c.count_chunks.ensures in
    IfErr-weaker c.check_points.result _ _
    (λ e fault t. fault_from (g.F.Folder.held c.args.folder.now) c.args.stream.now c.args.size c.args.bevvy c.args.len c.deref.result.now
    (c.deref.ensures.value ∙ c.in-Ok.ensures.points t) count (c.requires.room t) e fault)
    c.check_points.ensures.fault
