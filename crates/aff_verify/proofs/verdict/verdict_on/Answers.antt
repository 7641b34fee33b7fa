use Rattle.std.proofs.Common.{ap, sym, subst, ◌∙◌}
use Rattle.std.specs.Prelude.{MatchOption}
use Rattle.sha2.specs.Sha512.{sha512}
use Rattle.aff_spec.specs.Bevvies.{bevvy_count}
use Rattle.aff_model.specs.Plan.{chunk_count}
use Rattle.aff_finish.specs.BlockMap.{block_map_digests}
use Rattle.aff_info.specs.declared.info.Info.{Info}
use Rattle.aff_verify.specs.Differences.{linear_in}
use Rattle.aff_verify.specs.Verdicts.{AreBlocks, IsFirstFinding, image_of}
use Rattle.aff_verify.proofs.Findings.{taken_linear}
use Rattle.aff_verify.proofs.verdict.verdict_on.Goals as goal

pub returns-in-None-clause-verdict : goal.returns-in-None-clause-verdict
returns-in-None-clause-verdict g c = λ t.
    let held = g.F.Folder.held c.args.folder.now in
    let info = c.args.volume.now.info in
    let blocks : AreBlocks held info = subst (λ o. MatchOption o (AreBlocks held info) (IsFirstFinding held info)) c.in-Ok-None.field-0-is (c.in-Ok-None.ensures.found t) in
    let hashed = c.in-Ok.ensures.linear in
    let taken = taken_linear held info c.in-Ok.linear hashed.0 hashed.1 (hashed.2 t ∙ ap (λ h. image_of h info) (c.in-Ok-None.ensures.same t)) in
    let mapped = c.in-Ok-block_map.ensures.hash in
    record {
      blocks = blocks;
      linear = λ k. ap (λ (i : Info). linear_in i.linear k) (sym c.info-info.ensures.info) ∙ c.in_default.ensures k ∙ taken k;
      block_map =
          ap (λ (i : Info). i.block_map) (sym c.info-info.ensures.info)
          ∙ c.in-None.ensures
          ∙ mapped.1
          ∙ ap sha512 (mapped.2 t ∙ ap (λ h. block_map_digests h info.stream info.image (bevvy_count (chunk_count info.stream_size))) (c.in-Ok.ensures.same t ∙ c.in-Ok-None.ensures.same t));
    }
