use Rattle.std.proofs.Common.{sym, subst, ◌∙◌, arith}
use Rattle.std.specs.Prelude.{MatchOption}
use Rattle.aff_volume.specs.Agreement.{IsChunkSound, IsFirstDifference}
use Rattle.aff_verify.specs.Verdicts.{IsFirstFinding}
use Rattle.aff_verify.proofs.Findings.{block_unsound, sound_more}
use Rattle.aff_verify.proofs.verdict.first_difference.Goals as goal

pub returns-in-Ok-Some-clause-found : goal.returns-in-Ok-Some-clause-found
returns-in-Ok-Some-clause-found g c = λ t.
    let held = g.F.Folder.held c.args.folder.now in
    let then = g.F.Folder.held c.loop-chunk.folder in
    let info = c.args.volume.now.info in
    let chunk = c.loop-chunk.chunk in
    let d = c.in-Ok-Some.difference in
    let first : IsFirstDifference then info.stream chunk d =
    subst (λ o. MatchOption o (IsChunkSound then info.stream chunk) (IsFirstDifference then info.stream chunk)) c.in-Ok-Some.field-0-is (c.in-Ok-Some.ensures.found t) in
    subst (IsFirstFinding held info) (sym c.block_finding.ensures)
    (block_unsound held info chunk d (omega (arith, c.loop-chunk-test.true, c.chunks-chunk-end.ensures)) (c.loop-chunk.invariant.sound t)
    (subst (λ h. IsFirstDifference h info.stream chunk d) (c.loop-chunk.invariant.same t) first))

pub loop-chunk-preserved : goal.loop-chunk-preserved
loop-chunk-preserved g c =
    let i = c.loop-chunk.invariant in
    let held = g.F.Folder.held c.args.folder.now in
    let then = g.F.Folder.held c.loop-chunk.folder in
    let stream = c.args.volume.now.info.stream in
    let chunk = c.loop-chunk.chunk in
    record {
      room = c.compare_chunk.auto.room ∙ i.room;
      sound = λ t.
          let own : IsChunkSound then stream chunk =
          subst (λ o. MatchOption o (IsChunkSound then stream chunk) (IsFirstDifference then stream chunk)) c.in-Ok-None.field-0-is (c.in-Ok-None.ensures.found t) in
          sound_more held stream chunk (i.sound t) (subst (λ h. IsChunkSound h stream chunk) (i.same t) own);
      same = λ t. c.in-Ok-None.ensures.same t ∙ i.same t;
      later = omega (arith, c.in-Ok-None.ensures.cause.later, i.later);
    }

pub returns-clause-found : goal.returns-clause-found
returns-clause-found g c = λ t k low. c.loop-chunk.invariant.sound t k (omega (arith, low, c.loop-chunk-test.false, c.chunks-chunk-end.ensures))
