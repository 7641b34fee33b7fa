use Rattle.std.proofs.Common.{subst, ◌∙◌}
use Rattle.std.specs.Prelude.{MatchOption}
use Rattle.aff_hash.specs.declared.kind.Hash.TheVariants.{Md5, Sha1, Sha256}
use Rattle.aff_volume.specs.Chunks.{IsDifference}
use Rattle.aff_volume.specs.Image.{IsRecorded}
use Rattle.aff_volume.proofs.Agreeing.{first_by_sha256}
use Rattle.aff_volume.proofs.chunk.compare_all.Goals as goal

pub returns-in-Ok-Some-compare-2-clause-found : goal.returns-in-Ok-Some-compare-2-clause-found
returns-in-Ok-Some-compare-2-clause-found g c = λ t.
    let held = g.F.Folder.held c.args.folder.now in
    let stream = c.args.info.now.stream in
    let chunk = c.args.chunk in
    let then = g.F.Folder.held c.compare.new.folder in
    let last = g.F.Folder.held c.compare-2.new.folder in
    let d = c.in-Ok-Some-compare-2.difference in
    let md5 : IsRecorded Md5 held stream chunk =
    subst (λ o. MatchOption o (IsRecorded Md5 held stream chunk) (IsDifference Md5 held stream chunk)) c.in-Ok-None.field-0-is (c.in-Ok-None.ensures.found t) in
    let sha1 : IsRecorded Sha1 then stream chunk =
    subst (λ o. MatchOption o (IsRecorded Sha1 then stream chunk) (IsDifference Sha1 then stream chunk)) c.in-Ok-None-compare.field-0-is (c.in-Ok-None-compare.ensures.found t) in
    let sha256 : IsDifference Sha256 last stream chunk d =
    subst (λ o. MatchOption o (IsRecorded Sha256 last stream chunk) (IsDifference Sha256 last stream chunk)) c.in-Ok-Some-compare-2.field-0-is (c.in-Ok-Some-compare-2.ensures.found t) in
    first_by_sha256 held stream chunk d md5 (subst (λ h. IsRecorded Sha1 h stream chunk) (c.in-Ok-None.ensures.same t) sha1)
    (subst (λ h. IsDifference Sha256 h stream chunk d) (c.in-Ok-None-compare.ensures.same t ∙ c.in-Ok-None.ensures.same t) sha256)
