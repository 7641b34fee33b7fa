use Rattle.std.proofs.Common.{take, refl, sym, subst, ◌∙◌, arith}
use Rattle.std.specs.Option.{MatchOption}
use Rattle.aff_hash.specs.declared.kind.Hash.TheVariants.{Sha256}
use Rattle.aff_spec.specs.Streams.{chunk_of}
use Rattle.aff_volume.specs.Chunks.{IsChunkError, IsDifference}
use Rattle.aff_volume.specs.Image.{Differs, IsRecorded}
use Rattle.aff_volume.proofs.Chunks.{byte_is, call_error, damaged, recorded_long}
use Rattle.aff_volume.proofs.chunk.read_sound_chunk.Goals as goal

pub returns-in-Ok-None-clause-bytes : goal.returns-in-Ok-None-clause-bytes
returns-in-Ok-None-clause-bytes g c = λ t k low.
    byte_is c.in-Ok.count k c.read_chunk.new.out (chunk_of (g.F.Folder.held c.args.folder.now) c.args.info.now.stream c.args.chunk) (c.in-Ok.ensures.bytes t)
    (omega (arith, c.in-Ok.ensures.few, c.read_chunk.auto.out, c.requires.room)) (omega (arith, low, c.in-Ok.ensures.enough t))

pub returns-in-Ok-None-clause-same : goal.returns-in-Ok-None-clause-same
returns-in-Ok-None-clause-same g c = λ t. c.compare.ensures.same t ∙ c.in-Ok.ensures.same t

pub returns-in-Ok-Some-clause-refused : goal.returns-in-Ok-Some-clause-refused
returns-in-Ok-Some-clause-refused g c = λ t.
    let held = g.F.Folder.held c.args.folder.now in
    let stream = c.args.info.now.stream in
    let d = c.in-Ok-Some.field-0-0 in
    let found : IsDifference Sha256 (g.F.Folder.held c.read_chunk.new.folder) stream c.args.chunk c.in-Ok-Some.field-0-0 =
    subst (λ o. MatchOption o (IsRecorded Sha256 (g.F.Folder.held c.read_chunk.new.folder) stream c.args.chunk) (IsDifference Sha256 (g.F.Folder.held c.read_chunk.new.folder) stream c.args.chunk)) c.in-Ok-Some.field-0-is (c.in-Ok-Some.ensures.found t) in
    let is : IsDifference Sha256 held stream c.args.chunk c.in-Ok-Some.field-0-0 = subst (λ h. IsDifference Sha256 h stream c.args.chunk c.in-Ok-Some.field-0-0) (c.in-Ok.ensures.same t) found in (
      refl,
      subst (λ r. Differs Sha256 held stream c.args.chunk r c.sha256_in-in-Ok-Some.result) (sym c.sha256_in.ensures)
          (subst (λ r. Differs Sha256 held stream c.args.chunk (take 32 d.recorded.bytes) r) (sym c.sha256_in-in-Ok-Some.ensures)
          (damaged held stream c.args.chunk d (recorded_long held c.args.info.now (c.requires.there t) c.args.chunk c.requires.low) is)),
    )

pub returns-in-Ok-Some-clause-same : goal.returns-in-Ok-Some-clause-same
returns-in-Ok-Some-clause-same g c = λ t. c.compare.ensures.same t ∙ c.in-Ok.ensures.same t

pub returns-in-Err-compare-clause-refused : goal.returns-in-Err-compare-clause-refused
returns-in-Err-compare-clause-refused g c = λ t.
    subst (IsChunkError (g.F.Folder.held c.args.folder.now) c.args.info.now.stream c.args.chunk) (sym c.of_read-in-Err-compare.ensures)
    (call_error (g.F.Folder.held c.args.folder.now) c.args.info.now.stream c.args.chunk c.in-Err-compare.error)
