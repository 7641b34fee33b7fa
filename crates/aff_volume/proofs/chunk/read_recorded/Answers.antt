use Rattle.std.proofs.Common.{◌≡◌, ◌*◌, ◌/◌, ◌%◌, ◌++◌, length, take, drop, ap, sym, subst, ◌∙◌}
use Rattle.aff_model.specs.Held.{IsInside, bytes_of}
use Rattle.aff_hash.specs.Digest.{digest_size}
use Rattle.aff_spec.specs.Names.{eight_digits, segment_in}
use Rattle.aff_volume.specs.Image.{block_hash_name}
use Rattle.aff_volume.proofs.Chunks.{recorded_inside}
use Rattle.aff_volume.proofs.chunk.read_recorded.Goals as goal

pub read_at-requires : goal.read_at-requires
read_at-requires g c = λ t.
    let held = g.F.Folder.held c.args.folder.now in
    let stream = c.args.info.now.stream in
    let name : c.as_str.result.now ≡ block_hash_name c.args.kind stream (c.args.chunk / 1024) =
    c.as_str.ensures.value ∙ c.in-Ok.ensures ∙ ap (λ s. segment_in stream (eight_digits (c.args.chunk / 1024) ++ s)) c.hash_suffix.ensures in
    subst (λ v. IsInside held v (c.digest_len.result * (c.args.chunk % 1024)) (length c.args.out.now)) (sym name)
    (subst (λ n. IsInside held (block_hash_name c.args.kind stream (c.args.chunk / 1024)) (n * (c.args.chunk % 1024)) (length c.args.out.now)) (sym c.digest_len.ensures.size)
    (subst (λ n. IsInside held (block_hash_name c.args.kind stream (c.args.chunk / 1024)) (digest_size c.args.kind * (c.args.chunk % 1024)) n) (sym c.requires.room)
    (recorded_inside held c.args.info.now (c.requires.there t) c.args.chunk c.requires.low c.args.kind c.requires.kept)))

pub returns-in-Ok-read_at-clause-recorded : goal.returns-in-Ok-read_at-clause-recorded
returns-in-Ok-read_at-clause-recorded g c = λ t.
    let held = g.F.Folder.held c.args.folder.now in
    let stream = c.args.info.now.stream in
    let name : c.as_str.result.now ≡ block_hash_name c.args.kind stream (c.args.chunk / 1024) =
    c.as_str.ensures.value ∙ c.in-Ok.ensures ∙ ap (λ s. segment_in stream (eight_digits (c.args.chunk / 1024) ++ s)) c.hash_suffix.ensures in
    c.in-Ok-read_at.ensures.bytes t
    ∙ (λ i. take (c.requires.room i) (drop (c.digest_len.ensures.size i * (c.args.chunk % 1024)) (bytes_of held (name i))))
