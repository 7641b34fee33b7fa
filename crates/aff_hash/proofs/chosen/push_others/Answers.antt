use Rattle.std.proofs.Common.{◌≡◌, arith, slice_index, ap, ◌∙◌}
use Rattle.aff_spec.specs.Chunks.{chunk_at}
use Rattle.aff_hash.specs.Chosen.{chunk_sums_of}
use Rattle.aff_hash.proofs.Entries.{one_chosen}
use Rattle.aff_hash.proofs.chosen.push_others.Goals as goal

pub others-preserved : goal.others-preserved
others-preserved c =
    let chosen = c.args.chosen.now in
    let entry : c.chunk_sums.result ≡ chunk_sums_of (chunk_at c.args.bytes.now (slice_index chosen c.others.i)) =
    (λ i. record { md5 = c.chunk_sums.ensures.md5 i; sha1 = c.chunk_sums.ensures.sha1 i; sha256 = c.chunk_sums.ensures.sha256 i })
    ∙ ap chunk_sums_of c.chunk.ensures.chunk in
    one_chosen c.args.bytes.now chosen c.args.sums.now.items _ _ _ c.others.i c.others.invariant c.in_ok-push.ensures.items entry (omega arith)
