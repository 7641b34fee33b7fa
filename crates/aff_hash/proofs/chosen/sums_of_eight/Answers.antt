use Rattle.std.proofs.Common.{◌≡◌, ℕ, List, [], length, ◌∙◌, arith, Bor}
use Rattle.std.proofs.lemmas.List.{length-map}
use Rattle.aff_lanes.specs.Messages.{texts}
use Rattle.aff_hash.specs.Chosen.{chunk_sums_of}
use Rattle.aff_hash.proofs.Entries.{entry_at, map_by_place}
use Rattle.aff_hash.proofs.chosen.sums_of_eight.Goals as goal

pub returns : goal.returns
returns c =
    let ts = texts c.args.chunks.now in
    let len : length ts ≡ 8 = length-map c.args.chunks.now (λ (m : Bor (List ℕ)). m.now) ∙ c.told-chunks in
    rw (
      entry_at ts _ _ _ 0 _ (omega (arith, len)) c.md5_of_eight-md5.ensures c.sha1_of_eight-sha1.ensures c.sha256_of_eight-sha256.ensures c.entry.ensures,
      entry_at ts _ _ _ 1 _ (omega (arith, len)) c.md5_of_eight-md5.ensures c.sha1_of_eight-sha1.ensures c.sha256_of_eight-sha256.ensures c.entry-2.ensures,
      entry_at ts _ _ _ 2 _ (omega (arith, len)) c.md5_of_eight-md5.ensures c.sha1_of_eight-sha1.ensures c.sha256_of_eight-sha256.ensures c.entry-3.ensures,
      entry_at ts _ _ _ 3 _ (omega (arith, len)) c.md5_of_eight-md5.ensures c.sha1_of_eight-sha1.ensures c.sha256_of_eight-sha256.ensures c.entry-4.ensures,
      entry_at ts _ _ _ 4 _ (omega (arith, len)) c.md5_of_eight-md5.ensures c.sha1_of_eight-sha1.ensures c.sha256_of_eight-sha256.ensures c.entry-5.ensures,
      entry_at ts _ _ _ 5 _ (omega (arith, len)) c.md5_of_eight-md5.ensures c.sha1_of_eight-sha1.ensures c.sha256_of_eight-sha256.ensures c.entry-6.ensures,
      entry_at ts _ _ _ 6 _ (omega (arith, len)) c.md5_of_eight-md5.ensures c.sha1_of_eight-sha1.ensures c.sha256_of_eight-sha256.ensures c.entry-7.ensures,
      entry_at ts _ _ _ 7 _ (omega (arith, len)) c.md5_of_eight-md5.ensures c.sha1_of_eight-sha1.ensures c.sha256_of_eight-sha256.ensures c.entry-8.ensures,
    )
    (map_by_place chunk_sums_of ts 8 [] len)
