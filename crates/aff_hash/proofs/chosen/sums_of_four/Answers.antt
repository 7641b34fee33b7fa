use Rattle.std.proofs.Common.{◌≡◌, ℕ, List, [], length, ◌∙◌, arith, Bor}
use Rattle.std.proofs.lemmas.List.{length-map}
use Rattle.aff_lanes.specs.Messages.{texts}
use Rattle.aff_hash.specs.Chosen.{chunk_sums_of}
use Rattle.aff_hash.proofs.Entries.{entry_at, map_by_place}
use Rattle.aff_hash.proofs.chosen.sums_of_four.Goals as goal

pub returns : goal.returns
returns c =
    let ts = texts c.args.chunks.now in
    let len : length ts ≡ 4 = length-map c.args.chunks.now (λ (m : Bor (List ℕ)). m.now) ∙ c.told-chunks in
    rw (
      entry_at ts _ _ _ 0 _ (omega (arith, len)) c.md5_of_four.ensures c.sha1_of_four.ensures c.sha256_of_four.ensures c.entry.ensures,
      entry_at ts _ _ _ 1 _ (omega (arith, len)) c.md5_of_four.ensures c.sha1_of_four.ensures c.sha256_of_four.ensures c.entry-2.ensures,
      entry_at ts _ _ _ 2 _ (omega (arith, len)) c.md5_of_four.ensures c.sha1_of_four.ensures c.sha256_of_four.ensures c.entry-3.ensures,
      entry_at ts _ _ _ 3 _ (omega (arith, len)) c.md5_of_four.ensures c.sha1_of_four.ensures c.sha256_of_four.ensures c.entry-4.ensures,
    )
    (map_by_place chunk_sums_of ts 4 [] len)
