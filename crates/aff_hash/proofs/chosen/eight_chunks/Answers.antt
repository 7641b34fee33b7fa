use Rattle.aff_spec.specs.Chunks.{chunk_at}
use Rattle.aff_hash.proofs.Entries.{map_by_place}
use Rattle.aff_hash.proofs.chosen.eight_chunks.Goals as goal

pub returns-clause-chunks : goal.returns-clause-chunks
returns-clause-chunks c = rw (c.chunk.ensures.chunk, c.chunk-2.ensures.chunk, c.chunk-3.ensures.chunk, c.chunk-4.ensures.chunk, c.chunk-5.ensures.chunk, c.chunk-6.ensures.chunk, c.chunk-7.ensures.chunk, c.chunk-8.ensures.chunk) (map_by_place (chunk_at c.args.bytes.now) c.args.chosen.now 8 0 c.requires.count)
