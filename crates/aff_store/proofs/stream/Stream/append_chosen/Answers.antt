use Rattle.std.proofs.Common.{◌≡◌, ℕ, ◌+◌, ◌<◌, [], ◌∷◌, ◌++◌, false, true, not, length, length-append, take, get_or, map, sym, ap, subst, ◌∙◌, arith}
use Rattle.std.specs.Prelude.{is_ok, if◌then◌else◌}
use Rattle.std.proofs.lemmas.List.{map-append}
use Rattle.aff_spec.specs.Appends.{applied, Reaches}
use Rattle.aff_spec.specs.Bevvies.{chunk_appends, sums_of}
use Rattle.aff_spec.specs.Chunks.{chunk_at}
use Rattle.aff_store.specs.Pieces.{chosen_chunks}
use Rattle.aff_store.proofs.Chosen.{sums_at, chosen-next, chunks-next, held-next, reached-whole, reached-part}
use Rattle.aff_store.proofs.stream.Stream.append_chosen.Goals as goal

pub append_chunk-requires-clause-sums : goal.append_chunk-requires-clause-sums
append_chunk-requires-clause-sums g c κs within =
    sums_at c.args.bytes.now c.args.stored.now c.args.sums.now c.loop-k.k _ c.requires.digests (omega arith) ∙ ap sums_of (sym c.chunk.ensures.chunk)

pub returns-then-is_err-clause-part : goal.returns-then-is_err-clause-part
returns-then-is_err-clause-part g c = λ t.
    let i = c.loop-k.invariant in
    let stream = c.args.self.now in
    let same : chunk_appends c.loop-k.self.urn c.loop-k.self.chunks c.chunk.result.now ≡ chunk_appends stream.urn (stream.chunks ++ chosen_chunks c.args.bytes.now (take c.loop-k.k c.args.stored.now)) (chunk_at c.args.bytes.now (get_or c.args.stored.now c.loop-k.k 0)) =
    λ j. chunk_appends (i.next j).urn (i.next j).chunks (c.chunk.ensures.chunk j) in
    reached-whole c.args.bytes.now c.args.stored.now c.loop-k.k (omega arith) stream.urn stream.chunks
    (g.F.Folder.held c.args.folder.now) (g.F.Folder.held c.loop-k.folder) (g.F.Folder.held c.append_chunk.new.folder) (i.folder t)
    (c.in-Ok-append_chunk.ensures.ok t ∙ ap (applied (g.F.Folder.held c.loop-k.folder)) same)

pub returns-then-is_err-clause-cause : goal.returns-then-is_err-clause-cause
returns-then-is_err-clause-cause g c = record {
  later = omega (arith, c.loop-k.invariant.later, c.append_chunk.ensures.cause.later);
  rose = λ failed. absurd (cc failed);
}

pub returns-in-Err-append_chunk-clause-part : goal.returns-in-Err-append_chunk-clause-part
returns-in-Err-append_chunk-clause-part g c = λ t.
    let i = c.loop-k.invariant in
    let stream = c.args.self.now in
    let same : chunk_appends c.loop-k.self.urn c.loop-k.self.chunks c.chunk.result.now ≡ chunk_appends stream.urn (stream.chunks ++ chosen_chunks c.args.bytes.now (take c.loop-k.k c.args.stored.now)) (chunk_at c.args.bytes.now (get_or c.args.stored.now c.loop-k.k 0)) =
    λ j. chunk_appends (i.next j).urn (i.next j).chunks (c.chunk.ensures.chunk j) in
    reached-part c.args.bytes.now c.args.stored.now c.loop-k.k (omega arith) stream.urn stream.chunks
    (g.F.Folder.held c.args.folder.now) (g.F.Folder.held c.loop-k.folder) (g.F.Folder.held c.append_chunk.new.folder) (i.folder t)
    (subst (λ v. Reaches (g.F.Folder.held c.loop-k.folder) v (g.F.Folder.held c.append_chunk.new.folder)) same (c.in-Err-append_chunk.ensures.part t))

pub loop-k-preserved : goal.loop-k-preserved
loop-k-preserved g c =
    let i = c.loop-k.invariant in
    let stream = c.args.self.now in
    let bytes = c.args.bytes.now in
    let stored = c.args.stored.now in
    let k : ℕ = c.loop-k.k in
    let below : c.loop-k.k < length c.args.stored.now = omega arith in
    let same : chunk_appends c.loop-k.self.urn c.loop-k.self.chunks c.chunk.result.now ≡ chunk_appends stream.urn (stream.chunks ++ chosen_chunks bytes (take k stored)) (chunk_at bytes (get_or stored k 0)) =
    λ j. chunk_appends (i.next j).urn (i.next j).chunks (c.chunk.ensures.chunk j) in
    let ok : is_ok c.push.result ≡ true = c.is_err.ensures.negation ∙ ap not c.if-is_err.false in
    let pushed : c.push.new.self.items ≡ c.loop-k.receipts.items ++ c.in-Ok-append_chunk.receipt ∷ [] =
    c.push.ensures.items ∙ ap (λ b. if b then c.loop-k.receipts.items ++ c.in-Ok-append_chunk.receipt ∷ [] else c.loop-k.receipts.items) ok in
    record {
      count = ap length pushed ∙ length-append c.loop-k.receipts.items (c.in-Ok-append_chunk.receipt ∷ []) ∙ ap (λ n. n + 1) i.count;
      told = λ t.
          ap (map g.F.Receipt.Telling.told) pushed ∙ map-append g.F.Receipt.Telling.told c.loop-k.receipts.items (c.in-Ok-append_chunk.receipt ∷ [])
          ∙ (λ j. i.told t j ++ (c.in-Ok-append_chunk.ensures.receipt t ∙ c.chunk.ensures.chunk) j ∷ []) ∙ sym (chosen-next bytes stored k below);
      next = c.in-Ok-append_chunk.ensures.next
          ∙ (λ j. record { urn = (i.next j).urn; chunks = (i.next j).chunks ++ c.chunk.ensures.chunk j ∷ []; ended = false })
          ∙ (λ j. record { urn = stream.urn; chunks = chunks-next bytes stored k below stream.urn stream.chunks j; ended = false });
      folder = λ t.
          held-next bytes stored k below stream.urn stream.chunks (g.F.Folder.held c.args.folder.now) (g.F.Folder.held c.loop-k.folder) (g.F.Folder.held c.append_chunk.new.folder) (i.folder t)
          (c.in-Ok-append_chunk.ensures.ok t ∙ ap (applied (g.F.Folder.held c.loop-k.folder)) same);
      later = omega (arith, i.later, c.append_chunk.ensures.cause.later);
    }
