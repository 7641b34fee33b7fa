use Rattle.std.proofs.Common.{◌≡◌, ℕ, ◌+◌, ◌-◌, ◌/◌, ◌<◌, Some, List, length, get_or, replicate, sym, ap, subst, ◌∙◌, arith, slice_get}
use Rattle.std.proofs.lemmas.List.{get_or-replicate}
use Rattle.std.proofs.lemmas.Option.{slice_get-get_or}
use Rattle.aff_model.specs.declared.publication.Place.TheVariants.{Chunk, Nothing, Zero}
use Rattle.aff_analyst.specs.Bytes.{IsFetched, IsToldAs, stored_before}
use Rattle.aff_analyst.specs.Faults.{IsFetchFault, IsPieceFault}
use Rattle.aff_analyst.proofs.Causes.{fault_of_fetch}
use Rattle.aff_analyst.proofs.Fetching.{both_ok, on_err}
use Rattle.aff_analyst.proofs.Keeping.{has_chunk, keeps_chunk, keeps_zero, some_read}
use Rattle.aff_analyst.proofs.Stored.{stored_at, told_as}
use Rattle.aff_analyst.proofs.chunk.copy_kept.Goals as goal

-- the place of the chunk is the one that was read
pub unreachable-requires : goal.unreachable-requires
unreachable-requires g c =
    let p = c.args.piece.now in
    let j : ℕ = (c.args.at - c.args.extent.now.at) / 32768 in
    let low = has_chunk _ _ c.args.extent.now _ _ p c.args.at (length c.args.out.now) c.args.first c.requires.sound.1 c.requires.chunk c.requires.first in
    let read : get_or p.places j c.index.result.now ≡ Nothing = sym (c.index.ensures ∙ ap (λ q. get_or q.places j c.index.result.now) c.piece.view_is) ∙ c.in-Nothing.is in
    some_read _ _ c.args.extent.now _ _ p c.args.at (length c.args.out.now) c.args.first c.requires.sound.1 c.requires.chunk c.requires.first c.requires.whole.at_whole c.requires.whole.len_whole c.requires.readable
    (slice_get-get_or p.places j c.index.result.now low ∙ ap Some read)

pub copy_chunk-requires-clause-digest : goal.copy_chunk-requires-clause-digest
copy_chunk-requires-clause-digest g c κs within =
    let p = c.args.piece.now in
    let j : ℕ = (c.args.at - c.args.extent.now.at) / 32768 in
    let low = has_chunk _ _ c.args.extent.now _ _ p c.args.at (length c.args.out.now) c.args.first c.requires.sound.1 c.requires.chunk c.requires.first in
    let is = slice_get-get_or p.places j c.index.result.now low ∙ ap Some (sym (c.index.ensures ∙ ap (λ q. get_or q.places j c.index.result.now) c.piece.view_is) ∙ c.in-Chunk.is) in
    let same : c.stored_before-stored.result ≡ stored_before p.places j = c.stored_before-stored.ensures ∙ ap (λ l. stored_before l j) (c.deref.ensures.value ∙ ap (λ q. q.places) c.piece.view_is) in
    let st = stored_at _ _ c.args.extent.now _ _ p c.requires.sound.1 j c.in-Chunk.chunk is in
    subst (λ n. n < length p.digests) (sym same) st.digests

pub copy_chunk-requires-clause-receipt : goal.copy_chunk-requires-clause-receipt
copy_chunk-requires-clause-receipt g c κs within =
    let p = c.args.piece.now in
    let j : ℕ = (c.args.at - c.args.extent.now.at) / 32768 in
    let low = has_chunk _ _ c.args.extent.now _ _ p c.args.at (length c.args.out.now) c.args.first c.requires.sound.1 c.requires.chunk c.requires.first in
    let is = slice_get-get_or p.places j c.index.result.now low ∙ ap Some (sym (c.index.ensures ∙ ap (λ q. get_or q.places j c.index.result.now) c.piece.view_is) ∙ c.in-Chunk.is) in
    let same : c.stored_before-stored.result ≡ stored_before p.places j = c.stored_before-stored.ensures ∙ ap (λ l. stored_before l j) (c.deref.ensures.value ∙ ap (λ q. q.places) c.piece.view_is) in
    let st = stored_at _ _ c.args.extent.now _ _ p c.requires.sound.1 j c.in-Chunk.chunk is in
    subst (λ n. n < length p.receipts) (sym same) st.receipts

pub copy_chunk-requires-clause-told : goal.copy_chunk-requires-clause-told
copy_chunk-requires-clause-told g c κs within = λ t.
    let p = c.args.piece.now in
    let j : ℕ = (c.args.at - c.args.extent.now.at) / 32768 in
    let low = has_chunk _ _ c.args.extent.now _ _ p c.args.at (length c.args.out.now) c.args.first c.requires.sound.1 c.requires.chunk c.requires.first in
    let is = slice_get-get_or p.places j c.index.result.now low ∙ ap Some (sym (c.index.ensures ∙ ap (λ q. get_or q.places j c.index.result.now) c.piece.view_is) ∙ c.in-Chunk.is) in
    let same : c.stored_before-stored.result ≡ stored_before p.places j = c.stored_before-stored.ensures ∙ ap (λ l. stored_before l j) (c.deref.ensures.value ∙ ap (λ q. q.places) c.piece.view_is) in
    let st = stored_at _ _ c.args.extent.now _ _ p c.requires.sound.1 j c.in-Chunk.chunk is in
    subst (IsToldAs g.R.Telling.told p) (sym same) (told_as g.R.Telling.receipt_tells g.R.Telling.told p (stored_before p.places j) c.requires.sound.1.bytes j st t)

pub returns-in-Chunk-clause-kept : goal.returns-in-Chunk-clause-kept
returns-in-Chunk-clause-kept g c =
    let p = c.args.piece.now in
    let e = c.args.extent.now in
    let j : ℕ = (c.args.at - e.at) / 32768 in
    let tells = g.R.Telling.receipt_tells in
    let told = g.R.Telling.told in
    let low = has_chunk _ _ e _ _ p c.args.at (length c.args.out.now) c.args.first c.requires.sound.1 c.requires.chunk c.requires.first in
    let is = slice_get-get_or p.places j c.index.result.now low ∙ ap Some (sym (c.index.ensures ∙ ap (λ q. get_or q.places j c.index.result.now) c.piece.view_is) ∙ c.in-Chunk.is) in
    let same : c.stored_before-stored.result ≡ stored_before p.places j = c.stored_before-stored.ensures ∙ ap (λ l. stored_before l j) (c.deref.ensures.value ∙ ap (λ q. q.places) c.piece.view_is) in
    let chunk = c.copy_chunk.new.buffer in
    both_ok c.copy_chunk.result _ _ _
    (λ fetched copied. λ k inside. keeps_chunk tells told e p c.args.at (length c.args.out.now) k _ c.in-Chunk.chunk chunk c.requires.chunk inside is
    (subst (λ n. IsFetched tells told p n chunk) same fetched) (copied k inside))
    c.copy_chunk.ensures.fetched c.copy_chunk.ensures.copied

pub returns-in-Chunk-clause-fault : goal.returns-in-Chunk-clause-fault
returns-in-Chunk-clause-fault g c =
    let p = c.args.piece.now in
    let e = c.args.extent.now in
    let j : ℕ = (c.args.at - e.at) / 32768 in
    let tells = g.R.Telling.receipt_tells in
    let low = has_chunk _ _ e _ _ p c.args.at (length c.args.out.now) c.args.first c.requires.sound.1 c.requires.chunk c.requires.first in
    let is = slice_get-get_or p.places j c.index.result.now low ∙ ap Some (sym (c.index.ensures ∙ ap (λ q. get_or q.places j c.index.result.now) c.piece.view_is) ∙ c.in-Chunk.is) in
    let same : c.stored_before-stored.result ≡ stored_before p.places j = c.stored_before-stored.ensures ∙ ap (λ l. stored_before l j) (c.deref.ensures.value ∙ ap (λ q. q.places) c.piece.view_is) in
    on_err c.copy_chunk.result (IsFetchFault tells p c.stored_before-stored.result c.in-Chunk.chunk) (IsPieceFault tells e p c.args.at (length c.args.out.now))
    (λ error fault. fault_of_fetch tells e p c.args.at (length c.args.out.now) c.args.first c.in-Chunk.chunk error c.requires.chunk c.requires.first c.requires.readable is
    (subst (λ n. IsFetchFault tells p n c.in-Chunk.chunk error) same fault))
    c.copy_chunk.ensures.fault
