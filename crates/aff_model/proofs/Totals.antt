-- How many bytes and chunks extents have together.
use Rattle.std.proofs.Common.{◌≡◌, ℕ, ◌+◌, ◌*◌, ◌<◌, ◌≤◌, List, [], ◌∷◌, length, take, arith}
use Rattle.std.proofs.lemmas.List.Sums.{sum_by-cons, sum_by-take-le, sum_by_more}
use Rattle.aff_model.specs.declared.extent.Extent.{Extent}
use Rattle.aff_model.specs.declared.limits.TheConstants.{MAX_CHUNKS}
use Rattle.aff_model.specs.Index.{no_extent, extent_at}
use Rattle.aff_model.specs.Plan.{IsPlan, bytes_in, chunk_count, chunks_of}

-- some first extents have at most the bytes of all
pub bytes_in-take : (es : List Extent) (k : ℕ) → bytes_in (take k es) ≤ bytes_in es
bytes_in-take es k = sum_by-take-le (λ e. e.len) es k

-- and with the next one its bytes more
pub bytes_in-next : (es : List Extent) (k : ℕ) → k < length es → bytes_in (take (k + 1) es) ≡ bytes_in (take k es) + (extent_at es k).len
bytes_in-next es k b = sum_by_more (λ e. e.len) es k no_extent b

-- the chunks of some extents: one for each 32,768 bytes, and a short one for each extent
pub chunks_of-bytes : (es : List Extent) → 32768 * chunks_of es ≤ bytes_in es + 32768 * length es
chunks_of-bytes [] = omega arith
chunks_of-bytes (e ∷ es) = omega (arith, sum_by-cons (λ x. x.len) e es, sum_by-cons (λ x. chunk_count x.len) e es, chunks_of-bytes es)

-- so a plan has at most so many
pub plan_chunks : (size block : ℕ) (es : List Extent) → IsPlan size block es → chunks_of es ≤ MAX_CHUNKS
plan_chunks size block es plan = omega (arith, chunks_of-bytes es, plan.total, plan.few)
