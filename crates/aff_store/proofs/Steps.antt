-- A stream before and after one chunk more.
use Rattle.std.proofs.Common.{◌≡◌, ℕ, ◌+◌, Bool, false, List, [], ◌∷◌, ◌++◌, length, refl, sym, ap, subst, ◌∙◌, arith, length-append}
use Rattle.aff_bevvy.specs.Written.{Written as Writer, stored_chunk, last_index}
use Rattle.aff_blockhash.specs.Pending.{Pending, pushed, push_appends, finish_appends}
use Rattle.aff_model.specs.Held.{Held}
use Rattle.aff_spec.specs.Appends.{applied, Reaches}
use Rattle.aff_spec.specs.Bevvies.{Sums, sums_of, chunk_appends, ending}
use Rattle.aff_spec.proofs.Appends.{applied-append, Reaches-more, Reaches-after}
use Rattle.aff_store.specs.Written.{Written, AreInStep, HasWritten, cut_chunks}
use Rattle.aff_store.proofs.Closings.{end_all}
use Rattle.aff_store.proofs.Cuts.{cut_chunks-push}
use Rattle.aff_store.proofs.Joining.{progress_of, written_first, written_second, written_both, written_further}

-- the fields of a stream that goes on, as clauses see them
module _ (w : Writer) (h : Pending) (bytes : List ℕ) (ended : Bool) (now : Written) (view : record { urn = w.stream; chunks = cut_chunks bytes; ended = ended } ≡ now)
    (inv : AreInStep (progress_of w h) bytes ended) (going : now.ended ≡ false) where
  pub has : HasWritten w.stream (cut_chunks bytes) (progress_of w h)
  has = inv.written (ap (λ v. v.ended) view ∙ going)

  pub count_is : w.count ≡ length now.chunks
  count_is = has.count_is ∙ ap (λ v. length v.chunks) view

  module _ (chunk : List ℕ) (s : Sums) (sums : s ≡ sums_of chunk) where
    appends : chunk_appends w.stream (cut_chunks bytes) chunk ≡ chunk_appends now.urn now.chunks chunk
    appends i = chunk_appends (view i).urn (view i).chunks chunk

    pub first_part : (old mid : Held) → Reaches old (stored_chunk w.stream w.count chunk) mid → Reaches old (chunk_appends now.urn now.chunks chunk) mid
    first_part old mid part = subst (λ v. Reaches old v mid) appends (written_first w h (progress_of w h) refl (cut_chunks bytes) has chunk s sums old mid part)

    pub second_part : (old mid new : Held) → mid ≡ applied old (stored_chunk w.stream w.count chunk) → Reaches mid (push_appends h s) new → Reaches old (chunk_appends now.urn now.chunks chunk) new
    second_part old mid new first part = subst (λ v. Reaches old v new) appends (written_second w h (progress_of w h) refl (cut_chunks bytes) has chunk s sums old mid new first part)

    pub both_parts : (old mid new : Held) → mid ≡ applied old (stored_chunk w.stream w.count chunk) → new ≡ applied mid (push_appends h s) → new ≡ applied old (chunk_appends now.urn now.chunks chunk)
    both_parts old mid new first second = written_both w h (progress_of w h) refl (cut_chunks bytes) has chunk s sums old mid new first second ∙ ap (applied old) appends

    -- behind it
    module _ (v : Writer) (g : Pending) (next : v ≡ record { stream = w.stream; count = w.count + 1 }) (state : g ≡ pushed h s) (all : List ℕ) (all_is : all ≡ bytes ++ chunk) (one : length chunk ≡ 32768) where
      cut : cut_chunks all ≡ cut_chunks bytes ++ chunk ∷ []
      cut = ap cut_chunks all_is ∙ cut_chunks-push bytes chunk inv.whole one

      further : HasWritten v.stream (cut_chunks all) (progress_of v g)
      further =
          let more : HasWritten w.stream (cut_chunks bytes ++ chunk ∷ []) (progress_of v g) = written_further w h (progress_of w h) refl (cut_chunks bytes) has chunk s sums v g next state in
          subst (λ u. HasWritten u (cut_chunks all) (progress_of v g)) (ap (λ x. x.stream) (sym next))
          (subst (λ c. HasWritten w.stream c (progress_of v g)) (sym cut) more)

      pub in_step : AreInStep (progress_of v g) all false
      in_step = record { whole = omega (arith, ap length all_is, length-append bytes chunk, inv.whole, one); written = λ _. further }

      pub next_view : ◌≡◌ {A = Written} (record { urn = v.stream; chunks = cut_chunks all; ended = false }) (record { urn = now.urn; chunks = now.chunks ++ chunk ∷ []; ended = false })
      next_view =
          let urn : v.stream ≡ now.urn = ap (λ x. x.stream) next ∙ ap (λ x. x.urn) view in
          let chunks : cut_chunks all ≡ now.chunks ++ chunk ∷ [] = cut ∙ ap (λ x. x.chunks ++ chunk ∷ []) view in
          λ i. record { urn = urn i; chunks = chunks i; ended = false }

  -- what ends it
  ends : ending now.urn now.chunks ≡ last_index w.stream w.count ++ finish_appends h
  ends =
      (λ i. ending (sym view i).urn (sym view i).chunks)
      ∙ end_all w.stream (cut_chunks bytes) h.bevvy h.sums has.bevvy_is has.sums_is
      ∙ (λ i. last_index w.stream (sym has.count_is i) ++ finish_appends (record { stream = sym has.hashes_is i; bevvy = h.bevvy; sums = h.sums }))

  pub end_first : (old mid : Held) → Reaches old (last_index w.stream w.count) mid → Reaches old (ending now.urn now.chunks) mid
  end_first old mid part = subst (λ v. Reaches old v mid) (sym ends) (Reaches-more old (last_index w.stream w.count) (finish_appends h) mid part)

  pub end_second : (old mid new : Held) → mid ≡ applied old (last_index w.stream w.count) → Reaches mid (finish_appends h) new → Reaches old (ending now.urn now.chunks) new
  end_second old mid new first part =
      subst (λ v. Reaches old v new) (sym ends) (Reaches-after old (last_index w.stream w.count) (finish_appends h) new (subst (λ v. Reaches v (finish_appends h) new) first part))

  pub end_both : (old mid new : Held) → mid ≡ applied old (last_index w.stream w.count) → new ≡ applied mid (finish_appends h) → new ≡ applied old (ending now.urn now.chunks)
  end_both old mid new first second =
      second ∙ ap (λ v. applied v (finish_appends h)) first ∙ sym (applied-append old (last_index w.stream w.count) (finish_appends h)) ∙ ap (applied old) (sym ends)
