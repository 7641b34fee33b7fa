-- A chunk is appended by a stream's writer and then by its block hashes.
use Rattle.std.proofs.Common.{◌≡◌, ℕ, ◌+◌, ◌/◌, List, [], ◌∷◌, ◌++◌, length, sym, ap, subst, ◌∙◌, length-append}
use Rattle.aff_bevvy.specs.Written.{Written, stored_chunk}
use Rattle.aff_blockhash.specs.Pending.{Pending, pushed, push_appends}
use Rattle.aff_model.specs.Held.{Held}
use Rattle.aff_spec.specs.Appends.{applied, Reaches}
use Rattle.aff_spec.specs.Bevvies.{Sums, sums_of, chunk_appends, pending_sums}
use Rattle.aff_spec.proofs.Appends.{applied-append, Reaches-more, Reaches-after}
use Rattle.aff_store.specs.Written.{Progress, HasWritten}
use Rattle.aff_store.proofs.Closings.{push_all, state_all}

-- how far the two are
abbrev pub progress_of : Written → Pending → Progress
progress_of w h = record { stream = w.stream; count = w.count; hashes = h.stream; bevvy = h.bevvy; sums = h.sums }

module _ (w : Written) (h : Pending) (before : List (List ℕ)) (has : HasWritten w.stream before (progress_of w h)) (chunk : List ℕ) (s : Sums) (sums : s ≡ sums_of chunk) where
  -- the appends of both
  joined : chunk_appends w.stream before chunk ≡ stored_chunk w.stream w.count chunk ++ push_appends h s
  joined =
      push_all w.stream before h.bevvy h.sums has.bevvy_is has.sums_is chunk
      ∙ (λ i. stored_chunk w.stream (sym has.count_is i) chunk ++ push_appends (record { stream = sym has.hashes_is i; bevvy = h.bevvy; sums = h.sums }) (sym sums i))

  part_first : (old mid : Held) → Reaches old (stored_chunk w.stream w.count chunk) mid → Reaches old (chunk_appends w.stream before chunk) mid
  part_first old mid part = subst (λ v. Reaches old v mid) (sym joined) (Reaches-more old (stored_chunk w.stream w.count chunk) (push_appends h s) mid part)

  part_second : (old mid new : Held) → mid ≡ applied old (stored_chunk w.stream w.count chunk) → Reaches mid (push_appends h s) new → Reaches old (chunk_appends w.stream before chunk) new
  part_second old mid new first part =
      subst (λ v. Reaches old v new) (sym joined) (Reaches-after old (stored_chunk w.stream w.count chunk) (push_appends h s) new (subst (λ v. Reaches v (push_appends h s) new) first part))

  both : (old mid new : Held) → mid ≡ applied old (stored_chunk w.stream w.count chunk) → new ≡ applied mid (push_appends h s) → new ≡ applied old (chunk_appends w.stream before chunk)
  both old mid new first second =
      second ∙ ap (λ v. applied v (push_appends h s)) first ∙ sym (applied-append old (stored_chunk w.stream w.count chunk) (push_appends h s)) ∙ ap (applied old) (sym joined)

  -- and how far they are then
  next_state : pushed h s ≡ record { stream = h.stream; bevvy = length (before ++ chunk ∷ []) / 1024; sums = pending_sums (before ++ chunk ∷ []) }
  next_state = ap (pushed h) sums ∙ state_all h.stream before h.bevvy h.sums has.bevvy_is has.sums_is chunk

  further : (v : Written) (g : Pending) → v ≡ record { stream = w.stream; count = w.count + 1 } → g ≡ pushed h s → HasWritten w.stream (before ++ chunk ∷ []) (progress_of v g)
  further v g next state =
      let now : g ≡ record { stream = h.stream; bevvy = length (before ++ chunk ∷ []) / 1024; sums = pending_sums (before ++ chunk ∷ []) } = state ∙ next_state in
      record {
        stream_is = ap (λ x. x.stream) next;
        count_is = ap (λ x. x.count) next ∙ ap (λ n. n + 1) has.count_is ∙ sym (length-append before (chunk ∷ []));
        hashes_is = ap (λ x. x.stream) now ∙ has.hashes_is;
        bevvy_is = ap (λ x. x.bevvy) now;
        sums_is = ap (λ x. x.sums) now;
      }

-- the same of a stream whose progress is that of the two
module _ (w : Written) (h : Pending) (p : Progress) (view : progress_of w h ≡ p) (before : List (List ℕ)) (has : HasWritten p.stream before p) (chunk : List ℕ) (s : Sums) (sums : s ≡ sums_of chunk) where
  stream_same : w.stream ≡ p.stream
  stream_same = ap (λ x. x.stream) view

  own : HasWritten w.stream before (progress_of w h)
  own = subst (λ q. HasWritten q.stream before q) (sym view) has

  pub written_first : (old mid : Held) → Reaches old (stored_chunk w.stream w.count chunk) mid → Reaches old (chunk_appends p.stream before chunk) mid
  written_first old mid part = subst (λ v. Reaches old (chunk_appends v before chunk) mid) stream_same (part_first w h before own chunk s sums old mid part)

  pub written_second : (old mid new : Held) → mid ≡ applied old (stored_chunk w.stream w.count chunk) → Reaches mid (push_appends h s) new → Reaches old (chunk_appends p.stream before chunk) new
  written_second old mid new first part = subst (λ v. Reaches old (chunk_appends v before chunk) new) stream_same (part_second w h before own chunk s sums old mid new first part)

  pub written_both : (old mid new : Held) → mid ≡ applied old (stored_chunk w.stream w.count chunk) → new ≡ applied mid (push_appends h s) → new ≡ applied old (chunk_appends p.stream before chunk)
  written_both old mid new first second = both w h before own chunk s sums old mid new first second ∙ ap (λ v. applied old (chunk_appends v before chunk)) stream_same

  pub written_further : (v : Written) (g : Pending) → v ≡ record { stream = w.stream; count = w.count + 1 } → g ≡ pushed h s → HasWritten p.stream (before ++ chunk ∷ []) (progress_of v g)
  written_further v g next state = subst (λ u. HasWritten u (before ++ chunk ∷ []) (progress_of v g)) stream_same (further w h before own chunk s sums v g next state)
