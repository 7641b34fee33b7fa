-- An image run by run.
use Rattle.std.proofs.Common.{◌≡◌, ℕ, ◌+◌, ◌-◌, ◌<◌, ◌≤◌, ◌⊎◌, inl, inr, false, cond, ◌==◌, List, ◌++◌, length, map, get_or, refl, sym, ap, subst, ◌∙◌, arith, Result, Ok, Err}
use Rattle.std.specs.Prelude.{Some, unwrap_or, OnOk}
use Rattle.std.specs.List.{range_with_len}
use Rattle.std.proofs.lemmas.List.{get_or_default}
use Rattle.std.proofs.lemmas.List.FromFn.{length-map-range_with_len, get_or-map-range_with_len}
use Rattle.aff_model.specs.Held.{Held}
use Rattle.aff_fields.specs.declared.entry.Entry.{Entry}
use Rattle.aff_map.specs.declared.target.Target.TheVariants.{Unknown}
use Rattle.aff_map.specs.Symbol.{symbol_of}
use Rattle.aff_spec.specs.Runs.{covers}
use Rattle.aff_spec.specs.Streams.{stream_byte}
use Rattle.aff_spec.specs.Symbols.{unknown_byte, unreadable_byte}
use Rattle.aff_spec.specs.Walks.{AreImageRuns, stream_bytes}
use Rattle.aff_spec.proofs.Lookups.{find_covering, find_nothing, covers_before, covers_after, ends_before}
use Rattle.aff_linear.specs.Feeds.{IsBetween, byte_by, image_byte, image_range, run_byte, run_bytes}
use Rattle.aff_linear.proofs.Pieces.{alike_in, is_range, fed_more}

-- the bytes of an entry of stored bytes are those of the stream
pub stored_run : (held : Held) (stream : List ℕ) (e : Entry) → e.target ≡ 0 → stream_bytes held stream e.target_at e.len ≡ run_bytes held stream e
stored_run held stream e is =
    let byte = λ (j : ℕ). unwrap_or (stream_byte held stream j) 0 in
    is_range (run_byte held stream e) e.at e.len (stream_bytes held stream e.target_at e.len) (length-map-range_with_len byte e.target_at e.len) (λ k low.
    let back : e.at + k - e.at ≡ k = omega arith in
    get_or-map-range_with_len byte e.target_at e.len k (e.target_at + k) 0 low refl
    ∙ ap (λ j. byte (e.target_at + j)) (sym back)
    ∙ sym (ap (λ t. cond (t == 0) (byte (e.target_at + (e.at + k - e.at))) (cond (t == 1) 0 (unreadable_byte (e.at + k)))) is))

-- the byte of a place that no entry covers
between_gap : (held : Held) (stream : List ℕ) (entries : List Entry) (k a b i : ℕ) → IsBetween entries k a → IsBetween entries k b → a ≤ i → i < b → image_byte held stream entries i ≡ unknown_byte i
between_gap held stream entries k a b i before behind from to =
    ap (byte_by held stream i) (find_nothing (covers i) entries (λ j d below. missed j d below (split j)))
  where
    split : (j : ℕ) → (j < k) ⊎ (k ≤ j)
    split j = grind arith

    missed : (j : ℕ) (d : Entry) → j < length entries → (j < k) ⊎ (k ≤ j) → covers i (get_or entries j d) ≡ false
    missed j d below (inl low) = covers_after i (get_or entries j d) (omega (arith, before.ended j d low below, from))
    missed j d below (inr high) = covers_before i (get_or entries j d) (omega (arith, behind.ahead j d high below, to))

module _ (size n : ℕ) (entries : List Entry) (runs : AreImageRuns size n entries) where
  -- an entry by its number, and the places where it begins and ends
  module _ (k : ℕ) (e : Entry) (below : k < length entries) (is : get_or entries k e ≡ e) where
    same_entry : (d : Entry) → get_or entries k d ≡ e
    same_entry d = get_or_default entries k d e below ∙ is

    between_begun : IsBetween entries k e.at
    between_begun = record {
      ended = λ j d low there. subst (λ x. (get_or entries j d).at + (get_or entries j d).len ≤ x.at) (same_entry d) (ends_before entries runs.sorted d j k low below);
      ahead = λ j d low there. later j d (split j low) there;
    }
      where
        split : (j : ℕ) → k ≤ j → (k ≡ j) ⊎ (k < j)
        split j low = grind (arith, low)

        later : (j : ℕ) (d : Entry) → (k ≡ j) ⊎ (k < j) → j < length entries → e.at ≤ (get_or entries j d).at
        later j d (inl same) there = subst (λ m. e.at ≤ (get_or entries m d).at) same (subst (λ x. e.at ≤ x.at) (sym (same_entry d)) (omega arith))
        later j d (inr low) there =
            let end : e.at + e.len ≤ (get_or entries j d).at = subst (λ x. x.at + x.len ≤ (get_or entries j d).at) (same_entry d) (ends_before entries runs.sorted d k j low there) in
            omega (arith, end)

    pub between_ended : IsBetween entries (k + 1) (e.at + e.len)
    between_ended = record {
      ended = λ j d low there. earlier j d (split j low) there;
      ahead = λ j d low there. subst (λ x. x.at + x.len ≤ (get_or entries j d).at) (same_entry d) (ends_before entries runs.sorted d k j (omega (arith, low)) there);
    }
      where
        split : (j : ℕ) → j < k + 1 → (j ≡ k) ⊎ (j < k)
        split j low = grind (arith, low)

        earlier : (j : ℕ) (d : Entry) → (j ≡ k) ⊎ (j < k) → j < length entries → (get_or entries j d).at + (get_or entries j d).len ≤ e.at + e.len
        earlier j d (inl same) there = subst (λ m. (get_or entries m d).at + (get_or entries m d).len ≤ e.at + e.len) (sym same) (subst (λ x. x.at + x.len ≤ e.at + e.len) (sym (same_entry d)) (omega arith))
        earlier j d (inr low) there =
            let end : (get_or entries j d).at + (get_or entries j d).len ≤ e.at = subst (λ x. (get_or entries j d).at + (get_or entries j d).len ≤ x.at) (same_entry d) (ends_before entries runs.sorted d j k low below) in
            omega (arith, end)

    -- what is fed of the gap before an entry, and of the entry
    pub run_fed : (held : Held) (stream : List ℕ) (at : ℕ) (start before between after : List ℕ) → IsBetween entries k at → at ≤ e.at → before ≡ start ++ image_range held stream entries 0 at
        → between ≡ before ++ map (symbol_of Unknown) (range_with_len at (e.at - at)) → after ≡ between ++ run_bytes held stream e → after ≡ start ++ image_range held stream entries 0 (e.at + e.len)
    run_fed held stream at start before between after gap low was then last =
        let whole : at + (e.at - at) ≡ e.at = omega (arith, low) in
        let reached : between ≡ start ++ image_range held stream entries 0 (at + (e.at - at)) =
        fed_more (image_byte held stream entries) 0 at (e.at - at) start before between (map (symbol_of Unknown) (range_with_len at (e.at - at))) was then
        (alike_in (symbol_of Unknown) (image_byte held stream entries) at (e.at - at) (λ i from to. sym (between_gap held stream entries k at e.at i gap between_begun from (omega (arith, to, whole))))
        ∙ ap (λ p. image_range held stream entries p (e.at - at)) (omega arith)) in
        fed_more (image_byte held stream entries) 0 e.at e.len start between after (run_bytes held stream e) (reached ∙ ap (λ p. start ++ image_range held stream entries 0 p) whole) last
        (alike_in (run_byte held stream e) (image_byte held stream entries) e.at e.len (λ i from to. sym (own i from to))
        ∙ ap (λ p. image_range held stream entries p e.len) (omega arith))
      where
        own : (i : ℕ) → e.at ≤ i → i < e.at + e.len → image_byte held stream entries i ≡ run_byte held stream e i
        own i from to =
            let found = find_covering entries runs.sorted e i k below (subst (λ x. x.at ≤ i) (sym is) from) (subst (λ x. i < x.at + x.len) (sym is) to) in
            ap (byte_by held stream i) (found ∙ ap Some is)

  -- all entries end inside the image
  between_last : IsBetween entries (length entries) size
  between_last = record {
    ended = λ j d low there. (runs.each j d there).inside;
    ahead = λ j d low there. absurd (omega (arith, low, there));
  }

  -- what is fed of the gap behind the last entry
  pub rest_fed : (held : Held) (stream : List ℕ) (at : ℕ) (start before after : List ℕ) → IsBetween entries (length entries) at → at ≤ size → before ≡ start ++ image_range held stream entries 0 at
      → after ≡ before ++ map (symbol_of Unknown) (range_with_len at (size - at)) → after ≡ start ++ image_range held stream entries 0 size
  rest_fed held stream at start before after gap low was then =
      let whole : at + (size - at) ≡ size = omega (arith, low) in
      fed_more (image_byte held stream entries) 0 at (size - at) start before after (map (symbol_of Unknown) (range_with_len at (size - at))) was then
      (alike_in (symbol_of Unknown) (image_byte held stream entries) at (size - at) (λ i from to. sym (between_gap held stream entries (length entries) at size i gap between_last from (omega (arith, to, whole))))
      ∙ ap (λ p. image_range held stream entries p (size - at)) (omega arith))
      ∙ ap (λ p. start ++ image_range held stream entries 0 p) whole

-- a fact about an Ok
pub on_ok : {T E P Q : Type 0} (r : Result T E) → (P → Q) → OnOk r P → OnOk r Q
on_ok (Ok x) f p = f p
on_ok (Err e) f p = p
