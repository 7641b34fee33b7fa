-- The steps of reading a map: what each refusal means for the whole, and what is left where none comes.
use Rattle.std.proofs.Common.{◌≡◌, ◌≢◌, ℕ, ◌%◌, List, length, refl, sym, subst, All, AllPairs}
use Rattle.aff_fields.specs.declared.entry.Entry.{Entry}
use Rattle.aff_fields.specs.Entry.{entries_of}
use Rattle.aff_map.specs.declared.error.MapError.{MapError}
use Rattle.aff_map.specs.declared.error.MapError.TheVariants.{Ragged, Empty, PastEnd, Overlap, NoTarget, BadTarget, PastTarget, Memory}
use Rattle.aff_map.specs.declared.target.Target.{Target}
use Rattle.aff_map.specs.Mapped.{AreApart, IsEntry, IsSound}
use Rattle.aff_map.specs.Refusals.{IsMapFault, IsFirstOverlap, IsOwnFault}
use Rattle.aff_map.specs.Targets.{IsFirstUnnamed, IsNamed, target_lines, targets_of}

module _ (map idx : List ℕ) (size : ℕ) (stream : List ℕ) (stream_size : ℕ) where
  pub ragged_fault : (f : MapError) → (length map % 28 ≢ 0) × (f ≡ Ragged (length map)) → IsMapFault map idx size stream stream_size f
  ragged_fault f h = subst (IsMapFault map idx size stream stream_size) (sym h.1) (h.0, refl)

  module _ (whole : length map % 28 ≡ 0) where
    pub line_fault : (f : MapError) → (line : ℕ) × (f ≡ BadTarget line) × IsFirstUnnamed stream (target_lines idx) line → IsMapFault map idx size stream stream_size f
    line_fault f h = subst (IsMapFault map idx size stream stream_size) (sym h.1) (whole, h.2)

    module _ (named : All (IsNamed stream) (target_lines idx)) where
      own_fault-read : (f : MapError) → IsOwnFault size stream_size (targets_of stream idx) (entries_of map) f → IsMapFault map idx size stream stream_size f
      own_fault-read (Empty e) own = record { whole = whole; named = named; own = own }
      own_fault-read (PastEnd e) own = record { whole = whole; named = named; own = own }
      own_fault-read (NoTarget e) own = record { whole = whole; named = named; own = own }
      own_fault-read (PastTarget e) own = record { whole = whole; named = named; own = own }
      own_fault-read (Ragged len) own = absurd own.breaks
      own_fault-read (BadTarget line) own = absurd own.breaks
      own_fault-read (Overlap a b) own = absurd own.breaks
      own_fault-read Memory own = absurd own.breaks

      module _ (es : List Entry) (ts : List Target) (read : es ≡ entries_of map) (listed : ts ≡ targets_of stream idx) where
        pub own_fault : (f : MapError) → IsOwnFault size stream_size ts es f → IsMapFault map idx size stream stream_size f
        own_fault f own =
            own_fault-read f (subst (λ v. IsOwnFault size stream_size (targets_of stream idx) v f) read (subst (λ v. IsOwnFault size stream_size v es f) listed own))

        each_read : All (IsEntry size stream_size ts) es → All (IsEntry size stream_size (targets_of stream idx)) (entries_of map)
        each_read each =
            subst (λ v. All (IsEntry size stream_size (targets_of stream idx)) v) read (subst (λ v. All (IsEntry size stream_size v) es) listed each)

        pub overlap_fault : All (IsEntry size stream_size ts) es → (a b : ℕ) → IsFirstOverlap es a b → IsMapFault map idx size stream stream_size (Overlap a b)
        overlap_fault each a b overlap =
            record { whole = whole; named = named; each = each_read each; overlap = subst (λ v. IsFirstOverlap v a b) read overlap }

        pub is_sound : All (IsEntry size stream_size ts) es → AllPairs AreApart es → IsSound map idx size stream stream_size
        is_sound each apart =
            record { whole = whole; named = named; each = each_read each; apart = subst (AllPairs AreApart) read apart }
