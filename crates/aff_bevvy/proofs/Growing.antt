-- A stream that is written chunk by chunk, by what each append leaves in its bevvies and their indexes.
use Rattle.std.proofs.Common.{◌≡◌, ℕ, ◌+◌, ◌*◌, ◌/◌, ◌%◌, ◌<◌, ◌≤◌, ◌==◌, Bool, true, false, cond, List, [], ◌∷◌, ◌++◌, length, take, drop, refl, sym, ap, subst, ◌∙◌, arith, codes, append-nil, length-append, length-drop, eq-eqb, ne_eqb, inl, inr}
use Rattle.std.specs.Prelude.{◌≢◌, ◌⊎◌, unwrap_or}
use Rattle.std.specs.List.{concat, flat_map}
use Rattle.std.specs.Str.{bytes_eq}
use Rattle.std.proofs.lemmas.Bool.{cases_lt, eqb-false}
use Rattle.std.proofs.lemmas.List.{drop-append-le, take-append-le, take_all, drop_all}
use Rattle.std.proofs.lemmas.List.Folds.{concat-append}
use Rattle.aff_model.specs.Held.{Held, bytes_of}
use Rattle.aff_fields.specs.Point.{point_bytes}
use Rattle.aff_spec.specs.Appends.{applied}
use Rattle.aff_spec.specs.Bevvies.{bevvy_count, bevvy_of, bevvies_appends, index_append}
use Rattle.aff_spec.specs.Names.{eight_digits, segment_in, bevvy_name, index_name}
use Rattle.aff_spec.specs.Streams.{full_points}
use Rattle.aff_spec.proofs.BevvySegments.{has_bevvies}
use Rattle.aff_spec.proofs.Names.{apart_by}
use Rattle.aff_spec.proofs.Owned.{own, own-same, own-other, bytes_of-applied}
use Rattle.aff_spec.proofs.Segments.{segments_differ}
use Rattle.aff_spec.proofs.Streams.{length-bevvy_of}
use Rattle.aff_bevvy.specs.Chunks.{HasNone, HasSoFar, HasChunks, HasOneMore, IsEnded, IsNumber}
use Rattle.aff_bevvy.specs.Written.{full_index, stored_chunk, last_index}

-- segments of other numbers, or with other suffixes, are other segments
number_apart : (stream : List ℕ) (a b : ℕ) (s t : List ℕ) → IsNumber a → IsNumber b → a ≢ b → segment_in stream (eight_digits a ++ s) ≢ segment_in stream (eight_digits b ++ t)
number_apart stream a b s t low_a low_b apart e = apart (segments_differ stream stream a b s t low_a low_b e).1

suffix_apart : (stream : List ℕ) (a b : ℕ) (s t : List ℕ) → IsNumber a → IsNumber b → bytes_eq s t ≡ false → segment_in stream (eight_digits a ++ s) ≢ segment_in stream (eight_digits b ++ t)
suffix_apart stream a b s t low_a low_b test e = apart_by s t test (segments_differ stream stream a b s t low_a low_b e).2

-- a bevvy is full, or is the last one, or is behind it
cases_place : (b c : ℕ) → (b < c) ⊎ ((b ≡ c) ⊎ (c < b))
cases_place b c =
    elim (cases_lt b c) [
      | inl low ↦ inl low
      | inr high ↦ inr (elim (cases_lt c b) [
        | inl behind ↦ inr behind
        | inr same ↦ inl (omega (arith, high, same))
      ])
    ]

-- the index that is appended behind chunk c
module _ (stream : List ℕ) (c : ℕ) where
  none_full : (c + 1) % 1024 ≢ 0 → full_index stream c ≡ []
  none_full unfilled = ap (λ t. cond t (index_append stream (c / 1024) 1024 ∷ []) []) (ne_eqb ((c + 1) % 1024) 0 unfilled)

  one_full : (c + 1) % 1024 ≡ 0 → full_index stream c ≡ index_append stream (c / 1024) 1024 ∷ []
  one_full full = ap (λ t. cond t (index_append stream (c / 1024) 1024 ∷ []) []) (eq-eqb ((c + 1) % 1024) 0 full)

  full_other : (name : List ℕ) → index_name stream (c / 1024) ≢ name → own name (full_index stream c) ≡ []
  full_other name apart =
      elim ((c + 1) % 1024 == 0) as (λ t. own name (cond t (index_append stream (c / 1024) 1024 ∷ []) []) ≡ []) [
        | true ↦ own-other name (index_name stream (c / 1024)) (flat_map point_bytes (full_points 1024)) [] apart
        | false ↦ refl
      ]

-- the index that ends a stream of c chunks
module _ (stream : List ℕ) (c : ℕ) where
  pub none_last : c % 1024 ≡ 0 → last_index stream c ≡ []
  none_last whole = ap (λ t. cond t [] (index_append stream (c / 1024) (c % 1024) ∷ [])) (eq-eqb (c % 1024) 0 whole)

  pub one_last : c % 1024 ≢ 0 → last_index stream c ≡ index_append stream (c / 1024) (c % 1024) ∷ []
  one_last rest = ap (λ t. cond t [] (index_append stream (c / 1024) (c % 1024) ∷ [])) (ne_eqb (c % 1024) 0 rest)

  last_other : (name : List ℕ) → (c % 1024 ≢ 0 → index_name stream (c / 1024) ≢ name) → own name (last_index stream c) ≡ []
  last_other name apart = by (c % 1024 == 0) refl
    where
      by : (t : Bool) → (c % 1024 == 0) ≡ t → own name (last_index stream c) ≡ []
      by true e = ap (λ t. own name (cond t [] (index_append stream (c / 1024) (c % 1024) ∷ []))) e
      by false e =
          ap (λ t. own name (cond t [] (index_append stream (c / 1024) (c % 1024) ∷ []))) e
          ∙ own-other name (index_name stream (c / 1024)) (flat_map point_bytes (full_points (c % 1024))) [] (apart (eqb-false (c % 1024) 0 e))

-- the chunks of a bevvy, with one chunk more behind all
module _ (chunks : List (List ℕ)) (chunk : List ℕ) (b : ℕ) where
  in_front : b < length chunks / 1024 → bevvy_of (chunks ++ chunk ∷ []) b ≡ bevvy_of chunks b
  in_front low =
      ap (take 1024) (drop-append-le (1024 * b) chunks (chunk ∷ []) (omega (arith, low)))
      ∙ take-append-le 1024 (drop (1024 * b) chunks) (chunk ∷ []) (omega (arith, low, length-drop (1024 * b) chunks))

  its_own : b ≡ length chunks / 1024 → bevvy_of (chunks ++ chunk ∷ []) b ≡ bevvy_of chunks b ++ chunk ∷ []
  its_own is =
      let rest : length (drop (1024 * b) chunks) ≤ 1023 = omega (arith, is, length-drop (1024 * b) chunks) in
      ap (take 1024) (drop-append-le (1024 * b) chunks (chunk ∷ []) (omega (arith, is)))
      ∙ take_all 1024 (drop (1024 * b) chunks ++ chunk ∷ []) (omega (arith, rest, length-append (drop (1024 * b) chunks) (chunk ∷ [])))
      ∙ ap (λ v. v ++ chunk ∷ []) (sym (take_all 1024 (drop (1024 * b) chunks) (omega (arith, rest))))

  behind : length chunks / 1024 < b → bevvy_of (chunks ++ chunk ∷ []) b ≡ bevvy_of chunks b
  behind high =
      ap (take 1024) (drop_all (1024 * b) (chunks ++ chunk ∷ []) (omega (arith, high, length-append chunks (chunk ∷ []))) ∙ sym (drop_all (1024 * b) chunks (omega (arith, high))))

-- a chunk more
module _ (held : Held) (stream : List ℕ) (chunks : List (List ℕ)) (chunk : List ℕ) (has : HasSoFar held stream chunks) (low : length chunks < 102400000000) where
  last_low : IsNumber (length chunks / 1024)
  last_low = omega (arith, low)

  added : List ℕ → List ℕ
  added name = own name (stored_chunk stream (length chunks) chunk)

  now_is : (name : List ℕ) → bytes_of (applied held (stored_chunk stream (length chunks) chunk)) name ≡ bytes_of held name ++ added name
  unfolding added
  now_is name = bytes_of-applied held name (stored_chunk stream (length chunks) chunk)

  -- to its own bevvy, and to no other
  to_own : (b : ℕ) → b ≡ length chunks / 1024 → added (bevvy_name stream b) ≡ chunk ++ []
  unfolding added
  to_own b is =
      ap (λ k. own (bevvy_name stream k) (stored_chunk stream (length chunks) chunk)) is
      ∙ own-same (bevvy_name stream (length chunks / 1024)) chunk (full_index stream (length chunks))
      ∙ ap (λ v. chunk ++ v) (full_other stream (length chunks) (bevvy_name stream (length chunks / 1024)) (suffix_apart stream (length chunks / 1024) (length chunks / 1024) (codes ".index") [] last_low last_low refl))

  to_other : (b : ℕ) → IsNumber b → length chunks / 1024 ≢ b → added (bevvy_name stream b) ≡ []
  unfolding added
  to_other b number apart =
      own-other (bevvy_name stream b) (bevvy_name stream (length chunks / 1024)) chunk (full_index stream (length chunks)) (number_apart stream (length chunks / 1024) b [] [] last_low number apart)
      ∙ full_other stream (length chunks) (bevvy_name stream b) (suffix_apart stream (length chunks / 1024) b (codes ".index") [] last_low number refl)

  to_index : (b : ℕ) → IsNumber b → added (index_name stream b) ≡ own (index_name stream b) (full_index stream (length chunks))
  unfolding added
  to_index b number =
      own-other (index_name stream b) (bevvy_name stream (length chunks / 1024)) chunk (full_index stream (length chunks)) (suffix_apart stream (length chunks / 1024) b [] (codes ".index") last_low number refl)

  to_other_index : (b : ℕ) → IsNumber b → length chunks / 1024 ≢ b → added (index_name stream b) ≡ []
  to_other_index b number apart =
      to_index b number ∙ full_other stream (length chunks) (index_name stream b) (number_apart stream (length chunks / 1024) b (codes ".index") (codes ".index") last_low number apart)

  to_full_index : (b : ℕ) → b ≡ length chunks / 1024 → (length chunks + 1) % 1024 ≡ 0 → added (index_name stream b) ≡ flat_map point_bytes (full_points 1024)
  to_full_index b is full =
      ap (λ k. added (index_name stream k)) is
      ∙ to_index (length chunks / 1024) last_low
      ∙ ap (own (index_name stream (length chunks / 1024))) (one_full stream (length chunks) full)
      ∙ own-same (index_name stream (length chunks / 1024)) (flat_map point_bytes (full_points 1024)) []
      ∙ append-nil (flat_map point_bytes (full_points 1024))

  more_bevvy : (b : ℕ) → IsNumber b → bytes_of held (bevvy_name stream b) ++ added (bevvy_name stream b) ≡ concat (bevvy_of (chunks ++ chunk ∷ []) b)
  more_bevvy b number =
      elim (cases_place b (length chunks / 1024)) [
        | inl front ↦ (λ i. has.bevvy b number i ++ to_other b number (λ e. omega (arith, front, e)) i) ∙ append-nil (concat (bevvy_of chunks b)) ∙ ap concat (sym (in_front chunks chunk b front))
        | inr (inl is) ↦ (λ i. has.bevvy b number i ++ to_own b is i) ∙ sym (concat-append (bevvy_of chunks b) (chunk ∷ [])) ∙ ap concat (sym (its_own chunks chunk b is))
        | inr (inr high) ↦ (λ i. has.bevvy b number i ++ to_other b number (λ e. omega (arith, high, e)) i) ∙ append-nil (concat (bevvy_of chunks b)) ∙ ap concat (sym (behind chunks chunk b high))
      ]

  more_full : (b : ℕ) → IsNumber b → 1024 * (b + 1) ≤ length chunks + 1 → bytes_of held (index_name stream b) ++ added (index_name stream b) ≡ flat_map point_bytes (full_points 1024)
  more_full b number whole =
      elim (cases_lt (length chunks) (1024 * (b + 1))) [
        | inl last ↦
            let is : b ≡ length chunks / 1024 = omega (arith, last, whole) in
            let full : (length chunks + 1) % 1024 ≡ 0 = omega (arith, last, whole) in
            (λ i. has.unfilled b number last i ++ to_full_index b is full i)
        | inr earlier ↦
            (λ i. has.full b number earlier i ++ to_other_index b number (λ e. omega (arith, earlier, e)) i) ∙ append-nil (flat_map point_bytes (full_points 1024))
      ]

  more_unfilled : (b : ℕ) → IsNumber b → length chunks + 1 < 1024 * (b + 1) → bytes_of held (index_name stream b) ++ added (index_name stream b) ≡ []
  more_unfilled b number open_yet =
      (λ i. has.unfilled b number (omega (arith, open_yet)) i ++ nothing i)
    where
      nothing : added (index_name stream b) ≡ []
      nothing =
          elim (cases_lt (length chunks / 1024) b) [
            | inl high ↦ to_other_index b number (λ e. omega (arith, high, e))
            | inr here ↦
                let unfull : (length chunks + 1) % 1024 ≢ 0 = λ z. omega (arith, here, open_yet, z) in
                to_index b number ∙ ap (own (index_name stream b)) (none_full stream (length chunks) unfull)
          ]

  one_more : HasSoFar (applied held (stored_chunk stream (length chunks) chunk)) stream (chunks ++ chunk ∷ [])
  one_more = record {
    bevvy = λ b number. now_is (bevvy_name stream b) ∙ more_bevvy b number;
    full = λ b number whole. now_is (index_name stream b) ∙ more_full b number (omega (arith, whole, length-append chunks (chunk ∷ [])));
    unfilled = λ b number short. now_is (index_name stream b) ∙ more_unfilled b number (omega (arith, short, length-append chunks (chunk ∷ [])));
  }

-- the end
module _ (held : Held) (stream : List ℕ) (chunks : List (List ℕ)) (has : HasSoFar held stream chunks) (low : length chunks ≤ 102400000000) where
  ended_is : (name : List ℕ) → bytes_of (applied held (last_index stream (length chunks))) name ≡ bytes_of held name ++ own name (last_index stream (length chunks))
  ended_is name = bytes_of-applied held name (last_index stream (length chunks))

  ended_bevvy : (b : ℕ) → b < bevvy_count (length chunks) → bytes_of (applied held (last_index stream (length chunks))) (bevvy_name stream b) ≡ concat (bevvy_of chunks b)
  ended_bevvy b below =
      let number : IsNumber b = omega (arith, below, low) in
      let none : own (bevvy_name stream b) (last_index stream (length chunks)) ≡ [] =
      last_other stream (length chunks) (bevvy_name stream b) (λ rest. suffix_apart stream (length chunks / 1024) b (codes ".index") [] (omega (arith, low, rest)) number refl) in
      ended_is (bevvy_name stream b) ∙ (λ i. has.bevvy b number i ++ none i) ∙ append-nil (concat (bevvy_of chunks b))

  ended_index : (b : ℕ) → b < bevvy_count (length chunks) → bytes_of (applied held (last_index stream (length chunks))) (index_name stream b) ≡ flat_map point_bytes (full_points (length (bevvy_of chunks b)))
  ended_index b below =
      let number : IsNumber b = omega (arith, below, low) in
      ended_is (index_name stream b) ∙ elim (cases_lt b (length chunks / 1024)) [
        | inl front ↦
            let none : own (index_name stream b) (last_index stream (length chunks)) ≡ [] =
            last_other stream (length chunks) (index_name stream b)
            (λ rest. number_apart stream (length chunks / 1024) b (codes ".index") (codes ".index") (omega (arith, low, rest)) number (λ e. omega (arith, front, e))) in
            let all : 1024 ≡ length (bevvy_of chunks b) = omega (arith, front, length-bevvy_of chunks b) in
            (λ i. has.full b number (omega (arith, front)) i ++ none i) ∙ append-nil (flat_map point_bytes (full_points 1024)) ∙ ap (λ n. flat_map point_bytes (full_points n)) all
        | inr here ↦
            let is : b ≡ length chunks / 1024 = omega (arith, here, below) in
            let rest : length chunks % 1024 ≢ 0 = λ z. omega (arith, here, below, z) in
            let all : length chunks % 1024 ≡ length (bevvy_of chunks b) = omega (arith, is, below, length-bevvy_of chunks b) in
            let own_index : own (index_name stream b) (last_index stream (length chunks)) ≡ flat_map point_bytes (full_points (length chunks % 1024)) =
            ap (λ k. own (index_name stream k) (last_index stream (length chunks))) is
            ∙ ap (own (index_name stream (length chunks / 1024))) (one_last stream (length chunks) rest)
            ∙ own-same (index_name stream (length chunks / 1024)) (flat_map point_bytes (full_points (length chunks % 1024))) []
            ∙ append-nil (flat_map point_bytes (full_points (length chunks % 1024))) in
            (λ i. has.unfilled b number (omega (arith, is)) i ++ own_index i) ∙ ap (λ n. flat_map point_bytes (full_points n)) all
      ]

  ended : HasChunks (applied held (last_index stream (length chunks))) stream chunks
  ended = record { bevvy = ended_bevvy; index = ended_index }

-- the same of a stream of so many chunks, as the calls of a writer say it
pub has_one_more : (before now : Held) (stream : List ℕ) (count : ℕ) (chunk : List ℕ) → count < 102400000000 → now ≡ applied before (stored_chunk stream count chunk) → HasOneMore before stream count chunk now
has_one_more before now stream count chunk low is chunks all has =
    let number : length chunks < 102400000000 = omega (arith, low, all) in
    let made : applied before (stored_chunk stream (length chunks) chunk) ≡ now = ap (λ n. applied before (stored_chunk stream n chunk)) all ∙ sym is in
    subst (λ h. HasSoFar h stream (chunks ++ chunk ∷ [])) made (one_more before stream chunks chunk has number)

pub is_ended : (before now : Held) (stream : List ℕ) (count : ℕ) → count ≤ 102400000000 → now ≡ applied before (last_index stream count) → IsEnded before stream count now
is_ended before now stream count low is chunks all has =
    let number : length chunks ≤ 102400000000 = omega (arith, low, all) in
    let made : applied before (last_index stream (length chunks)) ≡ now = ap (λ n. applied before (last_index stream n)) all ∙ sym is in
    subst (λ h. HasChunks h stream chunks) made (ended before stream chunks has number)

-- no segment, and no chunk
no_bytes : (held : Held) (stream : List ℕ) → HasNone held stream → (name : List ℕ) → bytes_of held (segment_in stream name) ≡ []
no_bytes held stream none name = ap (λ o. unwrap_or o []) (none name)

pub starts_with_none : (held : Held) (stream : List ℕ) → HasNone held stream → HasSoFar held stream []
starts_with_none held stream none = record {
  bevvy = λ b number. no_bytes held stream none (eight_digits b) ∙ ap concat (sym (ap (take 1024) (drop_all {X = List ℕ} (1024 * b) [] (omega arith))));
  full = λ b number whole. absurd (omega (arith, whole));
  unfilled = λ b number short. no_bytes held stream none (eight_digits b ++ codes ".index");
}

-- the appends of a stream with its block hashes
pub appends_its_chunks : (held : Held) (stream : List ℕ) (chunks : List (List ℕ)) → HasNone held stream → bevvy_count (length chunks) ≤ 100000000 → HasChunks (applied held (bevvies_appends stream chunks)) stream chunks
appends_its_chunks held stream chunks none few =
    let has = has_bevvies stream chunks few in
    record {
      bevvy = λ b below.
          bytes_of-applied held (bevvy_name stream b) (bevvies_appends stream chunks)
          ∙ (λ i. no_bytes held stream none (eight_digits b) i ++ has.bevvy b below i);
      index = λ b below.
          bytes_of-applied held (index_name stream b) (bevvies_appends stream chunks)
          ∙ (λ i. no_bytes held stream none (eight_digits b ++ codes ".index") i ++ has.index b below i);
    }
