-- What the appends of a stream leave in its segments.
use Rattle.std.proofs.Common.{◌≡◌, ℕ, zero, suc, false, ◌+◌, ◌-◌, ◌*◌, ◌<◌, ◌≤◌, List, [], ◌∷◌, ◌++◌, length, drop, map, refl, sym, ap, subst, ◌∙◌, arith, append-nil, codes, length-take, length-drop, inl, inr}
use Rattle.std.specs.Prelude.{◌≢◌, ◌⊎◌, Contains}
use Rattle.std.specs.List.{concat, flat_map, range_with_len, AllByRecursion}
use Rattle.std.proofs.lemmas.List.{map-append}
use Rattle.std.proofs.lemmas.List.Elements.{Contains-append_left, Contains-append_right, Contains-append_cases}
use Rattle.std.specs.Str.{bytes_eq}
use Rattle.std.proofs.lemmas.Grind.{flat_map-append}
use Rattle.aff_fields.specs.Point.{point_bytes}
use Rattle.aff_spec.specs.Appends.{Append, appends_to}
use Rattle.aff_spec.specs.Bevvies.{sums_of, bevvy_of, bevvy_count, closing_appends, bevvy_appends, bevvies_appends, bevvy_segments}
use Rattle.aff_spec.specs.Names.{eight_digits, segment_in, bevvy_name, index_name, md5_name, sha1_name, sha256_name}
use Rattle.aff_spec.specs.Streams.{full_points}
use Rattle.aff_spec.proofs.Bevvies.{range_more}
use Rattle.aff_spec.proofs.Names.{apart_by}
use Rattle.aff_spec.proofs.Members.{Contains-first, Contains-later, Contains-cases, Contains-none}
use Rattle.aff_spec.proofs.Owned.{names_of, own, own-append, own-same, own-other, own-pieces, own-other_pieces}
use Rattle.aff_spec.proofs.Segments.{segments_differ}

-- four appends in a row
module _ (i m s t bi bm bs bt : List ℕ) where
  abbrev four : List Append
  four = (i, bi) ∷ (m, bm) ∷ (s, bs) ∷ (t, bt) ∷ []

  none_of_four : (name : List ℕ) → i ≢ name → m ≢ name → s ≢ name → t ≢ name → own name four ≡ []
  none_of_four name not_i not_m not_s not_t =
      own-other name i bi ((m, bm) ∷ (s, bs) ∷ (t, bt) ∷ []) not_i
      ∙ own-other name m bm ((s, bs) ∷ (t, bt) ∷ []) not_m
      ∙ own-other name s bs ((t, bt) ∷ []) not_s
      ∙ own-other name t bt [] not_t

  first_of_four : m ≢ i → s ≢ i → t ≢ i → own i four ≡ bi
  first_of_four not_m not_s not_t =
      own-same i bi ((m, bm) ∷ (s, bs) ∷ (t, bt) ∷ [])
      ∙ ap (λ v. bi ++ v) (own-other i m bm ((s, bs) ∷ (t, bt) ∷ []) not_m ∙ own-other i s bs ((t, bt) ∷ []) not_s ∙ own-other i t bt [] not_t)
      ∙ append-nil bi

  second_of_four : i ≢ m → s ≢ m → t ≢ m → own m four ≡ bm
  second_of_four not_i not_s not_t =
      own-other m i bi ((m, bm) ∷ (s, bs) ∷ (t, bt) ∷ []) not_i
      ∙ own-same m bm ((s, bs) ∷ (t, bt) ∷ [])
      ∙ ap (λ v. bm ++ v) (own-other m s bs ((t, bt) ∷ []) not_s ∙ own-other m t bt [] not_t)
      ∙ append-nil bm

  third_of_four : i ≢ s → m ≢ s → t ≢ s → own s four ≡ bs
  third_of_four not_i not_m not_t =
      own-other s i bi ((m, bm) ∷ (s, bs) ∷ (t, bt) ∷ []) not_i
      ∙ own-other s m bm ((s, bs) ∷ (t, bt) ∷ []) not_m
      ∙ own-same s bs ((t, bt) ∷ [])
      ∙ ap (λ v. bs ++ v) (own-other s t bt [] not_t)
      ∙ append-nil bs

  last_of_four : i ≢ t → m ≢ t → s ≢ t → own t four ≡ bt
  last_of_four not_i not_m not_s =
      own-other t i bi ((m, bm) ∷ (s, bs) ∷ (t, bt) ∷ []) not_i
      ∙ own-other t m bm ((s, bs) ∷ (t, bt) ∷ []) not_m
      ∙ own-other t s bs ((t, bt) ∷ []) not_s
      ∙ own-same t bt []
      ∙ append-nil bt

module _ (stream : List ℕ) (chunks : List (List ℕ)) where
  -- a numbered segment of the stream
  abbrev pub seg : ℕ → List ℕ → List ℕ
  seg b suffix = segment_in stream (eight_digits b ++ suffix)

  seg_apart : (j b : ℕ) (s t : List ℕ) → j < 100000000 → b < 100000000 → j ≢ b → seg j s ≢ seg b t
  seg_apart j b s t low_j low_b apart e = apart (segments_differ stream stream j b s t low_j low_b e).1

  suffix_apart : (b : ℕ) (s t : List ℕ) → b < 100000000 → s ≢ t → seg b s ≢ seg b t
  suffix_apart b s t low apart e = apart (segments_differ stream stream b b s t low low e).2

  -- what stands behind the chunks of a bevvy
  abbrev points_of : ℕ → List ℕ
  points_of j = flat_map point_bytes (full_points (length (bevvy_of chunks j)))

  abbrev by_md5 : ℕ → List ℕ
  by_md5 j = flat_map (λ s. s.md5) (map sums_of (bevvy_of chunks j))

  abbrev by_sha1 : ℕ → List ℕ
  by_sha1 j = flat_map (λ s. s.sha1) (map sums_of (bevvy_of chunks j))

  abbrev by_sha256 : ℕ → List ℕ
  by_sha256 j = flat_map (λ s. s.sha256) (map sums_of (bevvy_of chunks j))

  -- another bevvy adds nothing
  other_bevvy : (b j : ℕ) (s : List ℕ) → j < 100000000 → b < 100000000 → j ≢ b → own (seg b s) (bevvy_appends stream chunks j) ≡ []
  other_bevvy b j s low_j low_b apart =
      own-append (seg b s) (appends_to (bevvy_name stream j) (bevvy_of chunks j)) (closing_appends stream j (bevvy_of chunks j))
      ∙ (λ i. own-other_pieces (seg b s) (bevvy_name stream j) (bevvy_of chunks j) (seg_apart j b [] s low_j low_b apart) i ++ own (seg b s) (closing_appends stream j (bevvy_of chunks j)))
      ∙ none_of_four (index_name stream j) (md5_name stream j) (sha1_name stream j) (sha256_name stream j) (points_of j) (by_md5 j) (by_sha1 j) (by_sha256 j) (seg b s)
      (seg_apart j b (codes ".index") s low_j low_b apart)
      (seg_apart j b (codes ".blockHash.md5") s low_j low_b apart)
      (seg_apart j b (codes ".blockHash.sha1") s low_j low_b apart)
      (seg_apart j b (codes ".blockHash.sha256") s low_j low_b apart)

  bevvies : ℕ → List Append
  bevvies k = flat_map (bevvy_appends stream chunks) (range_with_len 0 k)

  bevvies-next : (b k : ℕ) (s : List ℕ) → own (seg b s) (bevvies (k + 1)) ≡ own (seg b s) (bevvies k) ++ own (seg b s) (bevvy_appends stream chunks k)
  unfolding bevvies
  bevvies-next b k s =
      let last : 0 + k ≡ k = omega arith in
      ap (own (seg b s)) (ap (flat_map (bevvy_appends stream chunks)) (range_more 0 k ∙ ap (λ j. range_with_len 0 k ++ j ∷ []) last) ∙ flat_map-append (bevvy_appends stream chunks) (range_with_len 0 k) (k ∷ [])
      ∙ ap (λ v. flat_map (bevvy_appends stream chunks) (range_with_len 0 k) ++ v) (append-nil (bevvy_appends stream chunks k)))
      ∙ own-append (seg b s) (flat_map (bevvy_appends stream chunks) (range_with_len 0 k)) (bevvy_appends stream chunks k)

  -- bevvies before it add nothing, and those behind it
  before : (b k : ℕ) (s : List ℕ) → b < 100000000 → k ≤ b → own (seg b s) (bevvies k) ≡ []
  unfolding bevvies
  before b zero s low low_k = refl
  before b (suc k) s low low_k =
      let one : suc k ≡ k + 1 = omega arith in
      ap (λ n. own (seg b s) (bevvies n)) one ∙ bevvies-next b k s
      ∙ (λ i. before b k s low (omega (arith, low_k)) i ++ other_bevvy b k s (omega (arith, low, low_k)) low (λ e. omega (arith, e, low_k)) i)

  at_or_behind : (b n : ℕ) (s : List ℕ) → b + n < 100000000 → own (seg b s) (bevvies (b + 1 + n)) ≡ own (seg b s) (bevvy_appends stream chunks b)
  at_or_behind b zero s low =
      let one : b + 1 + 0 ≡ b + 1 = omega arith in
      ap (λ k. own (seg b s) (bevvies k)) one ∙ bevvies-next b b s ∙ ap (λ v. v ++ own (seg b s) (bevvy_appends stream chunks b)) (before b b s (omega (arith, low)) (omega arith))
  at_or_behind b (suc n) s low =
      let one : b + 1 + suc n ≡ b + 1 + n + 1 = omega arith in
      ap (λ k. own (seg b s) (bevvies k)) one ∙ bevvies-next b (b + 1 + n) s
      ∙ (λ i. at_or_behind b n s (omega (arith, low)) i ++ other_bevvy b (b + 1 + n) s (omega (arith, low)) (omega (arith, low)) (λ e. omega (arith, e)) i)
      ∙ append-nil (own (seg b s) (bevvy_appends stream chunks b))

  own_bevvy : (b : ℕ) (s : List ℕ) → bevvy_count (length chunks) ≤ 100000000 → b < bevvy_count (length chunks) → own (seg b s) (bevvies_appends stream chunks) ≡ own (seg b s) (bevvy_appends stream chunks b)
  unfolding bevvies
  own_bevvy b s few below = from (bevvy_count (length chunks)) few below
    where
      from : (m : ℕ) → m ≤ 100000000 → b < m → own (seg b s) (bevvies m) ≡ own (seg b s) (bevvy_appends stream chunks b)
      from zero few below = absurd (omega (arith, below))
      from (suc m) few below = at m few below (split m below)
        where
          split : (m : ℕ) → b < suc m → (n : ℕ) × (suc m ≡ b + 1 + n)
          split m low = (m - b, omega (arith, low))

          at : (m : ℕ) → suc m ≤ 100000000 → b < suc m → ((n : ℕ) × (suc m ≡ b + 1 + n)) → own (seg b s) (bevvies (suc m)) ≡ own (seg b s) (bevvy_appends stream chunks b)
          at m few below (n, e) = ap (λ k. own (seg b s) (bevvies k)) e ∙ at_or_behind b n s (omega (arith, e, few))

  -- the five segments of a bevvy
  module _ (b : ℕ) (low : b < 100000000) where
    pieces_in : (s : List ℕ) → codes "" ≢ s → own (seg b s) (bevvy_appends stream chunks b) ≡ own (seg b s) (closing_appends stream b (bevvy_of chunks b))
    pieces_in s apart =
        own-append (seg b s) (appends_to (bevvy_name stream b) (bevvy_of chunks b)) (closing_appends stream b (bevvy_of chunks b))
        ∙ (λ i. own-other_pieces (seg b s) (bevvy_name stream b) (bevvy_of chunks b) (suffix_apart b [] s low apart) i ++ own (seg b s) (closing_appends stream b (bevvy_of chunks b)))

    apart_in : (s t : List ℕ) → bytes_eq s t ≡ false → seg b s ≢ seg b t
    apart_in s t test = suffix_apart b s t low (apart_by s t test)

    bevvy_in : own (bevvy_name stream b) (bevvy_appends stream chunks b) ≡ concat (bevvy_of chunks b)
    bevvy_in =
        own-append (bevvy_name stream b) (appends_to (bevvy_name stream b) (bevvy_of chunks b)) (closing_appends stream b (bevvy_of chunks b))
        ∙ (λ i. own-pieces (bevvy_name stream b) (bevvy_of chunks b) i ++ closed i)
        ∙ append-nil (concat (bevvy_of chunks b))
      where
        closed : own (bevvy_name stream b) (closing_appends stream b (bevvy_of chunks b)) ≡ []
        closed =
            none_of_four (index_name stream b) (md5_name stream b) (sha1_name stream b) (sha256_name stream b) (points_of b) (by_md5 b) (by_sha1 b) (by_sha256 b) (bevvy_name stream b)
            (apart_in (codes ".index") [] refl) (apart_in (codes ".blockHash.md5") [] refl) (apart_in (codes ".blockHash.sha1") [] refl) (apart_in (codes ".blockHash.sha256") [] refl)

    index_in : own (index_name stream b) (bevvy_appends stream chunks b) ≡ flat_map point_bytes (full_points (length (bevvy_of chunks b)))
    index_in =
        pieces_in (codes ".index") (apart_by [] (codes ".index") refl)
        ∙ first_of_four (index_name stream b) (md5_name stream b) (sha1_name stream b) (sha256_name stream b) (points_of b) (by_md5 b) (by_sha1 b) (by_sha256 b)
        (apart_in (codes ".blockHash.md5") (codes ".index") refl) (apart_in (codes ".blockHash.sha1") (codes ".index") refl) (apart_in (codes ".blockHash.sha256") (codes ".index") refl)

    md5_in : own (md5_name stream b) (bevvy_appends stream chunks b) ≡ flat_map (λ s. s.md5) (map sums_of (bevvy_of chunks b))
    md5_in =
        pieces_in (codes ".blockHash.md5") (apart_by [] (codes ".blockHash.md5") refl)
        ∙ second_of_four (index_name stream b) (md5_name stream b) (sha1_name stream b) (sha256_name stream b) (points_of b) (by_md5 b) (by_sha1 b) (by_sha256 b)
        (apart_in (codes ".index") (codes ".blockHash.md5") refl) (apart_in (codes ".blockHash.sha1") (codes ".blockHash.md5") refl) (apart_in (codes ".blockHash.sha256") (codes ".blockHash.md5") refl)

    sha1_in : own (sha1_name stream b) (bevvy_appends stream chunks b) ≡ flat_map (λ s. s.sha1) (map sums_of (bevvy_of chunks b))
    sha1_in =
        pieces_in (codes ".blockHash.sha1") (apart_by [] (codes ".blockHash.sha1") refl)
        ∙ third_of_four (index_name stream b) (md5_name stream b) (sha1_name stream b) (sha256_name stream b) (points_of b) (by_md5 b) (by_sha1 b) (by_sha256 b)
        (apart_in (codes ".index") (codes ".blockHash.sha1") refl) (apart_in (codes ".blockHash.md5") (codes ".blockHash.sha1") refl) (apart_in (codes ".blockHash.sha256") (codes ".blockHash.sha1") refl)

    sha256_in : own (sha256_name stream b) (bevvy_appends stream chunks b) ≡ flat_map (λ s. s.sha256) (map sums_of (bevvy_of chunks b))
    sha256_in =
        pieces_in (codes ".blockHash.sha256") (apart_by [] (codes ".blockHash.sha256") refl)
        ∙ last_of_four (index_name stream b) (md5_name stream b) (sha1_name stream b) (sha256_name stream b) (points_of b) (by_md5 b) (by_sha1 b) (by_sha256 b)
        (apart_in (codes ".index") (codes ".blockHash.sha256") refl) (apart_in (codes ".blockHash.md5") (codes ".blockHash.sha256") refl) (apart_in (codes ".blockHash.sha1") (codes ".blockHash.sha256") refl)

-- the appends of a stream add nothing to a segment that is none of its
module _ (stream : List ℕ) (chunks : List (List ℕ)) (name : List ℕ) (other : (x : List ℕ) → segment_in stream x ≢ name) where
  none_in_bevvy : (b : ℕ) → own name (bevvy_appends stream chunks b) ≡ []
  none_in_bevvy b =
      own-append name (appends_to (bevvy_name stream b) (bevvy_of chunks b)) (closing_appends stream b (bevvy_of chunks b))
      ∙ (λ i. own-other_pieces name (bevvy_name stream b) (bevvy_of chunks b) (other (eight_digits b)) i ++ own name (closing_appends stream b (bevvy_of chunks b)))
      ∙ none_of_four (index_name stream b) (md5_name stream b) (sha1_name stream b) (sha256_name stream b) (points_of stream chunks b) (by_md5 stream chunks b) (by_sha1 stream chunks b) (by_sha256 stream chunks b) name
      (other (eight_digits b ++ codes ".index")) (other (eight_digits b ++ codes ".blockHash.md5")) (other (eight_digits b ++ codes ".blockHash.sha1")) (other (eight_digits b ++ codes ".blockHash.sha256"))

  none_in_list : (bs : List ℕ) → own name (flat_map (bevvy_appends stream chunks) bs) ≡ []
  none_in_list [] = refl
  none_in_list (b ∷ bs) = own-append name (bevvy_appends stream chunks b) (flat_map (bevvy_appends stream chunks) bs) ∙ (λ i. none_in_bevvy b i ++ none_in_list bs i)

  pub none_in_stream : own name (bevvies_appends stream chunks) ≡ []
  none_in_stream = none_in_list (range_with_len 0 (bevvy_count (length chunks)))

-- the segments that the appends of a stream make are those of its bevvies
module _ (stream : List ℕ) (chunks : List (List ℕ)) (name : List ℕ) where
  named_piece : (n : List ℕ) (ps : List (List ℕ)) (rest : List Append) → Contains (names_of (appends_to n ps ++ rest)) name → (n ≡ name) ⊎ Contains (names_of rest) name
  named_piece n [] rest c = inr c
  named_piece n (p ∷ ps) rest c =
      elim (Contains-cases n (names_of (appends_to n ps ++ rest)) name c) [
        | inl e ↦ inl e
        | inr later ↦ named_piece n ps rest later
      ]

  named_rest : (n : List ℕ) (ps : List (List ℕ)) (rest : List Append) → Contains (names_of rest) name → Contains (names_of (appends_to n ps ++ rest)) name
  named_rest n [] rest c = c
  named_rest n (p ∷ ps) rest c = Contains-later n (names_of (appends_to n ps ++ rest)) name (named_rest n ps rest c)

  named_first : (n : List ℕ) (ps : List (List ℕ)) (rest : List Append) → 0 < length ps → n ≡ name → Contains (names_of (appends_to n ps ++ rest)) name
  named_first n [] rest some e = absurd (omega (arith, some))
  named_first n (p ∷ ps) rest some e = subst (Contains (names_of (appends_to n (p ∷ ps) ++ rest))) e (Contains-first n (names_of (appends_to n ps ++ rest)))

  to_bevvy : (b : ℕ) → Contains (names_of (bevvy_appends stream chunks b)) name → Contains (bevvy_segments stream b) name
  to_bevvy b c =
      elim (named_piece (bevvy_name stream b) (bevvy_of chunks b) (closing_appends stream b (bevvy_of chunks b)) c) [
        | inl e ↦ subst (Contains (bevvy_segments stream b)) e (Contains-first (bevvy_name stream b) (names_of (closing_appends stream b (bevvy_of chunks b))))
        | inr later ↦ Contains-later (bevvy_name stream b) (names_of (closing_appends stream b (bevvy_of chunks b))) name later
      ]

  from_bevvy : (b : ℕ) → 0 < length (bevvy_of chunks b) → Contains (bevvy_segments stream b) name → Contains (names_of (bevvy_appends stream chunks b)) name
  from_bevvy b some c =
      elim (Contains-cases (bevvy_name stream b) (names_of (closing_appends stream b (bevvy_of chunks b))) name c) [
        | inl e ↦ named_first (bevvy_name stream b) (bevvy_of chunks b) (closing_appends stream b (bevvy_of chunks b)) some e
        | inr later ↦ named_rest (bevvy_name stream b) (bevvy_of chunks b) (closing_appends stream b (bevvy_of chunks b)) later
      ]

  names-append : (xs ys : List Append) → names_of (xs ++ ys) ≡ names_of xs ++ names_of ys
  names-append xs ys = map-append (λ a. a.0) xs ys

  to_list : (bs : List ℕ) → Contains (names_of (flat_map (bevvy_appends stream chunks) bs)) name → Contains (flat_map (bevvy_segments stream) bs) name
  to_list [] c = absurd (Contains-none name c)
  to_list (b ∷ bs) c =
      elim (Contains-append_cases (names_of (bevvy_appends stream chunks b)) (names_of (flat_map (bevvy_appends stream chunks) bs)) name
      (subst (λ v. Contains v name) (names-append (bevvy_appends stream chunks b) (flat_map (bevvy_appends stream chunks) bs)) c)) [
        | inl here ↦ Contains-append_left (bevvy_segments stream b) (flat_map (bevvy_segments stream) bs) name (to_bevvy b here)
        | inr later ↦ Contains-append_right (bevvy_segments stream b) (flat_map (bevvy_segments stream) bs) name (to_list bs later)
      ]

  from_list : (bs : List ℕ) → AllByRecursion (λ b. 0 < length (bevvy_of chunks b)) bs → Contains (flat_map (bevvy_segments stream) bs) name → Contains (names_of (flat_map (bevvy_appends stream chunks) bs)) name
  from_list [] some c = absurd (Contains-none name c)
  from_list (b ∷ bs) some c =
      subst (λ v. Contains v name) (sym (names-append (bevvy_appends stream chunks b) (flat_map (bevvy_appends stream chunks) bs)))
      (elim (Contains-append_cases (bevvy_segments stream b) (flat_map (bevvy_segments stream) bs) name c) [
        | inl here ↦ Contains-append_left (names_of (bevvy_appends stream chunks b)) (names_of (flat_map (bevvy_appends stream chunks) bs)) name (from_bevvy b some.0 here)
        | inr later ↦ Contains-append_right (names_of (bevvy_appends stream chunks b)) (names_of (flat_map (bevvy_appends stream chunks) bs)) name (from_list bs some.1 later)
      ])

  each_some : (a n : ℕ) → a + n ≤ bevvy_count (length chunks) → AllByRecursion (λ b. 0 < length (bevvy_of chunks b)) (range_with_len a n)
  each_some a zero low = tt
  each_some a (suc n) low =
      (omega (arith, low, length-take 1024 (drop (1024 * a) chunks), length-drop (1024 * a) chunks), each_some (a + 1) n (omega (arith, low)))

  pub stream_segments : (Contains (names_of (bevvies_appends stream chunks)) name → Contains (flat_map (bevvy_segments stream) (range_with_len 0 (bevvy_count (length chunks)))) name)
      × (Contains (flat_map (bevvy_segments stream) (range_with_len 0 (bevvy_count (length chunks)))) name → Contains (names_of (bevvies_appends stream chunks)) name)
  stream_segments = (
    to_list (range_with_len 0 (bevvy_count (length chunks))),
    from_list (range_with_len 0 (bevvy_count (length chunks))) (each_some 0 (bevvy_count (length chunks)) (omega arith)),
  )

-- what the segments of a stream hold, bevvy by bevvy: its chunks one after another, its points, and the digests of its chunks
pub record HasBevvies (bytes : List ℕ → List ℕ) (stream : List ℕ) (chunks : List (List ℕ)) : Type 0 where
  pub bevvy : (b : ℕ) → b < bevvy_count (length chunks) → bytes (bevvy_name stream b) ≡ concat (bevvy_of chunks b)
  pub index : (b : ℕ) → b < bevvy_count (length chunks) → bytes (index_name stream b) ≡ flat_map point_bytes (full_points (length (bevvy_of chunks b)))
  pub md5 : (b : ℕ) → b < bevvy_count (length chunks) → bytes (md5_name stream b) ≡ flat_map (λ s. s.md5) (map sums_of (bevvy_of chunks b))
  pub sha1 : (b : ℕ) → b < bevvy_count (length chunks) → bytes (sha1_name stream b) ≡ flat_map (λ s. s.sha1) (map sums_of (bevvy_of chunks b))
  pub sha256 : (b : ℕ) → b < bevvy_count (length chunks) → bytes (sha256_name stream b) ≡ flat_map (λ s. s.sha256) (map sums_of (bevvy_of chunks b))

-- the appends of a stream are its segments
pub has_bevvies : (stream : List ℕ) (chunks : List (List ℕ)) → bevvy_count (length chunks) ≤ 100000000 → HasBevvies (λ name. own name (bevvies_appends stream chunks)) stream chunks
has_bevvies stream chunks few = record {
  bevvy = λ b below. own_bevvy stream chunks b [] few below ∙ bevvy_in stream chunks b (omega (arith, few, below));
  index = λ b below. own_bevvy stream chunks b (codes ".index") few below ∙ index_in stream chunks b (omega (arith, few, below));
  md5 = λ b below. own_bevvy stream chunks b (codes ".blockHash.md5") few below ∙ md5_in stream chunks b (omega (arith, few, below));
  sha1 = λ b below. own_bevvy stream chunks b (codes ".blockHash.sha1") few below ∙ sha1_in stream chunks b (omega (arith, few, below));
  sha256 = λ b below. own_bevvy stream chunks b (codes ".blockHash.sha256") few below ∙ sha256_in stream chunks b (omega (arith, few, below));
}
