-- An extent's chosen chunks, and their digests.
use Rattle.std.proofs.Common.{◌≡◌, ℕ, ◌+◌, ◌-◌, ◌*◌, ◌<◌, ◌≤◌, List, [], ◌∷◌, ◌++◌, length, take, drop, map, slice_index, slice_index_or, refl, ap, sym, ◌∙◌, arith, length-drop}
use Rattle.std.specs.List.{range_with_len}
use Rattle.std.proofs.lemmas.List.{append-nil, append_assoc, drop-take, get_or-map, length-map, length-take-le, map-append, map_more, take-append-drop, take-take}
use Rattle.std.proofs.lemmas.Simd.{map-map}
use Rattle.std.proofs.lemmas.List.FromFn.{fill_by_all}
use Rattle.md5.specs.Md5.{md5}
use Rattle.sha1.specs.Sha1.{sha1}
use Rattle.sha2.specs.Sha256.{sha256}
use Rattle.aff_spec.specs.Chunks.{chunk_at, padded}
use Rattle.aff_hash.specs.declared.kind.ChunkSums.{ChunkSums}
use Rattle.aff_hash.specs.Chosen.{chosen_sums, chunk_sums_of}

-- a whole chunk is stored as it is
pub whole_chunk : (bytes : List ℕ) (j : ℕ) → 32768 * (j + 1) ≤ length bytes → take 32768 (drop (32768 * j) bytes) ≡ chunk_at bytes j
unfolding padded
whole_chunk bytes j fits =
    let part : List ℕ = take 32768 (drop (32768 * j) bytes) in
    let len : length part ≡ 32768 = length-take-le 32768 (drop (32768 * j) bytes) (omega (arith, length-drop (32768 * j) bytes)) in
    rw len (sym (append-nil part))

-- f of each element, by its place
pub map_by_place : {X Y : Type 0} (f : X → Y) (xs : List X) (n : ℕ) (d : X) → length xs ≡ n → map (λ k. f (slice_index_or xs k d)) (range_with_len 0 n) ≡ map f xs
map_by_place f xs n d len =
    sym (fill_by_all (λ k. f (slice_index_or xs k d)) (map f xs) n (f d) (length-map xs f ∙ len) (λ k low. get_or-map f xs k d (f d) (omega arith)))

-- the entry of message k
pub entry_at : (texts m s t : List (List ℕ)) (k : ℕ) (r : ChunkSums) → k < length texts → m ≡ map md5 texts → s ≡ map sha1 texts → t ≡ map sha256 texts
    → r ≡ record { md5 = slice_index_or m k []; sha1 = slice_index_or s k []; sha256 = slice_index_or t k [] } → r ≡ chunk_sums_of (slice_index_or texts k [])
entry_at texts m s t k r low em es et is =
    let a : slice_index_or (map md5 texts) k [] ≡ md5 (slice_index_or texts k []) = get_or-map md5 texts k [] [] low in
    let b : slice_index_or (map sha1 texts) k [] ≡ sha1 (slice_index_or texts k []) = get_or-map sha1 texts k [] [] low in
    let c : slice_index_or (map sha256 texts) k [] ≡ sha256 (slice_index_or texts k []) = get_or-map sha256 texts k [] [] low in
    is ∙ rw (em, es, et, a, b, c) refl

-- the entries of one group more
pub more_chosen : (bytes chosen : List ℕ) (old s t found : List ChunkSums) (texts : List (List ℕ)) (lo hi at end : ℕ) → s ≡ old ++ chosen_sums bytes (take lo chosen)
    → t ≡ s ++ found → found ≡ map chunk_sums_of texts → texts ≡ map (chunk_at bytes) (take (end - at) (drop at chosen)) → at ≡ lo → end ≡ hi → lo ≤ hi
    → t ≡ old ++ chosen_sums bytes (take hi chosen)
more_chosen bytes chosen old s t found texts lo hi at end before pushed is each ea ee le =
    let f = λ (j : ℕ). chunk_sums_of (chunk_at bytes j) in
    let part : List ℕ = take (hi - lo) (drop lo chosen) in
    let e : lo + (hi - lo) ≡ hi = omega arith in
    let split : take lo chosen ++ part ≡ take hi chosen =
    ap (λ (xs : List ℕ). xs ++ part) (sym (take-take lo hi chosen le)) ∙ ap (λ (xs : List ℕ). take lo (take hi chosen) ++ xs) (rw (← drop-take lo (hi - lo) chosen, e) refl)
    ∙ take-append-drop lo (take hi chosen) in
    let entries : found ≡ chosen_sums bytes part = is ∙ ap (map chunk_sums_of) (each ∙ rw (ea, ee) refl) ∙ map-map chunk_sums_of (chunk_at bytes) part in
    pushed ∙ rw (before, entries) (append_assoc old (chosen_sums bytes (take lo chosen)) (chosen_sums bytes part))
    ∙ ap (λ (xs : List ChunkSums). old ++ xs) (sym (map-append f (take lo chosen) part) ∙ ap (map f) split)

-- the entry of one chunk more
pub one_chosen : (bytes chosen : List ℕ) (old s t : List ChunkSums) (x : ChunkSums) (i : ℕ) → s ≡ old ++ chosen_sums bytes (take i chosen)
    → t ≡ s ++ x ∷ [] → x ≡ chunk_sums_of (chunk_at bytes (slice_index chosen i)) → i < length chosen → t ≡ old ++ chosen_sums bytes (take (i + 1) chosen)
one_chosen bytes chosen old s t x i before pushed is low =
    let f = λ (j : ℕ). chunk_sums_of (chunk_at bytes j) in
    let last : List ChunkSums = f (slice_index chosen i) ∷ [] in
    pushed ∙ rw (before, is) (append_assoc old (chosen_sums bytes (take i chosen)) last) ∙ ap (λ (xs : List ChunkSums). old ++ xs) (sym (map_more f chosen i 0 low))

-- the entries of three parts, one after another
pub three_parts : (bytes chosen : List ℕ) (a b : ℕ) → a ≤ b
    → (chosen_sums bytes (take a chosen) ++ chosen_sums bytes (take (b - a) (drop a chosen))) ++ chosen_sums bytes (drop b chosen) ≡ chosen_sums bytes chosen
three_parts bytes chosen a b le =
    let f = λ (j : ℕ). chunk_sums_of (chunk_at bytes j) in
    let first = more_chosen bytes chosen [] (chosen_sums bytes (take a chosen)) (chosen_sums bytes (take a chosen) ++ chosen_sums bytes (take (b - a) (drop a chosen)))
    (chosen_sums bytes (take (b - a) (drop a chosen))) (map (chunk_at bytes) (take (b - a) (drop a chosen))) a b a b refl refl (sym (map-map chunk_sums_of (chunk_at bytes) (take (b - a) (drop a chosen)))) refl refl refl le in
    rw first (sym (map-append f (take b chosen) (drop b chosen)) ∙ ap (map f) (take-append-drop b chosen))
