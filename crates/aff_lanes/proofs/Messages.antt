-- Messages side by side, and their blocks.
use Rattle.std.proofs.Common.{◌≡◌, ℕ, zero, suc, ◌+◌, ◌*◌, ◌<◌, ◌≤◌, List, [], ◌∷◌, ◌++◌, length, take, drop, map, slice_index, slice_index_or, All, Bor, refl, ap, sym, ◌∙◌, arith}
use Rattle.std.proofs.Math.ListN.{get_or-map}
use Rattle.std.proofs.lemmas.List.{drop-drop, drop-take, get_or-drop, get_or-take, length-drop, length-take-le, map-append, take-append-drop, take-take}
use Rattle.md5.specs.Md5.{word_at as low_word_at}
use Rattle.sha2.specs.Sha256.{word_at as high_word_at}
use Rattle.aff_lanes.specs.Lanes.{lanes}
use Rattle.aff_lanes.proofs.Lanes.{below_four}
use Rattle.aff_lanes.specs.Messages.{block_at, text, texts, HasBlocks, HaveOneLength}

-- the bytes of message j, as an element's
pub text_at : (messages : List (Bor (List ℕ))) (j : ℕ) → text messages j ≡ (slice_index_or messages j (record { ref_ptr = (0, 0); now = [] })).now
text_at messages j = get_or-map (λ (m : Bor (List ℕ)). m.now) messages j (record { ref_ptr = (0, 0); now = [] })

-- what holds of each element holds of each message
pub All-text : (P : List ℕ → Type 0) (messages : List (Bor (List ℕ))) → All (λ m. P m.now) messages → (j : ℕ) → j < length messages → P (text messages j)
All-text P messages all j low = rw (text_at messages j) (all j (record { ref_ptr = (0, 0); now = [] }) low)

-- byte i of a block
byte_of_block : (m : List ℕ) (at i : ℕ) → i < 64 → slice_index (block_at m at) i ≡ slice_index m (at + i)
byte_of_block m at i low = get_or-take 64 (drop at m) i 0 low ∙ get_or-drop at m i 0

pub low_word-block : (m : List ℕ) (at i : ℕ) → i + 4 ≤ 64 → low_word_at m (at + i) ≡ low_word_at (block_at m at) i
low_word-block m at i low =
    let e0 = byte_of_block m at i (omega arith) in
    let e1 : slice_index (block_at m at) (i + 1) ≡ slice_index m (at + i + 1) = byte_of_block m at (i + 1) (omega arith) ∙ ap (slice_index m) (omega arith) in
    let e2 : slice_index (block_at m at) (i + 2) ≡ slice_index m (at + i + 2) = byte_of_block m at (i + 2) (omega arith) ∙ ap (slice_index m) (omega arith) in
    let e3 : slice_index (block_at m at) (i + 3) ≡ slice_index m (at + i + 3) = byte_of_block m at (i + 3) (omega arith) ∙ ap (slice_index m) (omega arith) in
    rw (e0, e1, e2, e3) refl

pub high_word-block : (m : List ℕ) (at i : ℕ) → i + 4 ≤ 64 → high_word_at m (at + i) ≡ high_word_at (block_at m at) i
high_word-block m at i low =
    let e0 = byte_of_block m at i (omega arith) in
    let e1 : slice_index (block_at m at) (i + 1) ≡ slice_index m (at + i + 1) = byte_of_block m at (i + 1) (omega arith) ∙ ap (slice_index m) (omega arith) in
    let e2 : slice_index (block_at m at) (i + 2) ≡ slice_index m (at + i + 2) = byte_of_block m at (i + 2) (omega arith) ∙ ap (slice_index m) (omega arith) in
    let e3 : slice_index (block_at m at) (i + 3) ≡ slice_index m (at + i + 3) = byte_of_block m at (i + 3) (omega arith) ∙ ap (slice_index m) (omega arith) in
    rw (e0, e1, e2, e3) refl

-- lists that begin alike have the same block
pub same_block : (xs ys : List ℕ) (at n : ℕ) → at + 64 ≤ n → take n xs ≡ take n ys → block_at xs at ≡ block_at ys at
same_block xs ys at n fits same =
    let begin : take (at + 64) xs ≡ take (at + 64) ys = sym (take-take (at + 64) n xs fits) ∙ ap (take (at + 64)) same ∙ take-take (at + 64) n ys fits in
    sym (drop-take at 64 xs) ∙ ap (drop at) begin ∙ drop-take at 64 ys

-- the next block of a part is the whole's
pub next_block : (whole part : List ℕ) (q count i : ℕ) → HasBlocks whole q count part → i < count → block_at part (64 * i) ≡ take 64 (drop ((q + i) * 64) whole)
next_block whole part q count i has low =
    let at : q * 64 + 64 * i ≡ (q + i) * 64 = omega arith in
    same_block part (drop (q * 64) whole) (64 * i) (64 * count) (omega arith) has
    ∙ ap (take 64) (drop-drop (64 * i) (q * 64) whole ∙ ap (λ (k : ℕ). drop k whole) at)

-- four digests, one in each lane
pub map-lanes : (f : List ℕ → List ℕ) (g : ℕ → List ℕ) (messages : List (Bor (List ℕ))) → length messages ≡ 4
    → ((j : ℕ) → j < 4 → g j ≡ f (text messages j)) → map g lanes ≡ map f (texts messages)
map-lanes f g (a ∷ b ∷ c ∷ d ∷ []) len each = rw (each 0 (omega arith), each 1 (omega arith), each 2 (omega arith), each 3 (omega arith)) refl
map-lanes f g [] len each = absurd (omega arith)
map-lanes f g (a ∷ []) len each = absurd (omega arith)
map-lanes f g (a ∷ b ∷ []) len each = absurd (omega arith)
map-lanes f g (a ∷ b ∷ c ∷ []) len each = absurd (omega arith)
map-lanes f g (a ∷ b ∷ c ∷ d ∷ e ∷ messages) len each = absurd (omega arith)

-- the first four of eight messages, and the last four
pub first_length : (xs : List (Bor (List ℕ))) → length xs ≡ 8 → HaveOneLength xs → All (λ m. length m.now ≡ length (text xs 0)) (take 4 xs)
first_length xs len one k d low =
    let count : length (take 4 xs) ≡ 4 = length-take-le 4 xs (omega arith) in
    let here : k < 4 = omega arith in
    ap (λ (m : Bor (List ℕ)). length m.now) (get_or-take 4 xs k d here) ∙ one k d (omega arith)

pub last_length : (xs : List (Bor (List ℕ))) → length xs ≡ 8 → HaveOneLength xs → All (λ m. length m.now ≡ length (text xs 0)) (drop 4 xs)
last_length xs len one k d low =
    let count : length (drop 4 xs) ≡ 4 = omega (arith, length-drop 4 xs) in
    ap (λ (m : Bor (List ℕ)). length m.now) (get_or-drop 4 xs k d) ∙ one (4 + k) d (omega arith)

-- eight elements, each by its place
pub first_elements : {X : Type 0} (xs : List X) (d : X) → length xs ≡ 8
    → slice_index_or xs 0 d ∷ slice_index_or xs 1 d ∷ slice_index_or xs 2 d ∷ slice_index_or xs 3 d ∷ [] ≡ take 4 xs
first_elements (a ∷ b ∷ c ∷ d ∷ xs) x len = refl
first_elements [] x len = absurd (omega arith)
first_elements (a ∷ []) x len = absurd (omega arith)
first_elements (a ∷ b ∷ []) x len = absurd (omega arith)
first_elements (a ∷ b ∷ c ∷ []) x len = absurd (omega arith)

pub last_elements : {X : Type 0} (xs : List X) (d : X) → length xs ≡ 8
    → slice_index_or xs 4 d ∷ slice_index_or xs 5 d ∷ slice_index_or xs 6 d ∷ slice_index_or xs 7 d ∷ [] ≡ drop 4 xs
last_elements xs x len =
    let rest : length (drop 4 xs) ≡ 4 = omega (arith, length-drop 4 xs) in
    rw (← get_or-drop 4 xs 0 x, ← get_or-drop 4 xs 1 x, ← get_or-drop 4 xs 2 x, ← get_or-drop 4 xs 3 x) (four_elements (drop 4 xs) x rest)
  where
    four_elements : {X : Type 0} (ys : List X) (d : X) → length ys ≡ 4
        → slice_index_or ys 0 d ∷ slice_index_or ys 1 d ∷ slice_index_or ys 2 d ∷ slice_index_or ys 3 d ∷ [] ≡ ys
    four_elements (a ∷ b ∷ c ∷ d ∷ []) x len = refl
    four_elements [] x len = absurd (omega arith)
    four_elements (a ∷ []) x len = absurd (omega arith)
    four_elements (a ∷ b ∷ []) x len = absurd (omega arith)
    four_elements (a ∷ b ∷ c ∷ []) x len = absurd (omega arith)
    four_elements (a ∷ b ∷ c ∷ d ∷ e ∷ ys) x len = absurd (omega arith)

-- messages of one length stay so
pub one_length : (xs : List (Bor (List ℕ))) (n : ℕ) → 0 < length xs → All (λ m. length m.now ≡ n) xs → HaveOneLength xs
one_length xs n some all k d low = all k d low ∙ sym (All-text (λ (m : List ℕ). length m ≡ n) xs all 0 some)

pub both_halves : (f : List ℕ → List ℕ) (xs : List (Bor (List ℕ))) → map f (texts (take 4 xs)) ++ map f (texts (drop 4 xs)) ≡ map f (texts xs)
both_halves f xs =
    let g = λ (m : Bor (List ℕ)). m.now in
    sym (ap (λ (ys : List (Bor (List ℕ))). map f (map g ys)) (sym (take-append-drop 4 xs))
    ∙ ap (map f) (map-append g (take 4 xs) (drop 4 xs)) ∙ map-append f (map g (take 4 xs)) (map g (drop 4 xs)))

-- what holds of each of four elements
pub All-four : {X : Type 0} (P : X → Type 0) (a b c d : X) → P a → P b → P c → P d → All P (a ∷ b ∷ c ∷ d ∷ [])
All-four P a b c d pa pb pc pd k x low = below_four (λ i. P (slice_index_or (a ∷ b ∷ c ∷ d ∷ []) i x)) pa pb pc pd k low

-- each of these messages has this length
pub four_of_one_length : (n : ℕ) (a b c d : Bor (List ℕ)) → length a.now ≡ n → length b.now ≡ n → length c.now ≡ n → length d.now ≡ n → HaveOneLength (a ∷ b ∷ c ∷ d ∷ [])
four_of_one_length n a b c d la lb lc ld =
    one_length (a ∷ b ∷ c ∷ d ∷ []) n (omega arith) (All-four (λ m. length m.now ≡ n) a b c d la lb lc ld)

pub eight_of_one_length : (n : ℕ) (a b c d e f g h : Bor (List ℕ)) → length a.now ≡ n → length b.now ≡ n → length c.now ≡ n → length d.now ≡ n
    → length e.now ≡ n → length f.now ≡ n → length g.now ≡ n → length h.now ≡ n → HaveOneLength (a ∷ b ∷ c ∷ d ∷ e ∷ f ∷ g ∷ h ∷ [])
eight_of_one_length n a b c d e f g h la lb lc ld le lf lg lh =
    one_length (a ∷ b ∷ c ∷ d ∷ e ∷ f ∷ g ∷ h ∷ []) n (omega arith) each
  where
    each : All (λ (m : Bor (List ℕ)). length m.now ≡ n) (a ∷ b ∷ c ∷ d ∷ e ∷ f ∷ g ∷ h ∷ [])
    each zero x low = la
    each (suc zero) x low = lb
    each (suc (suc zero)) x low = lc
    each (suc (suc (suc zero))) x low = ld
    each (suc (suc (suc (suc zero)))) x low = le
    each (suc (suc (suc (suc (suc zero))))) x low = lf
    each (suc (suc (suc (suc (suc (suc zero)))))) x low = lg
    each (suc (suc (suc (suc (suc (suc (suc zero))))))) x low = lh
    each (suc (suc (suc (suc (suc (suc (suc (suc k)))))))) x low = absurd (omega arith)
