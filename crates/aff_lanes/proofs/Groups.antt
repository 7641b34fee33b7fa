-- The schedules of four blocks, side by side.
use Rattle.std.proofs.Common.{◌≡◌, ℕ, zero, suc, add-zero, ◌≤◌, ◌+◌, ◌-◌, ◌*◌, ◌<◌, List, refl, ◌++◌, length, take, drop, slice_index, ap, sym, ◌∙◌, arith, inl, inr, get_or}
use Rattle.std.proofs.lemmas.Bool.{cases_lt}
use Rattle.std.proofs.lemmas.List.{drop-drop, get_or-take, get_or-append-add, length-drop, length-take-le, take-take}
use Rattle.std.proofs.lemmas.Simd.{put_chunk_whole}
use Rattle.std.proofs.lemmas.Slice.{take-put_mid}
use Rattle.std.specs.Simd.Lanes.{put_chunk}
use Rattle.sha2.specs.Sha256.{IsWindow, add32, hash_after, round_constants, schedule}
use Rattle.aff_lanes.specs.Groups.{HasWords}
use Rattle.aff_lanes.proofs.Messages.{same_block}
use borrow.Rule.Slice.PartMut.{put_mid, mid_of}

-- four words written at 4 * t
pub put_four : (flat y : List ℕ) (t j : ℕ) → length flat ≡ 256 → length y ≡ 4 → t < 64 → j < 4
    → slice_index (put_mid (4 * t) (4 * t + 4 - 4 * t) flat (put_chunk 0 (mid_of (4 * t) (4 * t + 4 - 4 * t) flat) y)) (4 * t + j) ≡ slice_index y j
put_four flat y t j lf ly below low =
    let mid = mid_of (4 * t) (4 * t + 4 - 4 * t) flat in
    let lm : length mid ≡ 4 * t + 4 - 4 * t = length-take-le (4 * t + 4 - 4 * t) (drop (4 * t) flat) (omega (arith, length-drop (4 * t) flat)) in
    let whole : put_chunk 0 mid y ≡ y = put_chunk_whole mid y (omega arith) in
    let front = take-put_mid (4 * t) (4 * t + 4 - 4 * t) flat y (4 * t + 4) (omega arith) (omega arith) in
    let head : length (take (4 * t) flat) ≡ 4 * t = length-take-le (4 * t) flat (omega arith) in
    rw whole (sym (get_or-take (4 * t + 4) (put_mid (4 * t) (4 * t + 4 - 4 * t) flat y) (4 * t + j) 0 (omega arith))
    ∙ ap (λ (l : List ℕ). get_or l (4 * t + j) 0) front
    ∙ ap (λ (k : ℕ). get_or (take (4 * t) flat ++ y) (k + j) 0) (sym head)
    ∙ get_or-append-add (take (4 * t) flat) y j 0)

-- one word more
pub more_words : (flat next b : List ℕ) (j t n : ℕ) → j < 4 → HasWords flat j b t → n ≡ t + 1
    → slice_index next (4 * t + j) ≡ add32 (slice_index (schedule b 48) t) (slice_index round_constants t)
    → ((i : ℕ) → i < 4 * t → slice_index next i ≡ slice_index flat i) → HasWords next j b n
more_words flat next b j t n low has count here below = λ k lt. elim (cases_lt k t) [
  | inl under ↦ below (4 * k + j) (omega arith) ∙ has k under
  | inr over ↦
      let e : k ≡ t = omega arith in
      rw e here
]

-- the same place, spelled another way
pub both_at : (flat w b : List ℕ) (j n k : ℕ) → n ≡ k → IsWindow w (schedule b 48) n × HasWords flat j b n → IsWindow w (schedule b 48) k × HasWords flat j b k
both_at flat w b j n k e held = rw (← e) held

-- the blocks from block n on, taken after the first n
pub hash_after_later : (h p : List ℕ) (n k : ℕ) → hash_after h p (n + k) ≡ hash_after (hash_after h p n) (drop (n * 64) p) k
unfolding hash_after
hash_after_later h p n zero = rw add-zero refl
hash_after_later h p n (suc k) =
    let next : n + suc k ≡ suc (n + k) = omega arith in
    let at : n * 64 + k * 64 ≡ (n + k) * 64 = omega arith in
    rw (next, hash_after_later h p n k, drop-drop (k * 64) (n * 64) p, at) refl

-- only the blocks that are taken count
pub hash_after_same : (h p q : List ℕ) (k : ℕ) → take (k * 64) p ≡ take (k * 64) q → hash_after h p k ≡ hash_after h q k
unfolding hash_after
hash_after_same h p q zero same = refl
hash_after_same h p q (suc k) same =
    let fits : k * 64 ≤ suc k * 64 = omega arith in
    let before : take (k * 64) p ≡ take (k * 64) q = sym (take-take (k * 64) (suc k * 64) p fits) ∙ ap (take (k * 64)) same ∙ take-take (k * 64) (suc k * 64) q fits in
    rw (hash_after_same h p q k before, same_block p q (k * 64) (suc k * 64) (omega arith) same) refl

-- one group more
pub next_group : (h bytes s next : List ℕ) (i lo hi n m : ℕ) → s ≡ hash_after h bytes n → next ≡ hash_after s (take (hi - lo) (drop lo bytes)) 4
    → n ≡ i * 4 → lo ≡ 256 * i → hi ≡ lo + 256 → m ≡ (i + 1) * 4 → hi ≤ length bytes → next ≡ hash_after h bytes m
next_group h bytes s next i lo hi n m before is en low high em fits =
    let width : hi - lo ≡ 256 = omega arith in
    let at : n * 64 ≡ lo = omega arith in
    let last : n + 4 ≡ m = omega arith in
    let group : List ℕ = drop lo bytes in
    let same : hash_after s (take 256 group) 4 ≡ hash_after s group 4 = hash_after_same s (take 256 group) group 4 (take-take 256 256 group (omega arith)) in
    is ∙ rw (width, same, before, ← at) (sym (hash_after_later h bytes n 4)) ∙ ap (hash_after h bytes) last
