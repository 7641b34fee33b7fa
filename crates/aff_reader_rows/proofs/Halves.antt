-- The pieces that the tests read by are sound.
use Rattle.std.proofs.Common.{◌≡◌, ℕ, zero, suc, ◌+◌, ◌-◌, ◌*◌, ◌/◌, ◌<◌, ◌≤◌, Bool, false, IsTrue, inl, inr, List, [], ◌∷◌, length, replicate, take, drop, get_or, refl, sym, ap, subst, ◌∙◌, arith, length-take, length-drop}
use Rattle.std.specs.Prelude.{All, Contains, Err, IfOk, MatchOption, None, Ok, Result, Some, slice_get, slice_index_or}
use Rattle.std.proofs.lemmas.Bool.Decides.{leb_tells}
use Rattle.std.proofs.lemmas.List.{ext_get_or, get_or-append_right, get_or-replicate, get_or-take, length-replicate}
use Rattle.std.proofs.lemmas.Option.{get_or_from_slice_get}
use Rattle.sha2.specs.Sha256.{sha256}
use Rattle.aff_model.specs.declared.extent.Extent.{Extent}
use Rattle.aff_model.specs.declared.publication.Place.{Place}
use Rattle.aff_model.specs.declared.publication.Place.TheVariants.{Chunk}
use Rattle.aff_model.specs.History.{Part}
use Rattle.aff_model.specs.Legal.{Fits}
use Rattle.aff_model.specs.Plan.{Planned, chunk_count}
use Rattle.aff_spec.specs.Chunks.{chunk_at, padded}
use Rattle.aff_spec.proofs.Chunks.{chunk_byte, length-chunk_at}
use Rattle.aff_image.specs.Sound.{IsPlaceIn, IsSound}
use Rattle.aff_snapshot.specs.Sound.{IsSoundIn}

-- the element of a list of one
only_at : (x s k : ℕ) → k < 1 → get_or (x ∷ []) k s ≡ s → s ≡ x
only_at x s zero low is = sym is
only_at x s (suc k) low is = absurd (omega (arith, low))

only_in : (x s : ℕ) → Contains (x ∷ []) s → s ≡ x
only_in x s has = only_at x s has.0 has.1 has.2

first_in : (x : ℕ) → Contains (x ∷ []) x
first_in x = (0, omega arith, refl)

-- a list of one sector
one_inside : (n x k d : ℕ) → x < n → k < 1 → get_or (x ∷ []) k d < n
one_inside n x zero d low within = low
one_inside n x (suc k) d low within = absurd (omega (arith, within))

one_fits : (e : Extent) (x : ℕ) → x < e.len / 512 → Fits None 512 e (x ∷ [])
one_fits e x low = record {
  rising = λ k within. absurd (omega (arith, within));
  inside = λ k d within. one_inside (e.len / 512) x k d low within;
  together = λ s t has low-t one. (let same : s ≡ t = omega (arith, one) in subst (λ n. Contains (x ∷ []) n) same has);
  weak = tt;
  every_bad = tt;
}

-- a chunk of which only a front is no padding
pad_byte : (bytes : List ℕ) (k : ℕ) → length bytes ≤ k → k < 32768 → get_or (padded bytes) k 0 ≡ 0
unfolding padded
pad_byte bytes k from to =
    get_or-append_right bytes (replicate (32768 - length bytes) 0) (length bytes) k 0 refl from ∙ get_or-replicate (32768 - length bytes) (k - length bytes) 0 0 (omega (arith, from, to))

chunk_same : (chunk : List ℕ) (n : ℕ) → length chunk ≡ 32768 → n ≤ 32768 → ((k : ℕ) → n ≤ k → k < 32768 → get_or chunk k 0 ≡ 0) → chunk_at (take n chunk) 0 ≡ chunk
chunk_same chunk n len few zeros =
    let front = take n chunk in
    let count : length front ≡ n = omega (arith, length-take n chunk, len, few) in
    let part = take 32768 (drop (32768 * 0) front) in
    let short : length part ≡ n = omega (arith, length-take 32768 (drop (32768 * 0) front), length-drop (32768 * 0) front, count, few) in
    ext_get_or 0 (chunk_at front 0) chunk (length-chunk_at front 0 ∙ sym len) (λ k below.
    let low : k < 32768 = omega (arith, below, length-chunk_at front 0) in
    elim (leb_tells n k) [
      | inl x ↦ pad_byte part k (omega (arith, short, x.1)) low ∙ sym (zeros k x.1 low)
      | inr y ↦ get_or_from_slice_get (chunk_at front 0) k (get_or front (32768 * 0 + k) 0) 0 (chunk_byte front 0 k low (omega (arith, count, y.1))) ∙ get_or-take n chunk (32768 * 0 + k) 0 (omega (arith, y.1)) ∙ ap (λ i. get_or chunk i 0) (omega arith)
    ])

-- a piece of two sectors, the second of which could not be read
abbrev pub half : {R : Type 0} → ℕ → R → List ℕ → Part R
half extent receipt chunk = record { extent = extent; claimant = 0; swept = false; bad = 1 ∷ []; places = Chunk 0 ∷ []; digests = sha256 chunk ∷ []; receipts = receipt ∷ [] }

half_placed : (e : Extent) (bytes : List ℕ) (j : ℕ) (d : Place) → e.len ≡ 1024 → j < 1 → IsPlaceIn e bytes (1 ∷ []) j (slice_index_or (Chunk 0 ∷ []) j d)
half_placed e bytes zero d len within = (
  (λ none. let wrong : 0 ≡ 1 = only_in 1 0 (none 0 (record { from = omega arith; to = omega arith; inside = omega (arith, len) })) in absurd (omega (arith, wrong))),
  (λ all. all.0 1 (record { from = omega arith; to = omega arith; inside = omega (arith, len) }) (first_in 1)),
)
half_placed e bytes (suc j) d len within = absurd (omega (arith, within))

pub half_sound : (tells : Bool) {R : Type 0} (told : R → List ℕ) (extent : ℕ) (receipt : R) (chunk : List ℕ) (e : Extent) → e.len ≡ 1024 → length chunk ≡ 32768 → ((k : ℕ) → 512 ≤ k → k < 32768 → get_or chunk k 0 ≡ 0)
    → (IsTrue tells → told receipt ≡ chunk) → IsSound None 512 e tells told (half extent receipt chunk)
half_sound tells told extent receipt chunk e len long zeros is =
    let same = chunk_same chunk 1024 long (omega arith) (λ k from to. zeros k (omega (arith, from)) to) in
    let count : length (take 1024 chunk) ≡ 1024 = omega (arith, length-take 1024 chunk, long) in
    record {
      bytes = take 1024 chunk;
      reading = record {
        len = count ∙ sym len;
        fits = one_fits e 1 (omega (arith, len));
        known = tt;
        zero = λ k within has. (let sector = only_in 1 (k / 512) has in get_or-take 1024 chunk k 0 (omega (arith, within, count)) ∙ zeros k (omega (arith, sector)) (omega (arith, within, count)));
        count = sym (ap chunk_count len);
        placed = λ j d within. half_placed e (take 1024 chunk) j d len within;
      };
      digests = ap (λ c. sha256 c ∷ []) (sym same);
      receipts = refl;
      told_chunks = λ t. ap (λ c. c ∷ []) (is t ∙ sym same);
    }

-- a sound piece of an extent of a plan
pub sound_in : (plan : Planned) (tells : Bool) {R : Type 0} (told : R → List ℕ) (p : Part R) (n : ℕ) (e : Extent) → p.extent ≡ n → slice_get plan.extents n ≡ Some e → plan.block ≡ 512 → IsSound None 512 e tells told p → IsSoundIn None plan tells told p
sound_in plan tells told p n e of planned block sound =
    subst (λ o. MatchOption o ⊥ (λ x. IsSound None plan.block x tells told p)) (sym (ap (slice_get plan.extents) of ∙ planned)) (subst (λ b. IsSound None b e tells told p) (sym block) sound)

pub one_only : {X : Type 0} (P : X → Type 0) (x : X) → P x → All P (x ∷ [])
one_only P x h zero d low = h
one_only P x h (suc k) d low = absurd (omega (arith, low))

pub three_only : {X : Type 0} (P : X → Type 0) (x y z : X) → P x → P y → P z → All P (x ∷ y ∷ z ∷ [])
three_only P x y z a b c zero d low = a
three_only P x y z a b c (suc zero) d low = b
three_only P x y z a b c (suc (suc zero)) d low = c
three_only P x y z a b c (suc (suc (suc k))) d low = absurd (omega (arith, low))

-- what follows of an answer that is none where it is refused
pub if_ok : {T E : Type 0} (r : Result T E) (P Q : T → Type 0) → ((x : T) → P x → Q x) → IfOk r P → IfOk r Q
if_ok (Ok x) P Q f h = f x h
if_ok (Err e) P Q f h = tt
