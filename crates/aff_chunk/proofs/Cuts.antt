-- Cuts by parts of the bytes and of the marks.
use Rattle.std.proofs.Common.{◌≡◌, ℕ, ◌+◌, ◌-◌, ◌*◌, ◌/◌, ◌<◌, ◌≤◌, Bool, true, false, List, [], ◌∷◌, ◌++◌, length, take, drop, get_or, refl, sym, ap, ◌∙◌, subst, arith, inl, inr, length-take, length-drop}
use Rattle.std.specs.List.{All}
use Rattle.std.proofs.lemmas.List.{get_or_append_left, get_or_default, get_or-drop, get_or_push, get_or-take, length_push}
use Rattle.std.proofs.lemmas.Bool.{cases_lt}
use Rattle.aff_model.specs.declared.extent.Extent.{Extent}
use Rattle.aff_model.specs.Legal.{AllRead, NoneRead}
use Rattle.aff_chunk.specs.declared.kind.Cut.{Cut}
use Rattle.aff_chunk.specs.declared.kind.Cut.TheVariants.{Zero, Stored, Nothing}
use Rattle.aff_spec.specs.Chunks.{IsZeroPart}
use Rattle.aff_chunk.specs.Cut.{AreMarks, IsCutBy, IsCutOf}

get_or-part : {X : Type 0} (xs : List X) (n a k : ℕ) (d : X) → k < n → get_or (take n (drop a xs)) k d ≡ get_or xs (a + k) d
get_or-part xs n a k d below = get_or-take n (drop a xs) k d below ∙ get_or-drop a xs k d

length-part : {X : Type 0} (xs : List X) (n a : ℕ) → (k : ℕ) → k < n → a + k < length xs → k < length (take n (drop a xs))
length-part xs n a k below inside = omega (arith, length-take n (drop a xs), length-drop a xs)

in_part : {X : Type 0} (xs : List X) (n a k : ℕ) → k < length (take n (drop a xs)) → (k < n) × (a + k < length xs)
in_part xs n a k below = (omega (arith, length-take n (drop a xs), length-drop a xs), omega (arith, length-take n (drop a xs), length-drop a xs))

-- all elements of a part, by their places in the whole
all_of_part : {X : Type 0} (P : X → Type 0) (xs : List X) (n a : ℕ) (d : X) → All P (take n (drop a xs)) → (s : ℕ) → a ≤ s → s < a + n → s < length xs → P (get_or xs s d)
all_of_part {X} P xs n a d all s low high inside =
    let place : a + (s - a) ≡ s = omega arith in
    let below : s - a < n = omega arith in
    let here : a + (s - a) < length xs = omega arith in
    let same : get_or (take n (drop a xs)) (s - a) d ≡ get_or xs s d = get_or-part xs n a (s - a) d below ∙ ap (λ k. get_or xs k d) place in
    subst P same (all (s - a) d (length-part xs n a (s - a) below here))

part_of_all : {X : Type 0} (P : X → Type 0) (xs : List X) (n a : ℕ) (d : X) → ((s : ℕ) → a ≤ s → s < a + n → s < length xs → P (get_or xs s d)) → All P (take n (drop a xs))
part_of_all {X} P xs n a d each k e below =
    let in_it = in_part xs n a k below in
    let same : get_or (take n (drop a xs)) k e ≡ get_or xs (a + k) d = get_or-part xs n a k e in_it.0 ∙ get_or_default xs (a + k) e d in_it.1 in
    subst P (sym same) (each (a + k) (omega arith) (omega (arith, in_it.0)) in_it.1)

false_from : (b : Bool) → ¬ (b ≡ true) → b ≡ false
false_from true h = absurd (h refl)
false_from false h = refl

not_both : (b : Bool) → b ≡ false → ¬ (b ≡ true)
not_both b h k = cc

none_read : (e : Extent) (bad : List ℕ) (marks : List Bool) (j : ℕ) → AreMarks bad (e.len / 512) marks → All (λ m. m ≡ true) (take 64 (drop (64 * j) marks)) → NoneRead e bad j
none_read e bad marks j are all s of =
    (are.marked s of.inside).0 (all_of_part (λ m. m ≡ true) marks 64 (64 * j) false all s of.from of.to (omega (arith, are.count, of.inside)))

marked_of_none_read : (e : Extent) (bad : List ℕ) (marks : List Bool) (j : ℕ) → AreMarks bad (e.len / 512) marks → NoneRead e bad j → All (λ m. m ≡ true) (take 64 (drop (64 * j) marks))
marked_of_none_read e bad marks j are none =
    part_of_all (λ m. m ≡ true) marks 64 (64 * j) false (λ s from to inside.
    let within : s < e.len / 512 = omega (arith, are.count, inside) in
    (are.marked s within).1 (none s (record { from = from; to = to; inside = within })))

all_read : (e : Extent) (bad : List ℕ) (marks : List Bool) (j : ℕ) → AreMarks bad (e.len / 512) marks → All (λ m. m ≡ false) (take 64 (drop (64 * j) marks)) → AllRead e bad j
all_read e bad marks j are all s of c =
    not_both (get_or marks s false) (all_of_part (λ m. m ≡ false) marks 64 (64 * j) false all s of.from of.to (omega (arith, are.count, of.inside))) ((are.marked s of.inside).1 c)

clear_of_all_read : (e : Extent) (bad : List ℕ) (marks : List Bool) (j : ℕ) → AreMarks bad (e.len / 512) marks → AllRead e bad j → All (λ m. m ≡ false) (take 64 (drop (64 * j) marks))
clear_of_all_read e bad marks j are read =
    part_of_all (λ m. m ≡ false) marks 64 (64 * j) false (λ s from to inside.
    let within : s < e.len / 512 = omega (arith, are.count, inside) in
    false_from (get_or marks s false) (λ marked. read s (record { from = from; to = to; inside = within }) ((are.marked s within).0 marked)))

zero_part : (bytes : List ℕ) (j : ℕ) → All (λ b. b ≡ 0) (take 32768 (drop (32768 * j) bytes)) → IsZeroPart bytes j
zero_part bytes j all k from to inside = all_of_part (λ b. b ≡ 0) bytes 32768 (32768 * j) 0 all k from to inside

zeros_of_part : (bytes : List ℕ) (j : ℕ) → IsZeroPart bytes j → All (λ b. b ≡ 0) (take 32768 (drop (32768 * j) bytes))
zeros_of_part bytes j zeros = part_of_all (λ b. b ≡ 0) bytes 32768 (32768 * j) 0 zeros

pub IsCutOf-parts : (e : Extent) (bytes bad : List ℕ) (marks : List Bool) (j : ℕ) (c : Cut) → AreMarks bad (e.len / 512) marks → IsCutBy (take 32768 (drop (32768 * j) bytes)) (take 64 (drop (64 * j) marks)) c → IsCutOf e bytes bad j c
IsCutOf-parts e bytes bad marks j Nothing are by = none_read e bad marks j are by
IsCutOf-parts e bytes bad marks j Zero are by = (all_read e bad marks j are by.0, zero_part bytes j by.1)
IsCutOf-parts e bytes bad marks j Stored are by = (
  λ none. by.0 (marked_of_none_read e bad marks j are none),
  λ both. by.1 (clear_of_all_read e bad marks j are both.0, zeros_of_part bytes j both.1),
)

-- the next cut, by what the code reads
pub IsCutOf-read : (bytes bad : List ℕ) (marks seen : List Bool) (chunk : List ℕ) (sectors : List Bool) (j : ℕ) (c : Cut) → AreMarks bad (length bytes / 512) marks → seen ≡ marks → chunk ≡ take 32768 (drop (32768 * j) bytes) → sectors ≡ take 64 (drop (64 * j) seen)
    → IsCutBy chunk sectors c → (e : Extent) → e.len ≡ length bytes → IsCutOf e bytes bad j c
IsCutOf-read bytes bad marks seen chunk sectors j c are read is_chunk is_sectors by e long =
    IsCutOf-parts e bytes bad marks j c (subst (λ n. AreMarks bad (n / 512) marks) (sym long) are)
    (subst (λ (ms : List Bool). IsCutBy (take 32768 (drop (32768 * j) bytes)) ms c) (is_sectors ∙ ap (λ (ms : List Bool). take 64 (drop (64 * j) ms)) read)
    (subst (λ (bs : List ℕ). IsCutBy bs sectors c) is_chunk by))

pub each_push : (bytes bad : List ℕ) (cuts : List Cut) (c : Cut) (n : ℕ) → length cuts ≡ n
    → ((e : Extent) (j : ℕ) (d : Cut) → e.len ≡ length bytes → j < length cuts → IsCutOf e bytes bad j (get_or cuts j d))
    → ((e : Extent) → e.len ≡ length bytes → IsCutOf e bytes bad n c)
    → (e : Extent) (j : ℕ) (d : Cut) → e.len ≡ length bytes → j < length (cuts ++ c ∷ []) → IsCutOf e bytes bad j (get_or (cuts ++ c ∷ []) j d)
each_push bytes bad cuts c n count each last e j d long below =
    let more : length (cuts ++ c ∷ []) ≡ length cuts + 1 = length_push cuts c in
    elim (cases_lt j (length cuts)) [
      | inl inner ↦ subst (IsCutOf e bytes bad j) (sym (get_or_append_left cuts (c ∷ []) d j inner)) (each e j d long inner)
      | inr outer ↦
          let at_end : length cuts ≡ j = omega arith in
          let same : n ≡ j = omega (arith, count, at_end) in
          subst (IsCutOf e bytes bad j) (sym (get_or_push cuts c d j at_end)) (subst (λ k. IsCutOf e bytes bad k c) same (last e long))
    ]
