-- Entries that share no byte, in the map's order and sorted by their places.
use Rattle.std.proofs.Common.{◌≡◌, ℕ, ◌+◌, ◌-◌, ◌^◌, ◌<◌, ◌≤◌, inl, inr, Bool, true, false, ◌&&◌, nat_lt, List, [], ◌∷◌, ◌++◌, length, get_or, take, sym, subst, ◌∙◌, arith, All, AllPairs}
use Rattle.std.specs.List.Sorted.{IsPermutation, IsNonDecreasingBy}
use Rattle.std.proofs.lemmas.Bool.{false≢true}
use Rattle.std.proofs.lemmas.Bool.Decides.{leb_tells, nat_tests}
use Rattle.std.proofs.lemmas.List.{get_or_default, get_or-take, length-take-le, take_more}
use Rattle.std.proofs.lemmas.List.Quantifiers.{all_pairs_push}
use Rattle.std.proofs.lemmas.Map.Keys.{IsDistinct-from_apart, IsDistinct-IsPermutation, apart_from_distinct}
use Rattle.aff_fields.specs.declared.entry.Entry.{Entry}
use Rattle.aff_map.specs.Mapped.{AreApart, HasBytes, IsEntry}
use Rattle.aff_map.specs.Refusals.{no_entry, entry_at}
use Rattle.aff_map.specs.declared.target.Target.{Target}

-- whether two entries share a byte
abbrev shares : Entry → Entry → Bool
shares e f = nat_lt f.at (e.at + e.len) && nat_lt e.at (f.at + f.len)

shares-flips : (e f : Entry) → shares e f ≡ shares f e
shares-flips e f = grind (arith, nat_tests)

shares-apart : (e f : Entry) → AreApart e f → shares e f ≡ false
shares-apart e f h = elim h [ inl x ↦ grind (arith, nat_tests) | inr y ↦ grind (arith, nat_tests) ]

shares-meeting : (e f : Entry) → f.at < e.at + e.len → e.at < f.at + f.len → shares e f ≡ true
shares-meeting e f x y = grind (arith, nat_tests)

apart-from_shares : (e f : Entry) → shares e f ≡ false → AreApart e f
apart-from_shares e f h = elim (leb_tells (e.at + e.len) f.at) [
  | inl x ↦ inl x.1
  | inr x ↦ elim (leb_tells (f.at + f.len) e.at) [
    | inl y ↦ inr y.1
    | inr y ↦ absurd (false≢true (sym h ∙ shares-meeting e f x.1 y.1))
  ]
]

-- the order does not matter
pub apart-permutation : (xs ys : List Entry) → IsPermutation xs ys → AllPairs AreApart xs → AllPairs AreApart ys
apart-permutation xs ys p apart i j d below inside =
    let distinct = IsDistinct-from_apart shares xs (λ i j d b l. shares-apart (get_or xs i d) (get_or xs j d) (apart i j d b l)) in
    apart-from_shares (get_or ys i d) (get_or ys j d) (apart_from_distinct shares ys i j d (IsDistinct-IsPermutation shares shares-flips xs ys p distinct) below inside)

not_less : {a b : ℕ} → ¬ (a < b) → b ≤ a
not_less {a} {b} h = elim (leb_tells b a) [ inl x ↦ x.1 | inr y ↦ absurd (h y.1) ]

-- each of the first n entries ends before the next one begins
abbrev pub Rises : List Entry → ℕ → Type 0
Rises es n = (k : ℕ) → k + 1 < n → (entry_at es k).at + (entry_at es k).len ≤ (entry_at es (k + 1)).at

-- then an entry ends before any later one begins
ends_before : (es : List Entry) → IsNonDecreasingBy (λ e. e.at) es → Rises es (length es) → (i j : ℕ) → i < j → j < length es → (entry_at es i).at + (entry_at es i).len ≤ (entry_at es j).at
ends_before es sorted rises i j b l = omega (arith, rises i (omega arith), sorted (i + 1) j no_entry (omega arith) l)

pub apart-from_rises : (es : List Entry) → IsNonDecreasingBy (λ e. e.at) es → Rises es (length es) → AllPairs AreApart es
apart-from_rises es sorted rises i j d b l =
    let before : i < length es = omega arith in
    rw (get_or_default es i d no_entry before, get_or_default es j d no_entry l) (inl (ends_before es sorted rises i j b l))

-- one entry more that does not begin early
pub rises-more : (es : List Entry) (k : ℕ) → 1 ≤ k → Rises es k → ¬ ((entry_at es k).at < (entry_at es (k - 1)).at + (entry_at es (k - 1)).len) → Rises es (k + 1)
rises-more es k some rises late j b = elim (leb_tells k (j + 1)) [
  | inl x ↦ (let last : k - 1 ≡ j = omega (arith, x.1, b) in
      let next : k ≡ j + 1 = omega (arith, x.1, b) in
      let P : ℕ → ℕ → Type 0 = λ m n. ¬ ((entry_at es n).at < (entry_at es m).at + (entry_at es m).len) in
      let late_at : P j (j + 1) = subst (λ n. P j n) next (subst (λ m. P m k) last late) in
      not_less late_at)
  | inr y ↦ rises j y.1
]

-- two neighbours that are not apart
pub meet-not_apart : (es : List Entry) → IsNonDecreasingBy (λ e. e.at) es → All HasBytes es → (k : ℕ) → 1 ≤ k → k < length es → (entry_at es k).at < (entry_at es (k - 1)).at + (entry_at es (k - 1)).len → ¬ (AllPairs AreApart es)
meet-not_apart es sorted bytes k some l meet apart =
    let up = sorted (k - 1) k no_entry (omega arith) l in
    let has = bytes k no_entry l in
    elim (apart (k - 1) k no_entry (omega arith) l) [
      | inl x ↦ omega (arith, x, meet)
      | inr y ↦ omega (arith, y, up, has.0)
    ]

-- one more entry that shares no byte with those before it
pub apart-more : (es : List Entry) (j : ℕ) → j < length es → AllPairs AreApart (take j es) → ((k : ℕ) → k < j → AreApart (entry_at es k) (entry_at es j)) → AllPairs AreApart (take (j + 1) es)
apart-more es j b before with_last =
    rw (take_more es j no_entry b)
    (all_pairs_push AreApart (take j es) (entry_at es j) before
    (λ k d l.
    let n : length (take j es) ≡ j = length-take-le j es (omega arith) in
    let kj : k < j = omega arith in
    let inside : k < length es = omega arith in
    rw (get_or-take j es k d kj, get_or_default es k d no_entry inside) (with_last k kj)))

-- entries that lie in an image have bytes
pub has_bytes : (size stream_size : ℕ) (targets : List Target) (es : List Entry) → size < 2 ^ 64 → All (IsEntry size stream_size targets) es → All HasBytes es
has_bytes size stream_size targets es small each k d b =
    let e = each k d b in
    (e.some, omega (arith, e.inside))

-- what holds of the entry of each number
pub all_entries : (P : Entry → Type 0) (es : List Entry) → ((k : ℕ) → k < length es → P (entry_at es k)) → All P es
all_entries P es each k d b = subst P (sym (get_or_default es k d no_entry b)) (each k b)
