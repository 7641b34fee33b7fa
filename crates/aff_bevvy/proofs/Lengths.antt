-- The lengths of a folder's segments.
use Rattle.std.proofs.Common.{◌≡◌, ℕ, ◌+◌, ◌≤◌, List, [], ◌∷◌, length, map, true, false, cond, refl, sym, ap, ◌∙◌, arith}
use Rattle.std.specs.Prelude.{Option, Some, None, option_map, unwrap_or, IsSomeAnd}
use Rattle.std.specs.Ordering.{nat_cmp, eq_by_cmp}
use Rattle.std.specs.Cmp.Lexicographic.{slice_cmp}
use Rattle.std.specs.FinMap.{find, entries, get-entries}
use Rattle.aff_model.specs.Held.{Held, bytes_of, lengths, IsInside}
use Rattle.aff_bevvy.specs.Segments.{held_length, listed_length}

-- a list of a folder's segments tells their lengths
find-lengths : (name : List ℕ) (es : List (List ℕ × List ℕ)) → find (slice_cmp nat_cmp) name (map (λ e. (e.0, length e.1)) es) ≡ option_map length (find (slice_cmp nat_cmp) name es)
find-lengths name [] = refl
find-lengths name (e ∷ es) =
    elim (eq_by_cmp (slice_cmp nat_cmp) name e.0) as (λ b. cond b (Some (length e.1)) (find (slice_cmp nat_cmp) name (map (λ e. (e.0, length e.1)) es)) ≡ option_map length (cond b (Some e.1) (find (slice_cmp nat_cmp) name es))) [
      | true ↦ refl
      | false ↦ find-lengths name es
    ]

listed_name : (held : Held) (name : List ℕ) → listed_length (lengths held) name ≡ held_length held name
listed_name held name = find-lengths name (entries held) ∙ ap (option_map length) (sym (get-entries held name))

pub listed_held : (held : Held) (segments : List (List ℕ × ℕ)) → segments ≡ lengths held → listed_length segments ≡ held_length held
listed_held held segments is = ap listed_length is ∙ (λ i name. listed_name held name i)

-- the bytes of a segment whose length is known
pub length_known : (o : Option (List ℕ)) (n : ℕ) → option_map length o ≡ Some n → length (unwrap_or o []) ≡ n
length_known None n is = absurd (cc is)
length_known (Some bytes) n is = cc is

pub room_known : (held : Held) (name : List ℕ) (n : ℕ) → held_length held name ≡ Some n → length (bytes_of held name) ≡ n
room_known held name n is = length_known _ n is

inside_known : (o : Option (List ℕ)) (n at len : ℕ) → option_map length o ≡ Some n → at + len ≤ n → IsSomeAnd o (λ bytes. at + len ≤ length bytes)
inside_known None n at len is low = absurd (cc is)
inside_known (Some bytes) n at len is low = let same : length bytes ≡ n = cc is in omega (arith, same, low)

pub is_inside : (held : Held) (name : List ℕ) (n at len : ℕ) → held_length held name ≡ Some n → at + len ≤ n → IsInside held name at len
is_inside held name n at len is low = inside_known _ n at len is low

-- a segment that is there has all of its bytes
inside_all : (o : Option (List ℕ)) (at len : ℕ) (P : ℕ → Type 0) → IsSomeAnd (option_map length o) P → at + len ≤ length (unwrap_or o []) → IsSomeAnd o (λ bytes. at + len ≤ length bytes)
inside_all None at len P some low = absurd some
inside_all (Some bytes) at len P some low = low

pub is_inside_own : (held : Held) (name : List ℕ) (at len : ℕ) (P : ℕ → Type 0) → IsSomeAnd (held_length held name) P → at + len ≤ length (bytes_of held name) → IsInside held name at len
is_inside_own held name at len P some low = inside_all _ at len P some low

-- and what holds of its length
length_of_some : (o : Option (List ℕ)) (P : ℕ → Type 0) → IsSomeAnd (option_map length o) P → P (length (unwrap_or o []))
length_of_some None P some = absurd some
length_of_some (Some bytes) P some = some

pub length_is : (held : Held) (name : List ℕ) (P : ℕ → Type 0) → IsSomeAnd (held_length held name) P → P (length (bytes_of held name))
length_is held name P some = length_of_some _ P some
