-- What a folder's list of lengths says of the segment with a name.
use Rattle.std.proofs.Common.{◌≡◌, ℕ, ◌+◌, ◌≤◌, List, [], ◌∷◌, ◌++◌, length, take, drop, map, refl, sym, ap, ◌∙◌, arith, true, false}
use Rattle.std.proofs.lemmas.Grind.{common_steps}
use Rattle.std.specs.Prelude.{Option, Some, None, option_map, cond, unwrap_or, IsSomeAnd}
use Rattle.std.specs.Ordering.{nat_cmp, eq_by_cmp}
use Rattle.std.specs.Cmp.Lexicographic.{slice_cmp}
use Rattle.std.specs.FinMap.{find, get, entries, get-entries}
use Rattle.aff_model.specs.Held.{Held, bytes_of, IsInside, lengths}

find-lengths : (name : List ℕ) (es : List (List ℕ × List ℕ)) → find (slice_cmp nat_cmp) name (map (λ e. (e.0, length e.1)) es) ≡ option_map length (find (slice_cmp nat_cmp) name es)
find-lengths name [] = refl
find-lengths name (e ∷ es) =
    elim (eq_by_cmp (slice_cmp nat_cmp) name e.0) as (λ b. cond b (Some (length e.1)) (find (slice_cmp nat_cmp) name (map (λ e. (e.0, length e.1)) es)) ≡ option_map length (cond b (Some e.1) (find (slice_cmp nat_cmp) name es))) [
      | true ↦ refl
      | false ↦ find-lengths name es
    ]

listed : (held : Held) (name : List ℕ) → find (slice_cmp nat_cmp) name (lengths held) ≡ option_map length (get held name)
listed held name = find-lengths name (entries held) ∙ ap (option_map length) (sym (get-entries held name))

no_length : (o : Option (List ℕ)) → None ≡ option_map length o → o ≡ None
no_length None e = refl
no_length (Some bytes) e = absurd (cc e)

pub not_listed : (held : Held) (name : List ℕ) → find (slice_cmp nat_cmp) name (lengths held) ≡ None → get held name ≡ None
not_listed held name e = no_length _ (sym e ∙ listed held name)

a_length : (o : Option (List ℕ)) (len : ℕ) → Some len ≡ option_map length o → (bytes : List ℕ) × (o ≡ Some bytes) × (length bytes ≡ len)
a_length None len e = absurd (cc e)
a_length (Some bytes) len e = (bytes, refl, cc e)

-- the bytes of a segment whose length is listed
pub listed_bytes : (held : Held) (name : List ℕ) (len : ℕ) → find (slice_cmp nat_cmp) name (lengths held) ≡ Some len → (bytes : List ℕ) × (get held name ≡ Some bytes) × (length bytes ≡ len)
listed_bytes held name len e = a_length _ len (sym e ∙ listed held name)

inside : (o : Option (List ℕ)) (bytes : List ℕ) (len : ℕ) → o ≡ Some bytes → length bytes ≡ len → IsSomeAnd o (λ bytes. 0 + len ≤ length bytes)
inside None bytes len e l = absurd (cc e)
inside (Some own) bytes len e l = let same : own ≡ bytes = cc e in rw same (omega arith)

pub all_inside : (held : Held) (name : List ℕ) (len : ℕ) → find (slice_cmp nat_cmp) name (lengths held) ≡ Some len → IsInside held name 0 len
all_inside held name len e = let b = listed_bytes held name len e in inside _ b.0 len b.1 b.2

read_back : (bytes out room : List ℕ) (len : ℕ) → length bytes ≡ len → length out ≡ len → length room ≡ len → out ≡ take len (drop 0 bytes) → take len (out ++ drop (length out) room) ≡ bytes
read_back bytes out room len b o r e = grind (arith, common_steps)

-- all bytes of a segment, read into a buffer of the listed length
pub read_whole : (held : Held) (name out room : List ℕ) (len : ℕ) → find (slice_cmp nat_cmp) name (lengths held) ≡ Some len → length out ≡ len → length room ≡ len
    → out ≡ take len (drop 0 (bytes_of held name)) → Some (take len (out ++ drop (length out) room)) ≡ get held name
read_whole held name out room len e o r is =
    let b = listed_bytes held name len e in
    let own : bytes_of held name ≡ b.0 = ap (λ o. unwrap_or o []) b.1 in
    ap Some (read_back b.0 out room len b.2 o r (is ∙ ap (λ v. take len (drop 0 v)) own)) ∙ sym b.1
