-- Segments of a known length.
use Rattle.std.proofs.Common.{◌≡◌, ℕ, ◌+◌, ◌≤◌, List, [], ◌++◌, length, take, drop, refl, ap, ◌∙◌, arith}
use Rattle.std.specs.Prelude.{Option, Some, None, option_map, unwrap_or, IsSome, IsSomeAnd}
use Rattle.std.specs.FinMap.{get}
use Rattle.aff_model.specs.Held.{Held, bytes_of, IsInside}
use Rattle.aff_outside.proofs.Listed.{read_whole}
use Rattle.aff_bevvy.specs.Segments.{held_length}
use Rattle.aff_volume.proofs.Listing.{listed_name}

length_known : (o : Option (List ℕ)) (n : ℕ) → option_map length o ≡ Some n → length (unwrap_or o []) ≡ n
length_known None n is = absurd cc
length_known (Some bytes) n is = cc

pub room_known : (held : Held) (name : List ℕ) (n : ℕ) → held_length held name ≡ Some n → length (bytes_of held name) ≡ n
room_known held name n is = length_known (get held name) n is

-- a segment whose length is known is there
pub get_known : (o : Option (List ℕ)) (n : ℕ) → option_map length o ≡ Some n → o ≡ Some (unwrap_or o [])
get_known None n is = absurd cc
get_known (Some bytes) n is = refl

-- what is there has its length
length_there : (o : Option (List ℕ)) (n : ℕ) → IsSome o → length (unwrap_or o []) ≡ n → option_map length o ≡ Some n
length_there None n there is = absurd cc
length_there (Some bytes) n there is = ap Some is

pub known_length : (held : Held) (name : List ℕ) (n : ℕ) → IsSome (get held name) → length (bytes_of held name) ≡ n → held_length held name ≡ Some n
known_length held name n there is = length_there (get held name) n there is

inside_known : (o : Option (List ℕ)) (n at len : ℕ) → option_map length o ≡ Some n → at + len ≤ n → IsSomeAnd o (λ bytes. at + len ≤ length bytes)
inside_known None n at len is low = absurd cc
inside_known (Some bytes) n at len is low = let same : length bytes ≡ n = cc in omega (arith, same, low)

-- a range lies in a segment that is long enough
pub is_inside : (held : Held) (name : List ℕ) (n at len : ℕ) → held_length held name ≡ Some n → at + len ≤ n → IsInside held name at len
is_inside held name n at len is low = inside_known (get held name) n at len is low

-- all bytes of a segment, read into a buffer of its length
pub whole_read : (held : Held) (name out room : List ℕ) (len : ℕ) → held_length held name ≡ Some len → length out ≡ len → length room ≡ len
    → out ≡ take len (drop 0 (bytes_of held name)) → take len (out ++ drop (length out) room) ≡ bytes_of held name
whole_read held name out room len is o r read =
    ap (λ v. unwrap_or v []) (read_whole held name out room len (listed_name held name ∙ is) o r read)
