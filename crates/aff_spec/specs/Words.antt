-- UUIDs as texts.
use Rattle.std.specs.Prelude.{ℕ, ◌+◌, ◌==◌, Bool, ◌&&◌, ◌||◌, nat_le, List, [], ◌∷◌, if◌then◌else◌}

-- a hexadecimal digit of either case
abbrev pub is_hex : ℕ → Bool
is_hex b = (nat_le 48 b && nat_le b 57) || ((nat_le 65 b && nat_le b 70) || (nat_le 97 b && nat_le b 102))

-- the places behind 8, 4, 4 and 4 digits
abbrev pub is_dash_place : ℕ → Bool
is_dash_place k = k == 8 || (k == 13 || (k == 18 || k == 23))

-- the byte may stand at the place of a uuid
abbrev pub fits_uuid : ℕ → ℕ → Bool
fits_uuid k b = if is_dash_place k then b == 45 else is_hex b

-- these are the bytes of a uuid from place k on
abbrev pub uuid_from : ℕ → List ℕ → Bool
uuid_from k [] = k == 36
uuid_from k (b ∷ bytes) = fits_uuid k b && uuid_from (k + 1) bytes

-- a uuid: 36 bytes, `-` in four places and hexadecimal digits in all others
abbrev pub is_uuid : List ℕ → Bool
is_uuid bytes = uuid_from 0 bytes
