-- The values of statements.
use Rattle.std.specs.Prelude.{ℕ, ◌^◌, Bool, ◌&&◌, ◌||◌, nat_lt, List, Option, Some, None, if◌then◌else◌}
use Rattle.std.specs.Fmt.{decimal}
use Rattle.std.specs.Result.{result_ok}
use Rattle.std.specs.Str.{bytes_eq}
use Rattle.std.specs.Str.Parse.{digits_value}
use Rattle.hex.specs.Hex.{decode_sized}
use Rattle.aff_turtle.specs.Triples.{Term, Resource, Literal}
use Rattle.aff_info.specs.Schema.{zero_data, unknown_data, unreadable_data, xsd_int, xsd_integer, xsd_long, xsd_unsigned_long, xsd_string}
use Rattle.aff_map.specs.declared.target.Target.{Target}
use Rattle.aff_map.specs.declared.target.Target.TheVariants as targets

abbrev pub is_number_type : List ℕ → Bool
is_number_type datatype =
    bytes_eq datatype xsd_int || bytes_eq datatype xsd_integer || bytes_eq datatype xsd_long
    || bytes_eq datatype xsd_unsigned_long || bytes_eq datatype xsd_string

-- the number that a text is in decimal, without a sign or leading zeros, if it fits 64 bits
unfoldable pub number_in : List ℕ → Option ℕ
number_in text = let n = digits_value 10 text in if nat_lt n (2 ^ 64) && bytes_eq (decimal n) text then Some n else None

-- the number that a literal states
abbrev pub stated_number : Term → Option ℕ
stated_number (Resource iri) = None
stated_number (Literal text datatype lang) = if is_number_type datatype then number_in text else None

-- the gap that an object names
abbrev pub gap_of : Term → Option Target
gap_of (Resource iri) =
    if bytes_eq iri zero_data then Some targets.Zero
    else if bytes_eq iri unknown_data then Some targets.Unknown
    else if bytes_eq iri unreadable_data then Some targets.Unreadable
    else None
gap_of (Literal text datatype lang) = None

-- a digest of so many bytes, in hexadecimal digits of either case
abbrev pub digest_value : ℕ → Term → Option (List ℕ)
digest_value size (Resource iri) = None
digest_value size (Literal text datatype lang) = result_ok (decode_sized text size)
