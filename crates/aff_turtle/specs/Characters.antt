-- Kinds of characters, and how far a run of one kind goes.
use Rattle.std.specs.Prelude.{ℕ, Bool, not, ◌&&◌, ◌||◌, ◌==◌, nat_le, nat_lt, ◌+◌, List, [], ◌∷◌, slice_index, if◌then◌else◌}
use Rattle.aff_turtle.specs.Codes as code
use Rattle.aff_turtle.specs.declared.class.Class.{Class}
use Rattle.aff_turtle.specs.declared.class.Class.TheVariants.{Name, Digit, Iri, Scheme, Letter, Tag, Local, Comment}

-- A-Z, a-z
unfoldable pub is_letter : ℕ → Bool
is_letter c = (nat_le code.upper_a c && nat_le c code.upper_z) || (nat_le code.lower_a c && nat_le c code.lower_z)

-- 0-9
unfoldable pub is_digit : ℕ → Bool
is_digit c = nat_le code.digit_0 c && nat_le c code.digit_9

-- a letter, a digit, `-` or `_`
unfoldable pub is_name : ℕ → Bool
is_name c = is_letter c || is_digit c || c == code.hyphen || c == code.underscore

-- 0000 to 001F and 007F to 009F
unfoldable pub is_control : ℕ → Bool
is_control c = nat_lt c code.space || (nat_le code.delete c && nat_le c code.last_control)

-- no control character, space, `"`, `<`, `>`, `^`, backquote, `{`, `|` or `}`. The backslash is not refused here
unfoldable pub is_iri : ℕ → Bool
is_iri c =
    not (is_control c || c == code.space || c == code.quote || c == code.less || c == code.greater || c == code.caret
    || c == code.backquote || c == code.left_brace || c == code.bar || c == code.right_brace)

-- carriage return and line feed
unfoldable pub is_line_end : ℕ → Bool
is_line_end c = c == code.carriage_return || c == code.line_feed

-- space, tab, carriage return and line feed
unfoldable pub is_blank : ℕ → Bool
is_blank c = c == code.space || c == code.tab || is_line_end c

-- the codes that are characters
unfoldable pub is_character : ℕ → Bool
is_character n = nat_lt n code.first_surrogate || (nat_le code.past_surrogates n && nat_lt n code.past_characters)

abbrev pub is_in : Class → ℕ → Bool
is_in Name c = is_name c
is_in Digit c = is_digit c
is_in Iri c = is_iri c
is_in Scheme c = is_letter c || is_digit c || c == code.plus || c == code.hyphen || c == code.dot
is_in Letter c = is_letter c
is_in Tag c = is_letter c || is_digit c
is_in Local c = is_name c || c == code.percent || c == code.colon || c == code.backslash
is_in Comment c = not (c == code.line_feed)

-- a character of a class, or a joint with one of the next class behind it
abbrev pub goes_on : Class → ℕ → Class → ℕ → ℕ → Bool
goes_on class joint next c follows = is_in class c || (c == joint && is_in next follows)

-- for how many characters from the front on that holds
abbrev pub jointed : Class → ℕ → Class → List ℕ → ℕ
jointed class joint next [] = 0
jointed class joint next (c ∷ cs) = if goes_on class joint next c (slice_index cs 0) then 1 + jointed class joint next cs else 0
