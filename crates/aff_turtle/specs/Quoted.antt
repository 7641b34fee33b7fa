-- The text of a literal: its escapes, and where it ends.
use Rattle.std.specs.Prelude.{ℕ, zero, suc, ◌+◌, ◌*◌, ◌||◌, ◌==◌, nat_lt, if◌then◌else◌, List, [], ◌∷◌, Option, Some, None}
use Rattle.std.specs.Char.{digit_value}
use Rattle.aff_turtle.specs.Codes as code
use Rattle.aff_turtle.specs.Characters.{is_line_end, is_character}

-- the number that so many hexadecimal digits behind n make with it
abbrev pub hex_number : ℕ → ℕ → List ℕ → Option ℕ
hex_number zero n cs = Some n
hex_number (suc k) n [] = None
hex_number (suc k) n (c ∷ cs) = if nat_lt (digit_value c) 16 then hex_number k (16 * n + digit_value c) cs else None

-- a character, and how many characters spell it
abbrev pub Found : Type 0
Found = ℕ × ℕ

-- what an escape with so many digits behind its letter names, if that is a character
abbrev pub named : ℕ → Option ℕ → Option Found
named digits None = None
named digits (Some n) = if is_character n then Some (n, digits + 1) else None

-- what the characters behind a backslash name, and how many of them do
unfoldable pub escaped : List ℕ → Option Found
escaped [] = None
escaped (c ∷ cs) =
    if c == code.lower_u then named 4 (hex_number 4 0 cs)
    else if c == code.upper_u then named 8 (hex_number 8 0 cs)
    else if c == code.lower_t then Some (code.tab, 1)
    else if c == code.lower_b then Some (code.backspace, 1)
    else if c == code.lower_n then Some (code.line_feed, 1)
    else if c == code.lower_r then Some (code.carriage_return, 1)
    else if c == code.lower_f then Some (code.form_feed, 1)
    else if c == code.quote || c == code.apostrophe || c == code.backslash then Some (c, 1)
    else None

-- a text, and how many characters spell it with its closing quote
abbrev pub Body : Type 0
Body = List ℕ × ℕ

-- one character more of the text
abbrev pub onto : ℕ → Option Body → Option Body
onto c None = None
onto c (Some body) = Some (c ∷ body.0, body.1 + 1)

-- one character more of an escape that was read already
abbrev pub past : Option Body → Option Body
past None = None
past (Some body) = Some (body.0, body.1 + 1)

-- what an escape names goes onto the rest behind it
abbrev pub onto_found : (ℕ → Option Body) → Option Found → Option Body
onto_found rest None = None
onto_found rest (Some found) = onto found.0 (rest found.1)

-- The text before the closing quote: none where the line ends before the quote, or an escape names no character.
-- So many characters at the front belong to an escape that was read already.
unfoldable pub quoted : ℕ → ℕ → List ℕ → Option Body
quoted quote skip [] = None
quoted quote (suc skip) (c ∷ cs) = past (quoted quote skip cs)
quoted quote zero (c ∷ cs) =
    if c == quote then Some ([], 1)
    else if c == code.backslash then onto_found (λ skip. quoted quote skip cs) (escaped cs)
    else if is_line_end c then None
    else onto c (quoted quote 0 cs)
