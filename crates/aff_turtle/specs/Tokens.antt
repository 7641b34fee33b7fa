-- Tokens: what stands at the front of a text, the longest match, and how many characters it takes.
use Rattle.std.specs.Prelude.{ℕ, zero, suc, ◌+◌, ◌-◌, Bool, not, ◌&&◌, ◌||◌, ◌==◌, if◌then◌else◌, List, [], ◌∷◌, take, drop, slice_index, Option, Some, None}
use Rattle.std.specs.List.{prefix_len, list_any}
use Rattle.aff_turtle.specs.Codes as code
use Rattle.aff_turtle.specs.Characters.{is_letter, is_digit, is_blank, is_in, jointed}
use Rattle.aff_turtle.specs.Quoted.{Body, quoted}
use Rattle.aff_turtle.specs.declared.class.Class.TheVariants as class

-- each part is a list of characters
pub data Token : Type 0 where
  Iri : List ℕ → Token
  -- a prefix and a local part
  Name : List ℕ → List ℕ → Token
  -- a prefix, before a local part with `%` or a backslash
  Escaped : List ℕ → Token
  -- a prefix, before a local part with `:`
  Colons : List ℕ → Token
  Quoted : List ℕ → Token
  -- what stands behind `@`
  At : List ℕ → Token
  Word : List ℕ → Token
  Integer : List ℕ → Token
  Carets : Token
  Dot : Token
  Semicolon : Token
  Comma : Token
  -- what this subset leaves out
  Other : Token
  -- what begins no token
  Bad : Token
  End : Token

-- a token, and how many characters it takes
abbrev pub Taken : Type 0
Taken = Token × ℕ

-- a letter first, then what a scheme has, then `:`, and no backslash
unfoldable pub is_absolute : List ℕ → Bool
is_absolute text =
    is_letter (slice_index text 0) && slice_index text (prefix_len (is_in class.Scheme) text) == code.colon
    && not (list_any (λ c. c == code.backslash) text)

-- behind `<`
unfoldable pub iri : List ℕ → Taken
iri cs =
    let count = prefix_len (is_in class.Iri) cs in
    if slice_index cs count == code.greater then (if is_absolute (take count cs) then (Iri (take count cs), count + 2) else (Other, 1))
    else (Bad, 1)

abbrev pub literal_of : Option Body → Taken
literal_of None = (Bad, 1)
literal_of (Some body) = (Quoted body.0, body.1 + 1)

-- behind a quote; three quotes begin a literal over several lines
unfoldable pub literal : ℕ → List ℕ → Taken
literal quote cs = if slice_index cs 0 == quote && slice_index cs 1 == quote then (Other, 1) else literal_of (quoted quote 0 cs)

-- letters, then groups of `-` and letters or digits
abbrev pub tag_len : List ℕ → ℕ
tag_len cs =
    let count = prefix_len (is_in class.Letter) cs in
    if slice_index cs count == code.hyphen then count + jointed class.Tag code.hyphen class.Tag (drop count cs) else count

-- behind `@`
unfoldable pub tag : List ℕ → Taken
tag cs = if is_letter (slice_index cs 0) then (At (take (tag_len cs) cs), tag_len cs + 1) else (Bad, 1)

abbrev pub named_by : List ℕ → List ℕ → Token
named_by prefix text =
    if list_any (λ c. c == code.percent) text || list_any (λ c. c == code.backslash) text then Escaped prefix
    else if list_any (λ c. c == code.colon) text then Colons prefix
    else Name prefix text

-- behind the `:` of a prefix: a local part begins with neither `-` nor `.`
unfoldable pub local_len : List ℕ → ℕ
local_len cs =
    if is_in class.Local (slice_index cs 0) && not (slice_index cs 0 == code.hyphen) then jointed class.Local code.dot class.Name cs
    else 0

-- a prefixed name, or a word: a letter or `:` first
unfoldable pub name : List ℕ → Taken
name cs =
    let count = prefix_len (is_in class.Name) cs in
    let rest = drop (count + 1) cs in
    if slice_index cs count == code.colon then (named_by (take count cs) (take (local_len rest) rest), count + 1 + local_len rest)
    else (Word (take count cs), count)

abbrev pub is_sign : ℕ → Bool
is_sign c = c == code.plus || c == code.hyphen

-- an exponent: `e` or `E`, a sign or none, a digit
unfoldable pub is_exponent : List ℕ → Bool
is_exponent cs =
    (slice_index cs 0 == code.upper_e || slice_index cs 0 == code.lower_e)
    && (is_digit (slice_index cs 1) || (is_sign (slice_index cs 1) && is_digit (slice_index cs 2)))

-- A digit, a sign or `.` first. A number with a fraction or an exponent is left out.
unfoldable pub number : List ℕ → Taken
number cs =
    let sign = if is_sign (slice_index cs 0) then 1 else 0 in
    let count = prefix_len (is_in class.Digit) (drop sign cs) in
    let rest = drop (sign + count) cs in
    if slice_index rest 0 == code.dot && is_digit (slice_index rest 1) then (Other, 1)
    else if count == 0 then (if slice_index cs 0 == code.dot then (Dot, 1) else (Bad, 1))
    else if is_exponent rest || (slice_index rest 0 == code.dot && is_exponent (drop 1 rest)) then (Other, 1)
    else (Integer (take (sign + count) cs), sign + count)

-- The token at the front of a text that begins with no blank, and how many characters it takes.
unfoldable pub token_at : List ℕ → Taken
token_at [] = (End, 0)
token_at (c ∷ cs) =
    if c == code.less then iri cs
    else if c == code.quote || c == code.apostrophe then literal c cs
    else if c == code.at_sign then tag cs
    else if is_letter c || c == code.colon then name (c ∷ cs)
    else if is_digit c || is_sign c || c == code.dot then number (c ∷ cs)
    else if c == code.semicolon then (Semicolon, 1)
    else if c == code.comma then (Comma, 1)
    else if c == code.caret && slice_index cs 0 == code.caret then (Carets, 2)
    else if c == code.bracket || c == code.parenthesis || (c == code.underscore && slice_index cs 0 == code.colon) then (Other, 1)
    else (Bad, 1)

-- a token and its line
pub record Placed : Type 0 where
  pub line : ℕ
  pub token : Token

-- The tokens of a text from a line on, and its end; white space and comments stand between them. So many characters
-- at the front belong to a token before.
unfoldable pub tokens : ℕ → ℕ → List ℕ → List Placed
tokens line skip [] = record { line = line; token = End } ∷ []
tokens line (suc skip) (c ∷ cs) = tokens line skip cs
tokens line zero (c ∷ cs) =
    if c == code.line_feed then tokens (line + 1) 0 cs
    else if is_blank c then tokens line 0 cs
    else if c == code.hash then tokens line (prefix_len (is_in class.Comment) cs) cs
    else record { line = line; token = (token_at (c ∷ cs)).0 } ∷ tokens line ((token_at (c ∷ cs)).1 - 1) cs
