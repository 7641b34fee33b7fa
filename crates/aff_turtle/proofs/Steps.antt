-- The tokens of a text, one after another.
use Rattle.std.proofs.Common.{◌≡◌, ◌≢◌, ℕ, zero, suc, ◌+◌, ◌-◌, ◌<◌, Bool, true, false, cond, eqb, ◌||◌, ◌&&◌, List, [], ◌∷◌, length, take, get_or, drop, Option, Some, None, refl, sym, ap, subst, ◌∙◌, eq-eqb, arith, length-drop}
use Rattle.std.proofs.lemmas.Bool.{ne_eqb, eqb-false, eqb-true}
use Rattle.std.specs.List.{prefix_len, list_any}
use Rattle.aff_turtle.specs.Codes as code
use Rattle.aff_turtle.specs.Characters.{is_letter, is_digit, is_blank, is_in}
use Rattle.aff_turtle.specs.Blanks.{BeginsToken}
use Rattle.aff_turtle.specs.Quoted.{Body, quoted}
use Rattle.aff_turtle.specs.Tokens.{Token, Iri, Name, Escaped, Colons, At, Word, Integer, Carets, Dot, Semicolon, Comma, Other, Bad, End, Taken, is_absolute, iri, literal_of, literal, tag_len, tag, named_by, local_len, name, is_sign, is_exponent, number, token_at, tokens}
use Rattle.aff_turtle.specs.Views.{tokens_behind}
use Rattle.aff_turtle.specs.declared.class.Class.TheVariants as class

skipped : (line skip : ℕ) (cs : List ℕ) → tokens line skip cs ≡ tokens line 0 (drop skip cs)
unfolding tokens
skipped line zero cs = refl
skipped line (suc skip) [] = refl
skipped line (suc skip) (c ∷ cs) = skipped line skip cs

-- a character and what stands behind it
pub record Split (cs : List ℕ) (c : ℕ) (after : List ℕ) : Type 0 where
  pub some : 0 < length cs
  pub first : c ≡ get_or cs 0 c
  pub rest : after ≡ drop 1 cs

pub split : (cs : List ℕ) (c : ℕ) (after : List ℕ) → false ≡ eqb (length cs) 0 → c ≡ get_or cs 0 c → after ≡ drop 1 cs → Split cs c after
split cs c after e first rest = let more = eqb-false (length cs) 0 (sym e) in record { some = omega (arith, more); first = first; rest = rest }

whole : (cs : List ℕ) (c : ℕ) (after : List ℕ) → Split cs c after → cs ≡ c ∷ after
whole [] c after s = absurd (omega (arith, s.some))
whole (d ∷ cs) c after s = let e = s.first in let f = s.rest in cc

at_front : (line : ℕ) (cs : List ℕ) (c : ℕ) (after : List ℕ) → Split cs c after
    → tokens line 0 cs ≡ cond (eqb c code.line_feed) (tokens (line + 1) 0 after) (cond (is_blank c) (tokens line 0 after) (cond (eqb c code.hash) (tokens line (prefix_len (is_in class.Comment) after) after)
    (record { line = line; token = (token_at cs).0 } ∷ tokens line ((token_at cs).1 - 1) after)))
unfolding tokens
at_front line cs c after s = let e = whole cs c after s in rw e refl

pub feed : (line : ℕ) (cs : List ℕ) (c : ℕ) (after : List ℕ) → Split cs c after → c ≡ code.line_feed → tokens line 0 cs ≡ tokens (line + 1) 0 after
feed line cs c after s e = at_front line cs c after s ∙ rw (eq-eqb c code.line_feed e) refl

pub blank : (line : ℕ) (cs : List ℕ) (c : ℕ) (after : List ℕ) → Split cs c after → c ≢ code.line_feed → is_blank c ≡ true → tokens line 0 cs ≡ tokens line 0 after
blank line cs c after s e b = at_front line cs c after s ∙ rw (ne_eqb c code.line_feed e, b) refl

pub comment : (line : ℕ) (cs : List ℕ) (c : ℕ) (after rest : List ℕ) → Split cs c after → c ≢ code.line_feed → is_blank c ≡ false → c ≡ code.hash → rest ≡ drop (prefix_len (is_in class.Comment) after) after → tokens line 0 cs ≡ tokens line 0 rest
comment line cs c after rest s e b h is = at_front line cs c after s ∙ rw (ne_eqb c code.line_feed e, b, eq-eqb c code.hash h) (skipped line (prefix_len (is_in class.Comment) after) after ∙ ap (tokens line 0) (sym is))

pub one : (line : ℕ) (cs : List ℕ) (c : ℕ) (after rest : List ℕ) (t : Taken) → Split cs c after → c ≢ code.line_feed → is_blank c ≡ false → c ≢ code.hash → t ≡ token_at cs → rest ≡ drop (t.1 - 1) after
    → tokens line 0 cs ≡ record { line = line; token = t.0 } ∷ tokens line 0 rest
one line cs c after rest t s e b h is behind = at_front line cs c after s ∙ rw (ne_eqb c code.line_feed e, b, ne_eqb c code.hash h, ← is) (ap (λ ts. record { line = line; token = t.0 } ∷ ts) (skipped line (t.1 - 1) after ∙ ap (tokens line 0) (sym behind)))

pub begins : (cs : List ℕ) (c : ℕ) (after : List ℕ) → Split cs c after → c ≢ code.line_feed → is_blank c ≡ false → c ≢ code.hash → BeginsToken cs
begins cs c after s e b h = let k : BeginsToken (c ∷ after) = (e, b, h) in subst BeginsToken (sym (whole cs c after s)) k

pub begins_none : (cs : List ℕ) → true ≡ eqb (length cs) 0 → BeginsToken cs
begins_none [] e = tt
begins_none (c ∷ cs) e = let n = eqb-true (length (c ∷ cs)) 0 (sym e) in absurd (omega (arith, n))

-- ---- only the end of a text is its end

-- tokens stand behind this one, if only the end
abbrev GoesOn : Token → Type 0
GoesOn End = ⊥
GoesOn _ = Unit {0}

either : (b : Bool) (x y : Taken) → GoesOn x.0 → GoesOn y.0 → GoesOn (cond b x y).0
either true x y h k = h
either false x y h k = k

named_goes_on : (prefix text : List ℕ) → GoesOn (named_by prefix text)
named_goes_on prefix text = one_of (list_any (λ c. eqb c code.percent) text || list_any (λ c. eqb c code.backslash) text) (list_any (λ c. eqb c code.colon) text)
  where
    one_of : (a b : Bool) → GoesOn (cond a (Escaped prefix) (cond b (Colons prefix) (Name prefix text)))
    one_of true b = tt
    one_of false true = tt
    one_of false false = tt

iri_goes_on : (cs : List ℕ) → GoesOn (iri cs).0
unfolding iri
iri_goes_on cs =
    let count = prefix_len (is_in class.Iri) cs in
    let text = take count cs in
    either (eqb (get_or cs count 0) code.greater) (cond (is_absolute text) (Iri text, count + 2) (Other, 1)) (Bad, 1) (either (is_absolute text) (Iri text, count + 2) (Other, 1) tt tt) tt

body_goes_on : (body : Option Body) → GoesOn (literal_of body).0
body_goes_on None = tt
body_goes_on (Some body) = tt

literal_goes_on : (quote : ℕ) (cs : List ℕ) → GoesOn (literal quote cs).0
unfolding literal
literal_goes_on quote cs = either (eqb (get_or cs 0 0) quote && eqb (get_or cs 1 0) quote) (Other, 1) (literal_of (quoted quote 0 cs)) tt (body_goes_on (quoted quote 0 cs))

tag_goes_on : (cs : List ℕ) → GoesOn (tag cs).0
unfolding tag
tag_goes_on cs = either (is_letter (get_or cs 0 0)) (At (take (tag_len cs) cs), tag_len cs + 1) (Bad, 1) tt tt

name_goes_on : (cs : List ℕ) → GoesOn (name cs).0
unfolding name
name_goes_on cs =
    let count = prefix_len (is_in class.Name) cs in
    let rest = drop (count + 1) cs in
    let text = take (local_len rest) rest in
    either (eqb (get_or cs count 0) code.colon) (named_by (take count cs) text, count + 1 + local_len rest) (Word (take count cs), count) (named_goes_on (take count cs) text) tt

number_goes_on : (cs : List ℕ) → GoesOn (number cs).0
unfolding number
number_goes_on cs =
    let sign = cond (is_sign (get_or cs 0 0)) 1 0 in
    let count = prefix_len (is_in class.Digit) (drop sign cs) in
    let rest = drop (sign + count) cs in
    let whole : Taken = (Integer (take (sign + count) cs), sign + count) in
    let exponent = is_exponent rest || (eqb (get_or rest 0 0) code.dot && is_exponent (drop 1 rest)) in
    let none : Taken = cond (eqb (get_or cs 0 0) code.dot) (Dot, 1) (Bad, 1) in
    either (eqb (get_or rest 0 0) code.dot && is_digit (get_or rest 1 0)) (Other, 1) (cond (eqb count 0) none (cond exponent (Other, 1) whole)) tt
    (either (eqb count 0) none (cond exponent (Other, 1) whole) (either (eqb (get_or cs 0 0) code.dot) (Dot, 1) (Bad, 1) tt tt) (either exponent (Other, 1) whole tt tt))

token_goes_on : (c : ℕ) (cs : List ℕ) → GoesOn (token_at (c ∷ cs)).0
unfolding token_at
token_goes_on c cs =
    let left_out = eqb c code.bracket || eqb c code.parenthesis || (eqb c code.underscore && eqb (get_or cs 0 0) code.colon) in
    let last : Taken = cond left_out (Other, 1) (Bad, 1) in
    let carets = eqb c code.caret && eqb (get_or cs 0 0) code.caret in
    let from_caret : Taken = cond carets (Carets, 2) last in
    let from_comma : Taken = cond (eqb c code.comma) (Comma, 1) from_caret in
    let from_semicolon : Taken = cond (eqb c code.semicolon) (Semicolon, 1) from_comma in
    let is_number = is_digit c || is_sign c || eqb c code.dot in
    let from_number : Taken = cond is_number (number (c ∷ cs)) from_semicolon in
    let is_name = is_letter c || eqb c code.colon in
    let from_name : Taken = cond is_name (name (c ∷ cs)) from_number in
    let from_tag : Taken = cond (eqb c code.at_sign) (tag cs) from_name in
    let from_literal : Taken = cond (eqb c code.quote || eqb c code.apostrophe) (literal c cs) from_tag in
    either (eqb c code.less) (iri cs) from_literal (iri_goes_on cs)
    (either (eqb c code.quote || eqb c code.apostrophe) (literal c cs) from_tag (literal_goes_on c cs)
    (either (eqb c code.at_sign) (tag cs) from_name (tag_goes_on cs)
    (either is_name (name (c ∷ cs)) from_number (name_goes_on (c ∷ cs))
    (either is_number (number (c ∷ cs)) from_semicolon (number_goes_on (c ∷ cs))
    (either (eqb c code.semicolon) (Semicolon, 1) from_comma tt
    (either (eqb c code.comma) (Comma, 1) from_caret tt
    (either carets (Carets, 2) last tt
    (either left_out (Other, 1) (Bad, 1) tt tt))))))))

behind_going : (t : Token) (line : ℕ) (cs : List ℕ) → GoesOn t → tokens_behind t line cs ≡ tokens line 0 cs
behind_going End line cs h = absurd h
behind_going _ line cs h = refl

pub behind_other : (t : Token) (line : ℕ) (cs : List ℕ) → t ≢ End → tokens_behind t line cs ≡ tokens line 0 cs
behind_other End line cs h = absurd (h refl)
behind_other _ line cs h = refl

-- the token at the front, and those behind it
pub first_token : (line : ℕ) (cs rest : List ℕ) (t : Taken) → BeginsToken cs → t ≡ token_at cs → rest ≡ drop (t.1 - 1) (drop 1 cs)
    → tokens line 0 cs ≡ record { line = line; token = t.0 } ∷ tokens_behind t.0 line rest
unfolding tokens token_at
first_token line [] rest t begins is behind = let e : t.0 ≡ End = ap (λ (x : Taken). x.0) is in rw e refl
first_token line (c ∷ cs) rest t begins is behind =
    let s : Split (c ∷ cs) c cs = record { some = omega arith; first = refl; rest = refl } in
    let goes : GoesOn t.0 = subst (λ (x : Taken). GoesOn x.0) (sym is) (token_goes_on c cs) in
    one line (c ∷ cs) c cs rest t s begins.0 begins.1 begins.2 is behind ∙ ap (λ ts. record { line = line; token = t.0 } ∷ ts) (sym (behind_going t.0 line rest goes))

pub shorter : (cs rest : List ℕ) (t : Taken) → t ≡ token_at cs → rest ≡ drop (t.1 - 1) (drop 1 cs) → t.0 ≢ End → length rest < length cs
unfolding token_at
shorter [] rest t is behind h = absurd (h (ap (λ (x : Taken). x.0) is))
shorter (c ∷ cs) rest t is behind h = let e = length-drop (t.1 - 1) cs in rw behind (omega (arith, e))
