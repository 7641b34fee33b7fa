-- The tokens of what is written.
use Rattle.std.proofs.Common.{◌≡◌, ◌≢◌, ℕ, suc, ◌+◌, ◌-◌, ◌≤◌, ◌⊎◌, Bool, true, false, cond, eqb, ◌&&◌, List, [], ◌∷◌, ◌++◌, length, drop, get_or, Option, Some, None, refl, sym, ap, ◌∙◌, append_assoc, eq-eqb, add-zero, arith, inl, inr}
use Rattle.std.proofs.lemmas.Bool.{ne_eqb, cases_lt}
use Rattle.std.proofs.lemmas.Bool.Decides.{eqb_tells}
use Rattle.std.proofs.lemmas.List.{get_or_at, take_at, drop_at, length_push, length-append, get_or_append_left, drop-append-le, length-drop}
use Rattle.std.proofs.lemmas.List.Folds.{prefix_len-append}
use Rattle.std.proofs.lemmas.List.Sums.{prefix_len-le-length}
use Rattle.std.specs.List.{prefix_len, flat_map}
use Rattle.aff_turtle.specs.declared.class.Class.TheVariants as class
use Rattle.aff_turtle.specs.Codes as code
use Rattle.aff_turtle.specs.Characters.{is_letter, is_digit, is_control, is_iri, is_line_end, is_blank, is_in, goes_on, jointed}
use Rattle.aff_turtle.specs.Quoted.{Body, escaped, onto, past, quoted}
use Rattle.aff_turtle.specs.Tokens.{Token, Iri, Quoted, At, Carets, Dot, Taken, Placed, is_absolute, iri, literal, tag_len, tag, number, token_at, tokens}
use Rattle.aff_turtle.specs.Written.{spelled, in_angles}
use Rattle.aff_turtle.proofs.Quotes.{joined, pair_is, some_body}
use Rattle.aff_turtle.proofs.Steps.{Split, one}

abbrev pub placed : ℕ → Token → Placed
placed line t = record { line = line; token = t }

-- what stands behind a list and one character more
pub past_one : (cs : List ℕ) (c : ℕ) (rest : List ℕ) → drop (length cs + 1) (cs ++ c ∷ rest) ≡ rest
past_one cs c rest = ap (drop (length cs + 1)) (sym (append_assoc cs (c ∷ []) rest)) ∙ drop_at (cs ++ c ∷ []) rest (length cs + 1) (length_push cs c)

run_stops : (p : ℕ → Bool) (cs : List ℕ) (c : ℕ) (rest : List ℕ) → prefix_len p cs ≡ length cs → p c ≡ false → prefix_len p (cs ++ c ∷ rest) ≡ length cs
run_stops p cs c rest all stop =
    let e : prefix_len p (c ∷ rest) ≡ 0 = rw stop refl in
    prefix_len-append p cs (c ∷ rest) ∙ rw (eq-eqb (prefix_len p cs) (length cs) all, e) (add-zero (length cs))

-- ---- blanks

pub blank : (line : ℕ) (cs : List ℕ) → tokens line 0 (code.space ∷ cs) ≡ tokens line 0 cs
unfolding tokens is_blank is_line_end
blank line cs = refl

pub feed : (line : ℕ) (cs : List ℕ) → tokens line 0 (code.line_feed ∷ cs) ≡ tokens (line + 1) 0 cs
unfolding tokens is_blank is_line_end
feed line cs = refl

-- a token that begins with this character
takes : (line c : ℕ) (cs rest : List ℕ) (t : Token) (k : ℕ) → c ≢ code.line_feed → is_blank c ≡ false → c ≢ code.hash → token_at (c ∷ cs) ≡ (t, k) → drop (k - 1) cs ≡ rest → tokens line 0 (c ∷ cs) ≡ placed line t ∷ tokens line 0 rest
takes line c cs rest t k no_feed no_blank no_comment e behind =
    let s : Split (c ∷ cs) c cs = record { some = omega arith; first = refl; rest = refl } in
    let taken : Taken = (t, k) in
    one line (c ∷ cs) c cs rest taken s no_feed no_blank no_comment (sym e) (sym behind)

-- ---- IRIs

iri_stop : is_in class.Iri code.greater ≡ false
unfolding is_iri is_control
iri_stop = refl

no_blank_less : is_blank code.less ≡ false
unfolding is_blank is_line_end
no_blank_less = refl

iri_at : (cs rest : List ℕ) → prefix_len (is_in class.Iri) cs ≡ length cs → is_absolute cs ≡ true → token_at (code.less ∷ (cs ++ code.greater ∷ rest)) ≡ (Iri cs, length cs + 2)
unfolding token_at iri
iri_at cs rest allowed absolute = rw (run_stops (is_in class.Iri) cs code.greater rest allowed iri_stop, get_or_at cs code.greater rest 0 (length cs) refl, take_at cs (code.greater ∷ rest) (length cs) refl, absolute) refl

pub iri_token : (line : ℕ) (cs rest : List ℕ) → prefix_len (is_in class.Iri) cs ≡ length cs → is_absolute cs ≡ true → tokens line 0 (in_angles cs ++ rest) ≡ placed line (Iri cs) ∷ tokens line 0 rest
iri_token line cs rest allowed absolute =
    let whole : in_angles cs ++ rest ≡ code.less ∷ (cs ++ code.greater ∷ rest) = ap (λ (x : List ℕ). code.less ∷ x) (append_assoc cs (code.greater ∷ []) rest) in
    let k : length cs + 2 - 1 ≡ length cs + 1 = omega arith in
    ap (tokens line 0) whole ∙ takes line code.less (cs ++ code.greater ∷ rest) rest (Iri cs) (length cs + 2) (omega arith) no_blank_less (omega arith) (iri_at cs rest allowed absolute) (rw k (past_one cs code.greater rest))

-- ---- literals

onto-past : (c : ℕ) (read : Option Body) → onto c (past read) ≡ joined (c ∷ []) 2 read
onto-past c None = refl
onto-past c (Some body) = pair_is (c ∷ body.0) (c ∷ body.0) (body.1 + 1 + 1) (body.1 + 2) refl (omega arith)

onto-one : (c : ℕ) (read : Option Body) → onto c read ≡ joined (c ∷ []) 1 read
onto-one c None = refl
onto-one c (Some body) = refl

spelled_quote : (more : List ℕ) → quoted code.quote 0 (code.backslash ∷ code.quote ∷ more) ≡ joined (code.quote ∷ []) 2 (quoted code.quote 0 more)
unfolding quoted escaped
spelled_quote more = onto-past code.quote (quoted code.quote 0 more)

spelled_backslash : (more : List ℕ) → quoted code.quote 0 (code.backslash ∷ code.backslash ∷ more) ≡ joined (code.backslash ∷ []) 2 (quoted code.quote 0 more)
unfolding quoted escaped
spelled_backslash more = onto-past code.backslash (quoted code.quote 0 more)

spelled_feed : (more : List ℕ) → quoted code.quote 0 (code.backslash ∷ code.lower_n ∷ more) ≡ joined (code.line_feed ∷ []) 2 (quoted code.quote 0 more)
unfolding quoted escaped
spelled_feed more = onto-past code.line_feed (quoted code.quote 0 more)

spelled_return : (more : List ℕ) → quoted code.quote 0 (code.backslash ∷ code.lower_r ∷ more) ≡ joined (code.carriage_return ∷ []) 2 (quoted code.quote 0 more)
unfolding quoted escaped
spelled_return more = onto-past code.carriage_return (quoted code.quote 0 more)

spelled_tab : (more : List ℕ) → quoted code.quote 0 (code.backslash ∷ code.lower_t ∷ more) ≡ joined (code.tab ∷ []) 2 (quoted code.quote 0 more)
unfolding quoted escaped
spelled_tab more = onto-past code.tab (quoted code.quote 0 more)

spelled_plain : (c : ℕ) (more : List ℕ) → c ≢ code.quote → c ≢ code.backslash → c ≢ code.line_feed → c ≢ code.carriage_return → quoted code.quote 0 (c ∷ more) ≡ joined (c ∷ []) 1 (quoted code.quote 0 more)
unfolding quoted is_line_end
spelled_plain c more no_quote no_backslash no_feed no_return = rw (ne_eqb c code.quote no_quote, ne_eqb c code.backslash no_backslash, ne_eqb c code.carriage_return no_return, ne_eqb c code.line_feed no_feed) (onto-one c (quoted code.quote 0 more))

-- what a character is spelled as: so, or as itself
pub record Spells (c : ℕ) : Type 0 where
  pub reads : (more : List ℕ) → quoted code.quote 0 (spelled c ++ more) ≡ joined (c ∷ []) (length (spelled c)) (quoted code.quote 0 more)
  pub no_quote : (more : List ℕ) → eqb (get_or (spelled c ++ more) 0 0) code.quote ≡ false

pub spells : (c : ℕ) → Spells c
unfolding spelled
spells c = elim (eqb_tells c code.quote) [
  | inl y ↦ rw y.1 (record { reads = spelled_quote; no_quote = λ more. refl })
  | inr no_quote ↦ elim (eqb_tells c code.backslash) [
    | inl y ↦ rw y.1 (record { reads = spelled_backslash; no_quote = λ more. refl })
    | inr no_backslash ↦ elim (eqb_tells c code.line_feed) [
      | inl y ↦ rw y.1 (record { reads = spelled_feed; no_quote = λ more. refl })
      | inr no_feed ↦ elim (eqb_tells c code.carriage_return) [
        | inl y ↦ rw y.1 (record { reads = spelled_return; no_quote = λ more. refl })
        | inr no_return ↦ elim (eqb_tells c code.tab) [
          | inl y ↦ rw y.1 (record { reads = spelled_tab; no_quote = λ more. refl })
          | inr no_tab ↦ record {
            reads = λ more. rw (no_quote.0, no_backslash.0, no_feed.0, no_return.0, no_tab.0) (spelled_plain c more no_quote.1 no_backslash.1 no_feed.1 no_return.1);
            no_quote = λ more. rw (no_quote.0, no_backslash.0, no_feed.0, no_return.0, no_tab.0) no_quote.0;
          }
        ]
      ]
    ]
  ]
]

quoted_spelled : (cs rest : List ℕ) → quoted code.quote 0 (flat_map spelled cs ++ code.quote ∷ rest) ≡ some_body cs (length (flat_map spelled cs) + 1)
unfolding quoted
quoted_spelled [] rest = refl
quoted_spelled (c ∷ cs) rest =
    let text = flat_map spelled cs in
    let n : length text + 1 + length (spelled c) ≡ length (spelled c ++ text) + 1 = omega (arith, length-append (spelled c) text) in
    ap (quoted code.quote 0) (append_assoc (spelled c) text (code.quote ∷ rest)) ∙ (spells c).reads (text ++ code.quote ∷ rest) ∙ ap (joined (c ∷ []) (length (spelled c))) (quoted_spelled cs rest) ∙ pair_is (c ∷ cs) (c ∷ cs) (length text + 1 + length (spelled c)) (length (spelled c ++ text) + 1) refl n

-- no three quotes
not_three : (cs rest : List ℕ) (a : ℕ) → eqb a code.quote ≡ false → (eqb (get_or (flat_map spelled cs ++ code.quote ∷ a ∷ rest) 0 0) code.quote && eqb (get_or (flat_map spelled cs ++ code.quote ∷ a ∷ rest) 1 0) code.quote) ≡ false
not_three [] rest a e = rw e refl
not_three (c ∷ cs) rest a e =
    let text = flat_map spelled cs in
    let first : eqb (get_or (flat_map spelled (c ∷ cs) ++ code.quote ∷ a ∷ rest) 0 0) code.quote ≡ false = ap (λ (x : List ℕ). eqb (get_or x 0 0) code.quote) (append_assoc (spelled c) text (code.quote ∷ a ∷ rest)) ∙ (spells c).no_quote (text ++ code.quote ∷ a ∷ rest) in
    rw first refl

no_blank_quote : is_blank code.quote ≡ false
unfolding is_blank is_line_end
no_blank_quote = refl

literal_at : (cs rest : List ℕ) (a : ℕ) → eqb a code.quote ≡ false → token_at (code.quote ∷ (flat_map spelled cs ++ code.quote ∷ a ∷ rest)) ≡ (Quoted cs, length (flat_map spelled cs) + 1 + 1)
unfolding token_at literal
literal_at cs rest a e = rw (not_three cs rest a e, quoted_spelled cs (a ∷ rest)) refl

pub literal_token : (line : ℕ) (cs rest : List ℕ) (a : ℕ) → eqb a code.quote ≡ false → tokens line 0 (code.quote ∷ flat_map spelled cs ++ code.quote ∷ a ∷ rest) ≡ placed line (Quoted cs) ∷ tokens line 0 (a ∷ rest)
literal_token line cs rest a e =
    let text = flat_map spelled cs in
    let k : length text + 1 + 1 - 1 ≡ length text + 1 = omega arith in
    takes line code.quote (text ++ code.quote ∷ a ∷ rest) (a ∷ rest) (Quoted cs) (length text + 1 + 1) (omega arith) no_blank_quote (omega arith) (literal_at cs rest a e) (rw k (past_one text code.quote (a ∷ rest)))

-- ---- what stands behind a literal

no_blank_caret : is_blank code.caret ≡ false
unfolding is_blank is_line_end
no_blank_caret = refl

carets_at : (rest : List ℕ) → token_at (code.caret ∷ code.caret ∷ rest) ≡ (Carets, 2)
unfolding token_at is_letter is_digit
carets_at rest = refl

pub carets_token : (line : ℕ) (rest : List ℕ) → tokens line 0 (code.caret ∷ code.caret ∷ rest) ≡ placed line Carets ∷ tokens line 0 rest
carets_token line rest = takes line code.caret (code.caret ∷ rest) rest Carets 2 (omega arith) no_blank_caret (omega arith) (carets_at rest) refl

letter_stop : is_in class.Letter code.space ≡ false
unfolding is_letter
letter_stop = refl

tag_stop : is_in class.Tag code.space ≡ false
unfolding is_letter is_digit
tag_stop = refl

tag_null : is_in class.Tag 0 ≡ false
unfolding is_letter is_digit
tag_null = refl

guard_true : (b : Bool) (n k : ℕ) → cond b (1 + n) 0 ≡ suc k → (b ≡ true) × (n ≡ k)
guard_true true n k e = (refl, omega (arith, e))
guard_true false n k e = absurd (omega (arith, e))

jointed_stops : (cs rest : List ℕ) → jointed class.Tag code.hyphen class.Tag cs ≡ length cs → jointed class.Tag code.hyphen class.Tag (cs ++ code.space ∷ rest) ≡ length cs
jointed_stops [] rest all = rw tag_stop refl
jointed_stops (c ∷ []) rest all =
    let g = guard_true (goes_on class.Tag code.hyphen class.Tag c 0) 0 0 all in
    let same : goes_on class.Tag code.hyphen class.Tag c code.space ≡ true = rw (tag_stop, ← tag_null) g.0 in
    rw (same, tag_stop) refl
jointed_stops (c ∷ d ∷ cs) rest all =
    let g = guard_true (goes_on class.Tag code.hyphen class.Tag c d) (jointed class.Tag code.hyphen class.Tag (d ∷ cs)) (length (d ∷ cs)) all in
    rw (g.0, jointed_stops (d ∷ cs) rest g.1) (omega arith)

-- a whole tag, by its letters alone or with what is joined to them
tag_cases : (count n k : ℕ) (b : Bool) → count ≤ n → cond b (count + k) count ≡ n → ((b ≡ true) × (count + k ≡ n)) ⊎ (count ≡ n)
tag_cases count n k true le e = inl (refl, e)
tag_cases count n k false le e = inr e

tag_stops : (cs rest : List ℕ) → tag_len cs ≡ length cs → tag_len (cs ++ code.space ∷ rest) ≡ length cs
tag_stops cs rest whole =
    let count = prefix_len (is_in class.Letter) cs in
    let le = prefix_len-le-length (is_in class.Letter) cs in
    elim (cases_lt count (length cs)) [
      | inl lt ↦
          let ne : count ≢ length cs = omega arith in
          let run : prefix_len (is_in class.Letter) (cs ++ code.space ∷ rest) ≡ count = prefix_len-append (is_in class.Letter) cs (code.space ∷ rest) ∙ rw (ne_eqb count (length cs) ne) refl in
          let rest_len = jointed class.Tag code.hyphen class.Tag (drop count cs) in
          elim (tag_cases count (length cs) rest_len (eqb (get_or cs count 0) code.hyphen) le whole) [
            | inl h ↦
                let all : rest_len ≡ length (drop count cs) = omega (arith, length-drop count cs, h.1) in
                rw (run, get_or_append_left cs (code.space ∷ rest) 0 count lt, h.0, drop-append-le count cs (code.space ∷ rest) le, jointed_stops (drop count cs) rest all) (omega (arith, length-drop count cs))
            | inr e ↦ absurd (ne e)
          ]
      | inr all ↦
          let same : count ≡ length cs = omega (arith, le, all) in
          rw (run_stops (is_in class.Letter) cs code.space rest same letter_stop, get_or_at cs code.space rest 0 (length cs) refl) refl
    ]

no_blank_at_sign : is_blank code.at_sign ≡ false
unfolding is_blank is_line_end
no_blank_at_sign = refl

letter_first : (cs rest : List ℕ) → is_letter (get_or cs 0 0) ≡ true → is_letter (get_or (cs ++ rest) 0 0) ≡ true
unfolding is_letter
letter_first [] rest e = absurd cc
letter_first (c ∷ cs) rest e = e

tag_at : (cs rest : List ℕ) → is_letter (get_or cs 0 0) ≡ true → tag_len cs ≡ length cs → token_at (code.at_sign ∷ (cs ++ code.space ∷ rest)) ≡ (At cs, length cs + 1)
unfolding token_at tag
tag_at cs rest first whole = rw (letter_first cs (code.space ∷ rest) first, tag_stops cs rest whole, take_at cs (code.space ∷ rest) (length cs) refl) refl

pub tag_token : (line : ℕ) (cs rest : List ℕ) → is_letter (get_or cs 0 0) ≡ true → tag_len cs ≡ length cs → tokens line 0 (code.at_sign ∷ (cs ++ code.space ∷ rest)) ≡ placed line (At cs) ∷ tokens line 0 (code.space ∷ rest)
tag_token line cs rest first whole =
    let k : length cs + 1 - 1 ≡ length cs = omega arith in
    takes line code.at_sign (cs ++ code.space ∷ rest) (code.space ∷ rest) (At cs) (length cs + 1) (omega arith) no_blank_at_sign (omega arith) (tag_at cs rest first whole) (rw k (drop_at cs (code.space ∷ rest) (length cs) refl))

-- ---- the end of a line

no_blank_dot : is_blank code.dot ≡ false
unfolding is_blank is_line_end
no_blank_dot = refl

dot_at : (rest : List ℕ) → token_at (code.dot ∷ code.line_feed ∷ rest) ≡ (Dot, 1)
unfolding token_at number is_letter is_digit
dot_at rest = refl

pub dot_token : (line : ℕ) (rest : List ℕ) → tokens line 0 (code.dot ∷ code.line_feed ∷ rest) ≡ placed line Dot ∷ tokens (line + 1) 0 rest
dot_token line rest = takes line code.dot (code.line_feed ∷ rest) (code.line_feed ∷ rest) Dot 1 (omega arith) no_blank_dot (omega arith) (dot_at rest) refl ∙ ap (λ ts. placed line Dot ∷ ts) (feed line rest)
