-- Lines of triples that are cut off.
use Rattle.std.proofs.Common.{◌≡◌, ℕ, suc, ◌+◌, ◌-◌, ◌<◌, ◌⊎◌, ◌&&◌, true, false, eqb, List, [], ◌∷◌, ◌++◌, length, get_or, take, drop, refl, sym, ap, subst, ◌∙◌, append_assoc, append-nil, arith, inl, inr}
use Rattle.std.proofs.lemmas.List.{append_cancel_left}
use Rattle.std.proofs.lemmas.Str.{chars_from_encodes}
use Rattle.std.specs.Prelude.{⊤, Option, None, Some}
use Rattle.std.specs.List.{AllByRecursion, flat_map, prefix_len}
use Rattle.std.specs.Str.{chars, encode_utf8_all, IsUtf8}
use Rattle.aff_turtle.specs.Codes as code
use Rattle.aff_turtle.specs.Characters.{is_blank, is_digit, is_in, is_letter, is_line_end}
use Rattle.aff_turtle.specs.Tokens.{Token, Iri, Quoted, Carets, Dot, Bad, End, Taken, Placed, is_absolute, iri, literal, number, token_at, tokens}
use Rattle.aff_turtle.specs.Triples.{Term, Resource, Literal, Fact, fact, typed}
use Rattle.aff_turtle.specs.Machine.{State, Statement, Predicate, Value, Annotation, Datatype, Separator, Step, Outcome, Gives, Refuses, Breaks, next, add, before, triples}
use Rattle.aff_turtle.specs.Quoted.{quoted}
use Rattle.aff_turtle.specs.Written.{in_angles, line, object_text, spelled, IsFact, IsTerm, AreFacts}
use Rattle.aff_turtle.specs.declared.class.Class.TheVariants as class
use Rattle.aff_turtle.proofs.Steps.{Split, one}
use Rattle.aff_turtle.proofs.Lexed.{placed, blank, past_one, iri_token, literal_token, carets_token, dot_token}
use Rattle.aff_turtle.proofs.Statements.{before_nil, leads}
use Rattle.aff_finished.proofs.Cuts.{behind, cut_in, front_passes, lacks_last}

-- an outcome with no triples
abbrev pub IsNone : Outcome → Type 0
IsNone (Gives ts) = ⊥
IsNone (Refuses why) = ⊤
IsNone Breaks = ⊤

none_before : (front : List Fact) (o : Outcome) → IsNone o → IsNone (before front o)
none_before front (Gives ts) h = h
none_before front (Refuses why) h = h
none_before front Breaks h = h

-- a state in which neither the end of the text nor a character that begins no token may come
record Waits (state : State) : Type 0 where
  bad : next [] state Bad ≡ None
  end : next [] state End ≡ None

abbrev leads_to : State → Option Fact → Step
leads_to state made = record { state = state; declares = None; made = made }

-- ---- steps

waits_predicate : (s : List ℕ) → Waits (Predicate s)
unfolding next
waits_predicate s = record { bad = refl; end = refl }

waits_value : (s p : List ℕ) → Waits (Value s p)
unfolding next
waits_value s p = record { bad = refl; end = refl }

waits_annotation : (s p text : List ℕ) → Waits (Annotation s p text)
unfolding next
waits_annotation s p text = record { bad = refl; end = refl }

waits_datatype : (s p text : List ℕ) → Waits (Datatype s p text)
unfolding next
waits_datatype s p text = record { bad = refl; end = refl }

waits_separator : (s p : List ℕ) → Waits (Separator s p)
unfolding next
waits_separator s p = record { bad = refl; end = refl }

-- a token of which this is known leads so
record Leads (state : State) (token : Token) (after : State) (made : Option Fact) : Type 0 where
  step : next [] state token ≡ Some (leads_to after made)

subject_leads : (s : List ℕ) → Leads Statement (Iri s) (Predicate s) None
unfolding next
subject_leads s = record { step = refl }

predicate_leads : (s p : List ℕ) → Leads (Predicate s) (Iri p) (Value s p) None
unfolding next
predicate_leads s p = record { step = refl }

resource_leads : (s p o : List ℕ) → Leads (Value s p) (Iri o) (Separator s p) (Some (fact s p (Resource (encode_utf8_all o))))
unfolding next
resource_leads s p o = record { step = refl }

quoted_leads : (s p text : List ℕ) → Leads (Value s p) (Quoted text) (Annotation s p text) None
unfolding next
quoted_leads s p text = record { step = refl }

carets_leads : (s p text : List ℕ) → Leads (Annotation s p text) Carets (Datatype s p text) None
unfolding next
carets_leads s p text = record { step = refl }

datatype_leads : (s p text d : List ℕ) → Leads (Datatype s p text) (Iri d) (Separator s p) (Some (fact s p (typed text (encode_utf8_all d))))
unfolding next
datatype_leads s p text d = record { step = refl }

dot_leads : (s p : List ℕ) → Leads (Separator s p) Dot Statement None
unfolding next
dot_leads s p = record { step = refl }

goes : (state after : State) (made : Option Fact) (n : ℕ) (token : Token) (ts : List Placed) → Leads state token after made
    → triples [] state (placed n token ∷ ts) ≡ before (add made []) (triples [] after ts)
goes state after made n token ts l = leads [] state (placed n token) ts (leads_to after made) l.step

goes_none : (state after : State) (made : Option Fact) (n : ℕ) (token : Token) (ts : List Placed) → Leads state token after made
    → IsNone (triples [] after ts) → IsNone (triples [] state (placed n token ∷ ts))
goes_none state after made n token ts l none = subst IsNone (sym (goes state after made n token ts l)) (none_before (add made []) (triples [] after ts) none)

refused : (state : State) (n : ℕ) (token : Token) (ts : List Placed) → next [] state token ≡ None → IsNone (triples [] state (placed n token ∷ ts))
unfolding triples
refused state n token ts none = rw none tt

-- ---- tokens of what is cut off

open_iri : (n : ℕ) (cs : List ℕ) → prefix_len (is_in class.Iri) cs ≡ length cs → tokens n 0 (code.less ∷ cs) ≡ placed n Bad ∷ tokens n 0 cs
unfolding tokens token_at iri is_blank is_line_end
open_iri n cs allowed = rw (allowed, behind cs) refl

at_end : (n : ℕ) → tokens n 0 [] ≡ placed n End ∷ []
unfolding tokens
at_end n = refl

one_caret : (n : ℕ) → tokens n 0 (code.caret ∷ []) ≡ placed n Bad ∷ placed n End ∷ []
unfolding tokens token_at is_blank is_line_end is_letter is_digit
one_caret n = refl

last_dot : (n : ℕ) → tokens n 0 (code.dot ∷ []) ≡ placed n Dot ∷ placed n End ∷ []
unfolding tokens token_at number is_blank is_line_end is_letter is_digit
last_dot n = refl

ended : (state : State) (n : ℕ) → Waits state → IsNone (triples [] state (tokens n 0 []))
ended state n w = subst (λ ts. IsNone (triples [] state ts)) (sym (at_end n)) (refused state n End [] w.end)

-- ---- what is cut off somewhere gives no triples

abbrev Fails : State → List ℕ → Type 0
Fails state text = (n : ℕ) (xs more : List ℕ) → 0 < length more → xs ++ more ≡ text → IsNone (triples [] state (tokens n 0 xs))

after_space : (state : State) (text : List ℕ) → Waits state → Fails state text → Fails state (code.space ∷ text)
after_space state text w f n [] more some e = ended state n w
after_space state text w f n (x ∷ xs) more some e =
    let head : code.space ≡ x = cc in
    let tail : xs ++ more ≡ text = cc in
    subst (λ c. IsNone (triples [] state (tokens n 0 (c ∷ xs)))) head (subst (λ ts. IsNone (triples [] state ts)) (sym (blank n xs)) (f n xs more some tail))

bad_iri : (state : State) (n : ℕ) (cs : List ℕ) → Waits state → prefix_len (is_in class.Iri) cs ≡ length cs → IsNone (triples [] state (tokens n 0 (code.less ∷ cs)))
bad_iri state n cs w allowed = subst (λ ts. IsNone (triples [] state ts)) (sym (open_iri n cs allowed)) (refused state n Bad (tokens n 0 cs) w.bad)

-- an IRI, and what follows
after_iri : (state after : State) (made : Option Fact) (cs text : List ℕ) → next [] state Bad ≡ None → Leads state (Iri cs) after made
    → prefix_len (is_in class.Iri) cs ≡ length cs → is_absolute cs ≡ true → Fails after text
    → (n : ℕ) (x : ℕ) (xs more : List ℕ) → 0 < length more → (x ∷ xs) ++ more ≡ in_angles cs ++ text → IsNone (triples [] state (tokens n 0 (x ∷ xs)))
after_iri state after made cs text bad l allowed absolute f n x xs more some e =
    elim (cut_in (x ∷ xs) more (in_angles cs) text e) [
      | inl ends ↦ inside ends.left ends.some ends.is
      | inr on ↦
          subst (λ ys. IsNone (triples [] state (tokens n 0 ys))) (sym on.is)
          (subst (λ ts. IsNone (triples [] state ts)) (sym (iri_token n cs on.front allowed absolute))
          (goes_none state after made n (Iri cs) (tokens n 0 on.front) l (f n on.front more some on.rest)))
    ]
  where
    inside : (left : List ℕ) → 0 < length left → in_angles cs ≡ (x ∷ xs) ++ left → IsNone (triples [] state (tokens n 0 (x ∷ xs)))
    inside left some is =
        let head : code.less ≡ x = cc in
        let tail : cs ++ code.greater ∷ [] ≡ xs ++ left = cc in
        let front = lacks_last xs cs code.greater left some tail in
        let passes : prefix_len (is_in class.Iri) xs ≡ length xs = front_passes (is_in class.Iri) xs front.0 (subst (λ ys. prefix_len (is_in class.Iri) ys ≡ length ys) front.1 allowed) in
        subst (λ c. IsNone (triples [] state (tokens n 0 (c ∷ xs)))) head
        (subst (λ ts. IsNone (triples [] state ts)) (sym (open_iri n xs passes)) (refused state n Bad (tokens n 0 xs) bad))

next_iri : (state after : State) (made : Option Fact) (cs text : List ℕ) → Waits state → Leads state (Iri cs) after made
    → prefix_len (is_in class.Iri) cs ≡ length cs → is_absolute cs ≡ true → Fails after text → Fails state (in_angles cs ++ text)
next_iri state after made cs text w l allowed absolute f n [] more some e = ended state n w
next_iri state after made cs text w l allowed absolute f n (x ∷ xs) more some e = after_iri state after made cs text w.bad l allowed absolute f n x xs more some e

after_carets : (s p text rest : List ℕ) → Fails (Datatype s p text) rest → Fails (Annotation s p text) (code.caret ∷ code.caret ∷ rest)
after_carets s p text rest f n [] more some e = ended (Annotation s p text) n (waits_annotation s p text)
after_carets s p text rest f n (x ∷ []) more some e =
    let head : code.caret ≡ x = cc in
    subst (λ c. IsNone (triples [] (Annotation s p text) (tokens n 0 (c ∷ [])))) head
    (subst (λ ts. IsNone (triples [] (Annotation s p text) ts)) (sym (one_caret n)) (refused (Annotation s p text) n Bad (placed n End ∷ []) (waits_annotation s p text).bad))
after_carets s p text rest f n (x ∷ y ∷ xs) more some e =
    let head : code.caret ≡ x = cc in
    let second : code.caret ≡ y = cc in
    let tail : xs ++ more ≡ rest = cc in
    subst (λ c. IsNone (triples [] (Annotation s p text) (tokens n 0 (c ∷ y ∷ xs)))) head
    (subst (λ c. IsNone (triples [] (Annotation s p text) (tokens n 0 (code.caret ∷ c ∷ xs)))) second
    (subst (λ ts. IsNone (triples [] (Annotation s p text) ts)) (sym (carets_token n xs))
    (goes_none (Annotation s p text) (Datatype s p text) None n Carets (tokens n 0 xs) (carets_leads s p text) (f n xs more some tail))))

-- before the last dot
no_dot : (s p : List ℕ) → Fails (Separator s p) (code.dot ∷ [])
no_dot s p n [] more some e = ended (Separator s p) n (waits_separator s p)
no_dot s p n (x ∷ xs) more some e =
    let tail : xs ++ more ≡ [] = cc in
    absurd (too_long xs more some tail)
  where
    too_long : (xs more : List ℕ) → 0 < length more → xs ++ more ≡ [] → ⊥
    too_long [] [] some e = omega (arith, some)
    too_long [] (m ∷ more) some e = cc
    too_long (x ∷ xs) more some e = cc

-- ---- literals of plain characters

-- none of these is spelled otherwise, or ends a text
pub record IsPlain (c : ℕ) : Type 0 where
  pub quote : eqb c code.quote ≡ false
  pub backslash : eqb c code.backslash ≡ false
  pub feed : eqb c code.line_feed ≡ false
  pub carriage : eqb c code.carriage_return ≡ false
  pub tab : eqb c code.tab ≡ false

abbrev pub ArePlain : List ℕ → Type 0
ArePlain cs = AllByRecursion IsPlain cs

front_plain : (xs rest : List ℕ) → ArePlain (xs ++ rest) → ArePlain xs
front_plain [] rest h = tt
front_plain (x ∷ xs) rest h = (h.0, front_plain xs rest h.1)

spelled_one : (c : ℕ) → IsPlain c → spelled c ≡ c ∷ []
unfolding spelled
spelled_one c h = rw (h.quote, h.backslash, h.feed, h.carriage, h.tab) refl

pub spelled_plain : (cs : List ℕ) → ArePlain cs → flat_map spelled cs ≡ cs
spelled_plain [] h = refl
spelled_plain (c ∷ cs) h = λ i. spelled_one c h.0 i ++ spelled_plain cs h.1 i

never_closed : (cs : List ℕ) → ArePlain cs → quoted code.quote 0 cs ≡ None
unfolding quoted is_line_end
never_closed [] h = refl
never_closed (c ∷ cs) h = let p = h.0 in let rest = never_closed cs h.1 in rw (p.quote, p.backslash, p.carriage, p.feed, rest) refl

closed : (cs rest : List ℕ) → ArePlain cs → quoted code.quote 0 (cs ++ code.quote ∷ rest) ≡ Some (cs, length cs + 1)
unfolding quoted is_line_end
closed [] rest h = refl
closed (c ∷ cs) rest h = let p = h.0 in let more = closed cs rest h.1 in rw (p.quote, p.backslash, p.carriage, p.feed, more) (ap (λ k. Some (c ∷ cs, k)) (omega arith))

no_quote_first : (cs : List ℕ) → ArePlain cs → eqb (get_or cs 0 0) code.quote ≡ false
no_quote_first [] h = refl
no_quote_first (c ∷ cs) h = h.0.quote

not_both : (cs : List ℕ) → ArePlain cs → (eqb (get_or (cs ++ code.quote ∷ []) 0 0) code.quote && eqb (get_or (cs ++ code.quote ∷ []) 1 0) code.quote) ≡ false
not_both [] h = refl
not_both (c ∷ cs) h = let p = h.0 in rw p.quote refl

no_blank_quote : is_blank code.quote ≡ false
unfolding is_blank is_line_end
no_blank_quote = refl

open_literal : (n : ℕ) (cs : List ℕ) → ArePlain cs → tokens n 0 (code.quote ∷ cs) ≡ placed n Bad ∷ tokens n 0 cs
unfolding tokens token_at literal is_blank is_line_end
open_literal n cs h = rw (no_quote_first cs h, never_closed cs h) refl

closed_at : (cs : List ℕ) → ArePlain cs → token_at (code.quote ∷ (cs ++ code.quote ∷ [])) ≡ (Quoted cs, length cs + 1 + 1)
unfolding token_at literal
closed_at cs h = rw (not_both cs h, closed cs [] h) refl

closed_literal : (n : ℕ) (cs : List ℕ) → ArePlain cs → tokens n 0 (code.quote ∷ (cs ++ code.quote ∷ [])) ≡ placed n (Quoted cs) ∷ placed n End ∷ []
closed_literal n cs h =
    let taken : Taken = (Quoted cs, length cs + 1 + 1) in
    let s : Split (code.quote ∷ (cs ++ code.quote ∷ [])) code.quote (cs ++ code.quote ∷ []) = record { some = omega arith; first = refl; rest = refl } in
    let k : length cs + 1 + 1 - 1 ≡ length cs + 1 = omega arith in
    let rest : drop (length cs + 1 + 1 - 1) (cs ++ code.quote ∷ []) ≡ [] = rw k (past_one cs code.quote []) in
    one n (code.quote ∷ (cs ++ code.quote ∷ [])) code.quote (cs ++ code.quote ∷ []) [] taken s (omega arith) no_blank_quote (omega arith) (sym (closed_at cs h)) (sym rest) ∙ ap (λ ts. placed n (Quoted cs) ∷ ts) (at_end n)

plain_token : (n : ℕ) (cs rest : List ℕ) → ArePlain cs → tokens n 0 (code.quote ∷ (cs ++ code.quote ∷ code.caret ∷ rest)) ≡ placed n (Quoted cs) ∷ tokens n 0 (code.caret ∷ rest)
plain_token n cs rest h = ap (λ v. tokens n 0 (code.quote ∷ (v ++ code.quote ∷ code.caret ∷ rest))) (sym (spelled_plain cs h)) ∙ literal_token n cs rest code.caret refl

after_literal : (s p text second : List ℕ) → ArePlain text → Fails (Annotation s p text) (code.caret ∷ second) → Fails (Value s p) (code.quote ∷ (text ++ code.quote ∷ code.caret ∷ second))
after_literal s p text second h f n [] more some e = ended (Value s p) n (waits_value s p)
after_literal s p text second h f n (x ∷ xs) more some e =
    let head : code.quote ≡ x = cc in
    let tail : xs ++ more ≡ text ++ code.quote ∷ code.caret ∷ second = cc in
    let parts : xs ++ more ≡ (text ++ code.quote ∷ []) ++ (code.caret ∷ second) = tail ∙ sym (append_assoc text (code.quote ∷ []) (code.caret ∷ second)) in
    subst (λ c. IsNone (triples [] (Value s p) (tokens n 0 (c ∷ xs)))) head
    (elim (cut_in xs more (text ++ code.quote ∷ []) (code.caret ∷ second) parts) [
      | inl ends ↦ inside xs ends.left ends.some ends.is
      | inr on ↦ subst (λ ys. IsNone (triples [] (Value s p) (tokens n 0 (code.quote ∷ ys)))) (sym (on.is ∙ append_assoc text (code.quote ∷ []) on.front)) (past on.front more some on.rest)
    ])
  where
    inside : (xs left : List ℕ) → 0 < length left → text ++ code.quote ∷ [] ≡ xs ++ left → IsNone (triples [] (Value s p) (tokens n 0 (code.quote ∷ xs)))
    inside xs left some is =
        let front = lacks_last xs text code.quote left some is in
        let all : ArePlain xs = front_plain xs front.0 (subst ArePlain front.1 h) in
        subst (λ ts. IsNone (triples [] (Value s p) ts)) (sym (open_literal n xs all)) (refused (Value s p) n Bad (tokens n 0 xs) (waits_value s p).bad)

    past : (front more : List ℕ) → 0 < length more → front ++ more ≡ code.caret ∷ second → IsNone (triples [] (Value s p) (tokens n 0 (code.quote ∷ (text ++ code.quote ∷ front))))
    past [] more some e =
        subst (λ ts. IsNone (triples [] (Value s p) ts)) (sym (closed_literal n text h))
        (goes_none (Value s p) (Annotation s p text) None n (Quoted text) (placed n End ∷ []) (quoted_leads s p text) (refused (Annotation s p text) n End [] (waits_annotation s p text).end))
    past (y ∷ front) more some e =
        let head : code.caret ≡ y = cc in
        subst (λ c. IsNone (triples [] (Value s p) (tokens n 0 (code.quote ∷ (text ++ code.quote ∷ c ∷ front))))) head
        (subst (λ ts. IsNone (triples [] (Value s p) ts)) (sym (plain_token n text front h))
        (goes_none (Value s p) (Annotation s p text) None n (Quoted text) (tokens n 0 (code.caret ∷ front)) (quoted_leads s p text) (f n (code.caret ∷ front) more some (subst (λ c. c ∷ (front ++ more) ≡ code.caret ∷ second) (sym head) e))))

-- ---- lines

-- an object without a language, and of plain characters where it is a text
abbrev pub IsBare : Term → Type 0
IsBare (Resource iri) = ⊤
IsBare (Literal text datatype []) = ArePlain (chars text)
IsBare (Literal text datatype (c ∷ lang)) = ⊥

abbrev from_object : Term → List ℕ → List ℕ
from_object o tail = object_text o ++ (code.space ∷ code.dot ∷ tail)

-- a line up to its dot, and what stands behind it
abbrev with_tail : Fact → List ℕ → List ℕ
with_tail t tail = in_angles (chars t.subject) ++ (code.space ∷ (in_angles (chars t.predicate) ++ (code.space ∷ from_object t.object tail)))

line_parts : (t : Fact) (rest : List ℕ) → line t ++ rest ≡ with_tail t (code.line_feed ∷ rest)
line_parts t rest = simp append_assoc

line_ends : (t : Fact) → line t ≡ with_tail t [] ++ code.line_feed ∷ []
line_ends t = sym (append-nil (line t)) ∙ line_parts t [] ∙ sym (last_of t)
  where
    last_of : (t : Fact) → with_tail t [] ++ code.line_feed ∷ [] ≡ with_tail t (code.line_feed ∷ [])
    last_of t =
        let s = in_angles (chars t.subject) in
        let p = in_angles (chars t.predicate) in
        let feed : List ℕ = code.line_feed ∷ [] in
        append_assoc s (code.space ∷ (p ++ (code.space ∷ from_object t.object []))) feed
        ∙ ap (λ v. s ++ (code.space ∷ v)) (append_assoc p (code.space ∷ from_object t.object []) feed ∙ ap (λ v. p ++ (code.space ∷ v)) (append_assoc (object_text t.object) (code.space ∷ code.dot ∷ []) feed))

literal_parts : (text d tail : List ℕ) → ArePlain (chars text)
    → from_object (Literal text d []) tail ≡ code.quote ∷ (chars text ++ code.quote ∷ code.caret ∷ code.caret ∷ (in_angles (chars d) ++ (code.space ∷ code.dot ∷ tail)))
literal_parts text d tail h =
    let regroup : from_object (Literal text d []) tail ≡ code.quote ∷ (flat_map spelled (chars text) ++ code.quote ∷ code.caret ∷ code.caret ∷ (in_angles (chars d) ++ (code.space ∷ code.dot ∷ tail))) = simp append_assoc in
    regroup ∙ ap (λ v. code.quote ∷ (v ++ code.quote ∷ code.caret ∷ code.caret ∷ (in_angles (chars d) ++ (code.space ∷ code.dot ∷ tail)))) (spelled_plain (chars text) h)

object_fails : (s p : List ℕ) (o : Term) → IsTerm o → IsBare o → Fails (Value s p) (from_object o [])
object_fails s p (Resource iri) h bare =
    next_iri (Value s p) (Separator s p) (Some (fact s p (Resource (encode_utf8_all (chars iri))))) (chars iri) (code.space ∷ code.dot ∷ []) (waits_value s p) (resource_leads s p (chars iri)) h.allowed h.absolute
    (after_space (Separator s p) (code.dot ∷ []) (waits_separator s p) (no_dot s p))
object_fails s p (Literal text d []) h bare =
    subst (Fails (Value s p)) (sym (literal_parts text d [] bare))
    (after_literal s p (chars text) (code.caret ∷ (in_angles (chars d) ++ (code.space ∷ code.dot ∷ []))) bare
    (after_carets s p (chars text) (in_angles (chars d) ++ (code.space ∷ code.dot ∷ []))
    (next_iri (Datatype s p (chars text)) (Separator s p) (Some (fact s p (typed (chars text) (encode_utf8_all (chars d))))) (chars d) (code.space ∷ code.dot ∷ []) (waits_datatype s p (chars text))
    (datatype_leads s p (chars text) (chars d)) h.1.allowed h.1.absolute
    (after_space (Separator s p) (code.dot ∷ []) (waits_separator s p) (no_dot s p)))))
object_fails s p (Literal text d (c ∷ lang)) h bare = absurd bare

no_statement : next [] Statement Bad ≡ None
unfolding next
no_statement = refl

line_fails : (t : Fact) → IsFact t → IsBare t.object → (n x : ℕ) (xs more : List ℕ) → 0 < length more → (x ∷ xs) ++ more ≡ with_tail t [] → IsNone (triples [] Statement (tokens n 0 (x ∷ xs)))
line_fails t h bare n x xs more some e =
    let s = chars t.subject in
    let p = chars t.predicate in
    let object = after_space (Value s p) (from_object t.object []) (waits_value s p) (object_fails s p t.object h.object bare) in
    let predicate = next_iri (Predicate s) (Value s p) None p (code.space ∷ from_object t.object []) (waits_predicate s) (predicate_leads s p) h.predicate.allowed h.predicate.absolute object in
    after_iri Statement (Predicate s) None s (code.space ∷ (in_angles p ++ (code.space ∷ from_object t.object []))) no_statement (subject_leads s) h.subject.allowed h.subject.absolute
    (after_space (Predicate s) (in_angles p ++ (code.space ∷ from_object t.object [])) (waits_predicate s) predicate) n x xs more some e

-- ---- lines that are whole

-- the bytes of a text are those of its characters
back : (bytes : List ℕ) → IsUtf8 bytes → encode_utf8_all (chars bytes) ≡ bytes
back bytes h = ap encode_utf8_all (sym (chars_from_encodes h.0 bytes h h.1.1)) ∙ h.1.1

silent : (state after : State) (n : ℕ) (token : Token) (ts : List Placed) → Leads state token after None → triples [] state (placed n token ∷ ts) ≡ triples [] after ts
silent state after n token ts l = goes state after None n token ts l ∙ before_nil (triples [] after ts)

end_reads : (s p : List ℕ) (n : ℕ) (tail : List ℕ) (us : List Placed) → tokens n 0 (code.dot ∷ tail) ≡ placed n Dot ∷ us → triples [] (Separator s p) (tokens n 0 (code.space ∷ code.dot ∷ tail)) ≡ triples [] Statement us
end_reads s p n tail us dot = ap (triples [] (Separator s p)) (blank n (code.dot ∷ tail) ∙ dot) ∙ silent (Separator s p) Statement n Dot us (dot_leads s p)

object_reads : (s p : List ℕ) (o : Term) → IsTerm o → IsBare o → (n : ℕ) (tail : List ℕ) (us : List Placed) → tokens n 0 (code.dot ∷ tail) ≡ placed n Dot ∷ us
    → triples [] (Value s p) (tokens n 0 (from_object o tail)) ≡ before (fact s p o ∷ []) (triples [] Statement us)
object_reads s p (Resource iri) h bare n tail us dot =
    let made : Fact = fact s p (Resource (encode_utf8_all (chars iri))) in
    ap (triples [] (Value s p)) (iri_token n (chars iri) (code.space ∷ code.dot ∷ tail) h.allowed h.absolute)
    ∙ goes (Value s p) (Separator s p) (Some made) n (Iri (chars iri)) (tokens n 0 (code.space ∷ code.dot ∷ tail)) (resource_leads s p (chars iri))
    ∙ ap (before (made ∷ [])) (end_reads s p n tail us dot)
    ∙ ap (λ b. before (fact s p (Resource b) ∷ []) (triples [] Statement us)) (back iri h.text)
object_reads s p (Literal text d []) h bare n tail us dot =
    let made : Fact = fact s p (typed (chars text) (encode_utf8_all (chars d))) in
    let rest : List ℕ = in_angles (chars d) ++ (code.space ∷ code.dot ∷ tail) in
    ap (λ v. triples [] (Value s p) (tokens n 0 v)) (literal_parts text d tail bare)
    ∙ ap (triples [] (Value s p)) (plain_token n (chars text) (code.caret ∷ rest) bare)
    ∙ silent (Value s p) (Annotation s p (chars text)) n (Quoted (chars text)) (tokens n 0 (code.caret ∷ code.caret ∷ rest)) (quoted_leads s p (chars text))
    ∙ ap (triples [] (Annotation s p (chars text))) (carets_token n rest)
    ∙ silent (Annotation s p (chars text)) (Datatype s p (chars text)) n Carets (tokens n 0 rest) (carets_leads s p (chars text))
    ∙ ap (triples [] (Datatype s p (chars text))) (iri_token n (chars d) (code.space ∷ code.dot ∷ tail) h.1.allowed h.1.absolute)
    ∙ goes (Datatype s p (chars text)) (Separator s p) (Some made) n (Iri (chars d)) (tokens n 0 (code.space ∷ code.dot ∷ tail)) (datatype_leads s p (chars text) (chars d))
    ∙ ap (before (made ∷ [])) (end_reads s p n tail us dot)
    ∙ (λ i. before (fact s p (Literal (back text h.0 i) (back d h.1.text i) []) ∷ []) (triples [] Statement us))
object_reads s p (Literal text d (c ∷ lang)) h bare n tail us dot = absurd bare

line_reads : (t : Fact) → IsFact t → IsBare t.object → (n : ℕ) (tail : List ℕ) (us : List Placed) → tokens n 0 (code.dot ∷ tail) ≡ placed n Dot ∷ us
    → triples [] Statement (tokens n 0 (with_tail t tail)) ≡ before (t ∷ []) (triples [] Statement us)
line_reads t h bare n tail us dot =
    let s = chars t.subject in
    let p = chars t.predicate in
    let object : List ℕ = from_object t.object tail in
    ap (triples [] Statement) (iri_token n s (code.space ∷ (in_angles p ++ (code.space ∷ object))) h.subject.allowed h.subject.absolute)
    ∙ silent Statement (Predicate s) n (Iri s) (tokens n 0 (code.space ∷ (in_angles p ++ (code.space ∷ object)))) (subject_leads s)
    ∙ ap (triples [] (Predicate s)) (blank n (in_angles p ++ (code.space ∷ object)) ∙ iri_token n p (code.space ∷ object) h.predicate.allowed h.predicate.absolute)
    ∙ silent (Predicate s) (Value s p) n (Iri p) (tokens n 0 (code.space ∷ object)) (predicate_leads s p)
    ∙ ap (triples [] (Value s p)) (blank n object)
    ∙ object_reads s p t.object h.object bare n tail us dot
    ∙ (λ i. before (record { subject = back t.subject h.subject.text i; predicate = back t.predicate h.predicate.text i; object = t.object } ∷ []) (triples [] Statement us))

nothing_more : (n : ℕ) → triples [] Statement (tokens n 0 []) ≡ Gives []
unfolding tokens triples next
nothing_more n = refl

last_line : (t : Fact) → IsFact t → IsBare t.object → (n : ℕ) → triples [] Statement (tokens n 0 (with_tail t [])) ≡ Gives (t ∷ [])
last_line t h bare n = line_reads t h bare n [] (placed n End ∷ []) (last_dot n) ∙ ap (λ ts. before (t ∷ []) (triples [] Statement ts)) (sym (at_end n)) ∙ ap (before (t ∷ [])) (nothing_more n)

-- ---- a front of lines

-- some of the facts, and not all
pub record GivesFew (ts : List Fact) (o : Outcome) : Type 0 where
  pub count : ℕ
  pub few : count < length ts
  pub gives : o ≡ Gives (take count ts)

-- it lacks nothing, or a line feed
abbrev pub IsLastFeed : List ℕ → Type 0
IsLastFeed more = (more ≡ []) ⊎ (more ≡ code.line_feed ∷ [])

-- a front of lines that lacks this gives no triples, or not all, or all where it lacks the last line feed at most
abbrev pub IsOfFront : List Fact → List ℕ → Outcome → Type 0
IsOfFront ts more o = IsNone o ⊎ (GivesFew ts o ⊎ (IsLastFeed more × (o ≡ Gives ts)))

one_more : (t : Fact) (ts : List Fact) (more : List ℕ) (o : Outcome) → IsOfFront ts more o → IsOfFront (t ∷ ts) more (before (t ∷ []) o)
one_more t ts more o (inl none) = inl (none_before (t ∷ []) o none)
one_more t ts more o (inr (inl g)) = inr (inl (record { count = g.count + 1; few = omega (arith, g.few); gives = ap (before (t ∷ [])) g.gives ∙ ap (λ (xs : List Fact). Gives xs) (sym (take_more g.count)) }))
  where
    one_up : (k : ℕ) → k + 1 ≡ suc k
    one_up k = omega arith

    take_more : (k : ℕ) → take (k + 1) (t ∷ ts) ≡ t ∷ take k ts
    take_more k = ap (λ n. take n (t ∷ ts)) (one_up k)
one_more t ts more o (inr (inr all)) = inr (inr (all.0, ap (before (t ∷ [])) all.1))

inside : (t : Fact) (ts : List Fact) → IsFact t → IsBare t.object → (n : ℕ) (xs left more : List ℕ) → 0 < length left → line t ≡ xs ++ left → xs ++ more ≡ line t ++ flat_map line ts → IsOfFront (t ∷ ts) more (triples [] Statement (tokens n 0 xs))
inside t ts h bare n [] left more some is e = inr (inl (record { count = 0; few = omega arith; gives = nothing_more n }))
inside t ts h bare n (x ∷ xs) left more some is e =
    let rest = lacks_last (x ∷ xs) (with_tail t []) code.line_feed left some (sym (line_ends t) ∙ is) in by_rest rest.0 rest.1
  where
    by_lines : (us : List Fact) → triples [] Statement (tokens n 0 (x ∷ xs)) ≡ Gives (t ∷ []) → (x ∷ xs) ++ more ≡ ((x ∷ xs) ++ code.line_feed ∷ []) ++ flat_map line us
        → IsOfFront (t ∷ us) more (triples [] Statement (tokens n 0 (x ∷ xs)))
    by_lines [] gives all = inr (inr (inr (append_cancel_left (x ∷ xs) more (code.line_feed ∷ []) (all ∙ append-nil ((x ∷ xs) ++ code.line_feed ∷ []))), gives))
    by_lines (u ∷ us) gives all = inr (inl (record { count = 1; few = omega arith; gives = gives }))

    by_rest : (rest : List ℕ) → with_tail t [] ≡ (x ∷ xs) ++ rest → IsOfFront (t ∷ ts) more (triples [] Statement (tokens n 0 (x ∷ xs)))
    by_rest [] whole =
        let same : with_tail t [] ≡ x ∷ xs = whole ∙ append-nil (x ∷ xs) in
        let gives : triples [] Statement (tokens n 0 (x ∷ xs)) ≡ Gives (t ∷ []) = ap (λ v. triples [] Statement (tokens n 0 v)) (sym same) ∙ last_line t h bare n in
        let ends : line t ≡ (x ∷ xs) ++ code.line_feed ∷ [] = line_ends t ∙ ap (λ v. v ++ code.line_feed ∷ []) same in
        by_lines ts gives (e ∙ ap (λ v. v ++ flat_map line ts) ends)
    by_rest (r ∷ rest) whole = inl (line_fails t h bare n x xs (r ∷ rest) (omega arith) (sym whole))

pub cut_lines : (ts : List Fact) (n : ℕ) (xs more : List ℕ) → AreFacts ts → AllByRecursion (λ t. IsBare t.object) ts → xs ++ more ≡ flat_map line ts → IsOfFront ts more (triples [] Statement (tokens n 0 xs))
cut_lines [] n [] more h bare e = inr (inr (inl e, nothing_more n))
cut_lines [] n (x ∷ xs) more h bare e = absurd cc
cut_lines (t ∷ ts) n xs more h bare e =
    elim (cut_in xs more (line t) (flat_map line ts) e) [
      | inl ends ↦ inside t ts h.0 bare.0 n xs ends.left more ends.some ends.is e
      | inr on ↦
          let so : triples [] Statement (tokens n 0 xs) ≡ before (t ∷ []) (triples [] Statement (tokens (n + 1) 0 on.front)) =
          ap (λ v. triples [] Statement (tokens n 0 v)) (on.is ∙ line_parts t on.front) ∙ line_reads t h.0 bare.0 n (code.line_feed ∷ on.front) (tokens (n + 1) 0 on.front) (dot_token n on.front) in
          subst (IsOfFront (t ∷ ts) more) (sym so) (one_more t ts more (triples [] Statement (tokens (n + 1) 0 on.front)) (cut_lines ts (n + 1) on.front more h.1 bare.1 on.rest))
    ]

-- ---- lines without the last line feed

pub feedless : List Fact → List ℕ
feedless [] = []
feedless (t ∷ []) = with_tail t []
feedless (t ∷ u ∷ ts) = line t ++ feedless (u ∷ ts)

pub feedless_is : (t : Fact) (ts : List Fact) → flat_map line (t ∷ ts) ≡ feedless (t ∷ ts) ++ code.line_feed ∷ []
unfolding feedless
feedless_is t [] = append-nil (line t) ∙ line_ends t
feedless_is t (u ∷ ts) = ap (λ v. line t ++ v) (feedless_is u ts) ∙ sym (append_assoc (line t) (feedless (u ∷ ts)) (code.line_feed ∷ []))

pub feedless_reads : (t : Fact) (ts : List Fact) (n : ℕ) → AreFacts (t ∷ ts) → AllByRecursion (λ t. IsBare t.object) (t ∷ ts) → triples [] Statement (tokens n 0 (feedless (t ∷ ts))) ≡ Gives (t ∷ ts)
unfolding feedless
feedless_reads t [] n h bare = last_line t h.0 bare.0 n
feedless_reads t (u ∷ ts) n h bare =
    ap (λ v. triples [] Statement (tokens n 0 v)) (line_parts t (feedless (u ∷ ts)))
    ∙ line_reads t h.0 bare.0 n (code.line_feed ∷ feedless (u ∷ ts)) (tokens (n + 1) 0 (feedless (u ∷ ts))) (dot_token n (feedless (u ∷ ts)))
    ∙ ap (before (t ∷ [])) (feedless_reads u ts (n + 1) h.1 bare.1)
