-- What is read is a document.
use Rattle.std.proofs.Common.{◌≡◌, ℕ, ◌⊎◌, Bool, true, false, cond, ◌||◌, List, [], ◌∷◌, ◌++◌, Option, Some, None, codes, refl, sym, ap, subst, ◌∙◌, append_assoc, inl, inr}
use Rattle.std.proofs.lemmas.Slice.Eq.{bytes_eq-Decides}
use Rattle.std.specs.Str.{bytes_eq, encode_utf8_all}
use Rattle.aff_turtle.specs.declared.error.TurtleError.{TurtleError}
use Rattle.aff_turtle.specs.Tokens.{Token, Placed, Iri, Name, Quoted, At, Word, Integer, Carets, Dot, Semicolon, Comma, End}
use Rattle.aff_turtle.specs.Triples.{Term, Resource, Literal, Fact, fact, typed, xsd_string, xsd_integer, xsd_boolean, lang_string}
use Rattle.aff_turtle.specs.Prefixes.{Prefix, named, predicate}
use Rattle.aff_turtle.specs.Refusals.{refusal}
use Rattle.aff_turtle.specs.Machine.{State, Statement, PrefixName, PrefixIri, PrefixEnd, Predicate, NextPredicate, Value, Annotation, Datatype, Separator, Done, Step, to, makes, at_subject, at_statement, at_prefix_name, at_prefix_iri, at_prefix_end, at_verb, at_next_predicate, at_value, at_resource, at_separator, at_annotation, at_datatype, making, plain, next, add, before, lead, is_done, triples, Outcome, Gives, Refuses, Breaks}
use Rattle.aff_turtle.specs.Productions.{BeginsObject, resource, plain_text, typed_text, tagged_text, integer, boolean, BeginsObjects, last_object, more_objects, BeginsSemicolons, last_semicolon, more_semicolons, BeginsPredicates, last_predicate, trailing, more_predicates, IsDocument, the_end, prefix_line, statement}

-- ---- what each state leaves to come

-- behind the objects of a predicate: `.`, or `;` and what may come then
data Tail (ps : List Prefix) (s : List ℕ) : List Placed → List Fact → Type 0 where
  stop : (t : Placed) (ts : List Placed) (out : List Fact) → t.token ≡ Dot → IsDocument ps ts out → Tail ps s (t ∷ ts) out
  trail : (ts : List Placed) (t : Placed) (rest : List Placed) (out : List Fact) → BeginsSemicolons ts (t ∷ rest) → t.token ≡ Dot → IsDocument ps rest out → Tail ps s ts out
  again : (ts us rest : List Placed) (out more : List Fact) → BeginsSemicolons ts us → BeginsPredicates ps s us out rest → IsDocument ps rest more → Tail ps s ts (out ++ more)

-- predicates, and a document behind them
data Verbs (ps : List Prefix) (s : List ℕ) : List Placed → List Fact → Type 0 where
  verbs : (ts rest : List Placed) (out more : List Fact) → BeginsPredicates ps s ts out rest → IsDocument ps rest more → Verbs ps s ts (out ++ more)

-- objects, and what may stand behind them
data Values (ps : List Prefix) (s p : List ℕ) : List Placed → List Fact → Type 0 where
  values : (ts us : List Placed) (out more : List Fact) → BeginsObjects ps s p ts out us → Tail ps s us more → Values ps s p ts (out ++ more)

-- behind an object
data Behind (ps : List Prefix) (s p : List ℕ) : List Placed → List Fact → Type 0 where
  tail : (ts : List Placed) (out : List Fact) → Tail ps s ts out → Behind ps s p ts out
  others : (t : Placed) (ts : List Placed) (out : List Fact) → t.token ≡ Comma → Values ps s p ts out → Behind ps s p (t ∷ ts) out

abbrev Rest : List Prefix → State → List Placed → List Fact → Type 0
Rest ps Statement ts out = IsDocument ps ts out
Rest ps PrefixName ts out = (t : Placed) → t.token ≡ At (codes "prefix") → IsDocument ps (t ∷ ts) out
Rest ps (PrefixIri name) ts out = (t u : Placed) → t.token ≡ At (codes "prefix") → u.token ≡ Name name [] → IsDocument ps (t ∷ u ∷ ts) out
Rest ps (PrefixEnd name iri) ts out = (t u v : Placed) → t.token ≡ At (codes "prefix") → u.token ≡ Name name [] → v.token ≡ Iri iri → IsDocument ps (t ∷ u ∷ v ∷ ts) out
Rest ps (Predicate s) ts out = Verbs ps s ts out
Rest ps (NextPredicate s) ts out = (t : Placed) → t.token ≡ Semicolon → Tail ps s (t ∷ ts) out
Rest ps (Value s p) ts out = Values ps s p ts out
Rest ps (Annotation s p text) ts out = (t : Placed) → t.token ≡ Quoted text → Values ps s p (t ∷ ts) out
Rest ps (Datatype s p text) ts out = (t u : Placed) → t.token ≡ Quoted text → u.token ≡ Carets → Values ps s p (t ∷ u ∷ ts) out
Rest ps (Separator s p) ts out = Behind ps s p ts out
Rest ps Done ts out = (ts ≡ []) × (out ≡ [])

-- what a step leaves to come
abbrev Leads : List Prefix → List Placed → List Fact → Option Step → Type 0
Leads ps ts out None = ⊥
Leads ps ts out (Some step) = (more : List Fact) × Rest (add step.declares ps) step.state ts more × (out ≡ add step.made [] ++ more)

guarded : (ps : List Prefix) (ts : List Placed) (out : List Fact) (b : Bool) (step : Option Step) → Leads ps ts out (cond b step None) → (b ≡ true) × Leads ps ts out step
guarded ps ts out true step h = (refl, h)
guarded ps ts out false step h = absurd h

-- ---- statements

the_subject : (ps : List Prefix) (t : Placed) (ts : List Placed) (out : List Fact) (o : Option (List ℕ)) → named ps t.token ≡ o → Leads ps ts out (at_subject o) → IsDocument ps (t ∷ ts) out
the_subject ps t ts out None e h = absurd h
the_subject ps t ts out (Some s) e h = with_verbs ts h.0 h.1 out h.2
  where
    with_verbs : (ts : List Placed) (found : List Fact) → Verbs ps s ts found → (all : List Fact) → all ≡ found → IsDocument ps (t ∷ ts) all
    with_verbs _ _ (verbs ts rest a more p d) all f = subst (IsDocument ps (t ∷ ts)) (sym f) (statement ps t s ts rest a more e p d)

at_the_end : (ps : List Prefix) (t : Placed) (ts : List Placed) (out : List Fact) → t.token ≡ End → ts ≡ [] → out ≡ [] → IsDocument ps (t ∷ ts) out
at_the_end ps t ts out e f g = rw (f, g) (the_end ps t e)

is_word : (word text : List ℕ) → bytes_eq word text ≡ true → word ≡ text
is_word word text h = (bytes_eq-Decides word text).0 h

close_statement : (ps : List Prefix) (t : Placed) (ts : List Placed) (out : List Fact) (token : Token) → t.token ≡ token → Leads ps ts out (at_statement ps token) → IsDocument ps (t ∷ ts) out
close_statement ps t ts out End e h = at_the_end ps t ts out e h.1.0 (h.2 ∙ h.1.1)
close_statement ps t ts out (At word) e h =
    let g = guarded ps ts out (bytes_eq word (codes "prefix")) (to PrefixName) h in
    subst (IsDocument ps (t ∷ ts)) (sym g.1.2) (g.1.1 t (e ∙ ap (λ w. At w) (is_word word (codes "prefix") g.0)))
close_statement ps t ts out (Iri text) e h = the_subject ps t ts out (Some text) (ap (named ps) e) h
close_statement ps t ts out (Name prefix local) e h = the_subject ps t ts out (named ps (Name prefix local)) (ap (named ps) e) h
close_statement ps t ts out _ e h = absurd h

-- ---- prefix lines

close_prefix_name : (ps : List Prefix) (u : Placed) (ts : List Placed) (out : List Fact) (token : Token) → u.token ≡ token → Leads ps ts out (at_prefix_name token) → Rest ps PrefixName (u ∷ ts) out
close_prefix_name ps u ts out (Name prefix []) e h = λ t f. subst (IsDocument ps (t ∷ u ∷ ts)) (sym h.2) (h.1 t u f e)
close_prefix_name ps u ts out _ e h = absurd h

close_prefix_iri : (ps : List Prefix) (name : List ℕ) (v : Placed) (ts : List Placed) (out : List Fact) (token : Token) → v.token ≡ token → Leads ps ts out (at_prefix_iri name token) → Rest ps (PrefixIri name) (v ∷ ts) out
close_prefix_iri ps name v ts out (Iri iri) e h = λ t u f g. subst (IsDocument ps (t ∷ u ∷ v ∷ ts)) (sym h.2) (h.1 t u v f g e)
close_prefix_iri ps name v ts out _ e h = absurd h

close_prefix_end : (ps : List Prefix) (name iri : List ℕ) (w : Placed) (ts : List Placed) (out : List Fact) (token : Token) → w.token ≡ token → Leads ps ts out (at_prefix_end name iri token) → Rest ps (PrefixEnd name iri) (w ∷ ts) out
close_prefix_end ps name iri w ts out Dot e h = λ t u v f g k. subst (IsDocument ps (t ∷ u ∷ v ∷ w ∷ ts)) (sym h.2) (prefix_line ps t u v w name iri ts h.0 f g k e h.1)
close_prefix_end ps name iri w ts out _ e h = absurd h

-- ---- predicates

close_verb : (ps : List Prefix) (s p : List ℕ) (t : Placed) (ts : List Placed) (out : List Fact) → predicate ps t.token ≡ Some p → Values ps s p ts out → Verbs ps s (t ∷ ts) out
close_verb ps s p t _ _ e (values ts _ a _ h (stop dot rest more f d)) = verbs (t ∷ ts) rest a more (last_predicate t p ts a dot rest e h f) d
close_verb ps s p t _ _ e (values ts us a _ h (trail _ dot rest more k f d)) = verbs (t ∷ ts) rest a more (trailing t p ts us a dot rest e h k f) d
close_verb ps s p t _ _ e (values ts us a _ h (again _ vs rest b more k q d)) = subst (Verbs ps s (t ∷ ts)) (append_assoc a b more) (verbs (t ∷ ts) rest (a ++ b) more (more_predicates t p ts us vs a b rest e h k q) d)

the_verb : (ps : List Prefix) (s : List ℕ) (t : Placed) (ts : List Placed) (out : List Fact) (o : Option (List ℕ)) → predicate ps t.token ≡ o → Leads ps ts out (at_verb s o) → Verbs ps s (t ∷ ts) out
the_verb ps s t ts out None e h = absurd h
the_verb ps s t ts out (Some p) e h = subst (Verbs ps s (t ∷ ts)) (sym h.2) (close_verb ps s p t ts h.0 e h.1)

behind_semicolon : (ps : List Prefix) (s : List ℕ) (t : Placed) (ts : List Placed) (out : List Fact) → Verbs ps s ts out → t.token ≡ Semicolon → Tail ps s (t ∷ ts) out
behind_semicolon ps s t _ _ (verbs ts rest a more p d) e = again (t ∷ ts) ts rest a more (last_semicolon t ts e) p d

semicolon_more : (ps : List Prefix) (s : List ℕ) (t u : Placed) (ts : List Placed) (out : List Fact) → t.token ≡ Semicolon → u.token ≡ Semicolon → Tail ps s (u ∷ ts) out → Tail ps s (t ∷ u ∷ ts) out
semicolon_more ps s t u ts out e f (stop _ _ _ k d) = absurd (other u.token f k)
  where
    other : (token : Token) → token ≡ Semicolon → token ≡ Dot → ⊥
    other token a b = cc
semicolon_more ps s t u ts out e f (trail _ dot rest _ k g d) = trail (t ∷ u ∷ ts) dot rest out (more_semicolons t (u ∷ ts) (dot ∷ rest) e k) g d
semicolon_more ps s t u ts _ e f (again _ us rest a more k p d) = again (t ∷ u ∷ ts) us rest a more (more_semicolons t (u ∷ ts) us e k) p d

close_next : (ps : List Prefix) (s : List ℕ) (u : Placed) (ts : List Placed) (out : List Fact) (token : Token) → u.token ≡ token → Leads ps ts out (at_next_predicate ps s token) → Rest ps (NextPredicate s) (u ∷ ts) out
close_next ps s u ts out Semicolon f h = λ t e. subst (Tail ps s (t ∷ u ∷ ts)) (sym h.2) (semicolon_more ps s t u ts h.0 e f (h.1 u f))
close_next ps s u ts out Dot f h = λ t e. subst (Tail ps s (t ∷ u ∷ ts)) (sym h.2) (trail (t ∷ u ∷ ts) u ts h.0 (last_semicolon t (u ∷ ts) e) f h.1)
close_next ps s u ts out (Iri text) f h = λ t e. behind_semicolon ps s t (u ∷ ts) out (the_verb ps s u ts out (Some text) (ap (predicate ps) f) h) e
close_next ps s u ts out (Name prefix local) f h = λ t e. behind_semicolon ps s t (u ∷ ts) out (the_verb ps s u ts out (predicate ps (Name prefix local)) (ap (predicate ps) f) h) e
close_next ps s u ts out (Word word) f h = λ t e. behind_semicolon ps s t (u ∷ ts) out (the_verb ps s u ts out (predicate ps (Word word)) (ap (predicate ps) f) h) e
close_next ps s u ts out _ f h = absurd h

-- ---- objects

close_object : (ps : List Prefix) (s p : List ℕ) (ts : List Placed) (o : Term) (rest : List Placed) (out : List Fact) → BeginsObject ps ts o rest → Behind ps s p rest out → Values ps s p ts (fact s p o ∷ out)
close_object ps s p ts o _ _ h (tail rest out k) = values ts rest (fact s p o ∷ []) out (last_object ts o rest h) k
close_object ps s p ts o _ _ h (others t us _ e (values _ vs a more q k)) = values ts vs (fact s p o ∷ a) more (more_objects ts o t us a vs h e q) k

close_made : (ps : List Prefix) (s p : List ℕ) (ts : List Placed) (o : Term) (rest : List Placed) (out : List Fact) → BeginsObject ps ts o rest → Leads ps rest out (makes s p o) → Values ps s p ts out
close_made ps s p ts o rest out b h = subst (Values ps s p ts) (sym h.2) (close_object ps s p ts o rest h.0 b h.1)

the_resource : (ps : List Prefix) (s p : List ℕ) (t : Placed) (ts : List Placed) (out : List Fact) (o : Option (List ℕ)) → named ps t.token ≡ o → Leads ps ts out (at_resource s p o) → Values ps s p (t ∷ ts) out
the_resource ps s p t ts out None e h = absurd h
the_resource ps s p t ts out (Some iri) e h = close_made ps s p (t ∷ ts) (Resource (encode_utf8_all iri)) ts out (resource t iri ts e) h

true_or_false : (word : List ℕ) → (bytes_eq word (codes "true") || bytes_eq word (codes "false")) ≡ true → (word ≡ codes "true") ⊎ (word ≡ codes "false")
true_or_false word h = elim (cases (bytes_eq word (codes "true")) (bytes_eq word (codes "false")) h) [ inl e ↦ inl (is_word word (codes "true") e) | inr e ↦ inr (is_word word (codes "false") e) ]
  where
    cases : (a b : Bool) → (a || b) ≡ true → (a ≡ true) ⊎ (b ≡ true)
    cases true b h = inl refl
    cases false b h = inr h

close_value : (ps : List Prefix) (s p : List ℕ) (t : Placed) (ts : List Placed) (out : List Fact) (token : Token) → t.token ≡ token → Leads ps ts out (at_value ps s p token) → Values ps s p (t ∷ ts) out
close_value ps s p t ts out (Quoted text) e h = subst (Values ps s p (t ∷ ts)) (sym h.2) (h.1 t e)
close_value ps s p t ts out (Integer text) e h = close_made ps s p (t ∷ ts) (typed text xsd_integer) ts out (integer t text ts e) h
close_value ps s p t ts out (Word word) e h =
    let g = guarded ps ts out (bytes_eq word (codes "true") || bytes_eq word (codes "false")) (makes s p (typed word xsd_boolean)) h in
    close_made ps s p (t ∷ ts) (typed word xsd_boolean) ts out (boolean t word ts e (true_or_false word g.0)) g.1
close_value ps s p t ts out (Iri text) e h = the_resource ps s p t ts out (Some text) (ap (named ps) e) h
close_value ps s p t ts out (Name prefix local) e h = the_resource ps s p t ts out (named ps (Name prefix local)) (ap (named ps) e) h
close_value ps s p t ts out _ e h = absurd h

close_separator : (ps : List Prefix) (s p : List ℕ) (t : Placed) (ts : List Placed) (out : List Fact) (token : Token) → t.token ≡ token → Leads ps ts out (at_separator s p token) → Behind ps s p (t ∷ ts) out
close_separator ps s p t ts out Comma e h = others t ts out e (subst (Values ps s p ts) (sym h.2) h.1)
close_separator ps s p t ts out Semicolon e h = tail (t ∷ ts) out (subst (Tail ps s (t ∷ ts)) (sym h.2) (h.1 t e))
close_separator ps s p t ts out Dot e h = tail (t ∷ ts) out (stop t ts out e (subst (IsDocument ps ts) (sym h.2) h.1))
close_separator ps s p t ts out _ e h = absurd h

-- a separator that makes the plain literal before it
unmade : (ps : List Prefix) (s p : List ℕ) (made : Fact) (u : Placed) (ts : List Placed) (out : List Fact) (token : Token) → u.token ≡ token → Leads ps ts out (making made (at_separator s p token)) → (more : List Fact) × Behind ps s p (u ∷ ts) more × (out ≡ made ∷ more)
unmade ps s p made u ts out Comma f h = (h.0, close_separator ps s p u ts h.0 Comma f (h.0, h.1, refl), h.2)
unmade ps s p made u ts out Semicolon f h = (h.0, close_separator ps s p u ts h.0 Semicolon f (h.0, h.1, refl), h.2)
unmade ps s p made u ts out Dot f h = (h.0, close_separator ps s p u ts h.0 Dot f (h.0, h.1, refl), h.2)
unmade ps s p made u ts out _ f h = absurd h

close_plain : (ps : List Prefix) (s p text : List ℕ) (u : Placed) (ts : List Placed) (out : List Fact) (token : Token) → u.token ≡ token → Leads ps ts out (making (plain s p text) (at_separator s p token)) → Rest ps (Annotation s p text) (u ∷ ts) out
close_plain ps s p text u ts out token f h = λ t e.
    let k = unmade ps s p (plain s p text) u ts out token f h in
    subst (Values ps s p (t ∷ u ∷ ts)) (sym k.2) (close_object ps s p (t ∷ u ∷ ts) (typed text xsd_string) (u ∷ ts) k.0 (plain_text t text (u ∷ ts) e) k.1)

close_annotation : (ps : List Prefix) (s p text : List ℕ) (u : Placed) (ts : List Placed) (out : List Fact) (token : Token) → u.token ≡ token → Leads ps ts out (at_annotation s p text token) → Rest ps (Annotation s p text) (u ∷ ts) out
close_annotation ps s p text u ts out Carets f h = λ t e. subst (Values ps s p (t ∷ u ∷ ts)) (sym h.2) (h.1 t u e f)
close_annotation ps s p text u ts out (At lang) f h = λ t e. close_made ps s p (t ∷ u ∷ ts) (Literal (encode_utf8_all text) lang_string (encode_utf8_all lang)) ts out (tagged_text t u text lang ts e f) h
close_annotation ps s p text u ts out Comma f h = close_plain ps s p text u ts out Comma f h
close_annotation ps s p text u ts out Semicolon f h = close_plain ps s p text u ts out Semicolon f h
close_annotation ps s p text u ts out Dot f h = close_plain ps s p text u ts out Dot f h
close_annotation ps s p text u ts out _ f h = absurd h

close_datatype : (ps : List Prefix) (s p text : List ℕ) (v : Placed) (ts : List Placed) (out : List Fact) (o : Option (List ℕ)) → named ps v.token ≡ o → Leads ps ts out (at_datatype s p text o) → Rest ps (Datatype s p text) (v ∷ ts) out
close_datatype ps s p text v ts out None g h = absurd h
close_datatype ps s p text v ts out (Some iri) g h = λ t u e f. close_made ps s p (t ∷ u ∷ v ∷ ts) (typed text (encode_utf8_all iri)) ts out (typed_text t u v text iri ts e f g) h

-- ---- any state

close : (ps : List Prefix) (state : State) (t : Placed) (ts : List Placed) (out : List Fact) → Leads ps ts out (next ps state t.token) → Rest ps state (t ∷ ts) out
unfolding next
close ps Statement t ts out h = close_statement ps t ts out t.token refl h
close ps PrefixName t ts out h = close_prefix_name ps t ts out t.token refl h
close ps (PrefixIri name) t ts out h = close_prefix_iri ps name t ts out t.token refl h
close ps (PrefixEnd name iri) t ts out h = close_prefix_end ps name iri t ts out t.token refl h
close ps (Predicate s) t ts out h = the_verb ps s t ts out (predicate ps t.token) refl h
close ps (NextPredicate s) t ts out h = close_next ps s t ts out t.token refl h
close ps (Value s p) t ts out h = close_value ps s p t ts out t.token refl h
close ps (Annotation s p text) t ts out h = close_annotation ps s p text t ts out t.token refl h
close ps (Datatype s p text) t ts out h = close_datatype ps s p text t ts out (named ps t.token) refl h
close ps (Separator s p) t ts out h = close_separator ps s p t ts out t.token refl h
close ps Done t ts out h = absurd h

before_ok : (front : List Fact) (r : Outcome) (out : List Fact) → before front r ≡ Gives out → (more : List Fact) × (r ≡ Gives more) × (out ≡ front ++ more)
before_ok front (Gives more) out e = (more, refl, cc)
before_ok front (Refuses f) out e = absurd cc
before_ok front Breaks out e = absurd cc

step_leads : (ps : List Prefix) (ts : List Placed) (out : List Fact) (refused : TurtleError) (o : Option Step) → lead (λ step. triples (add step.declares ps) step.state ts) refused o ≡ Gives out
    → ((qs : List Prefix) (state : State) (more : List Fact) → triples qs state ts ≡ Gives more → Rest qs state ts more) → Leads ps ts out o
step_leads ps ts out refused None e rest = absurd cc
step_leads ps ts out refused (Some step) e rest =
    let k = before_ok (add step.made []) (triples (add step.declares ps) step.state ts) out e in
    (k.0, rest (add step.declares ps) step.state k.0 k.1, k.2)

nothing_left : (ps : List Prefix) (state : State) (out : List Fact) → cond (is_done state) (Gives []) Breaks ≡ Gives out → Rest ps state [] out
nothing_left ps Done out e = (refl, cc)
nothing_left ps _ out e = absurd cc

sound : (ts : List Placed) (ps : List Prefix) (state : State) (out : List Fact) → triples ps state ts ≡ Gives out → Rest ps state ts out
unfolding triples
sound [] ps state out e = nothing_left ps state out e
sound (t ∷ ts) ps state out e = close ps state t ts out (step_leads ps ts out (refusal ps t.line t.token) (next ps state t.token) e (λ qs after more f. sound ts qs after more f))

-- what is read is a document
pub document_found : (ps : List Prefix) (ts : List Placed) (out : List Fact) → triples ps Statement ts ≡ Gives out → IsDocument ps ts out
document_found ps ts out e = sound ts ps Statement out e
