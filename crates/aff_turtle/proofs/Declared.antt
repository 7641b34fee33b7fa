-- The prefixes that the machine knows are those of the prefix lines so far.
use Rattle.std.proofs.Common.{◌≡◌, ℕ, ◌⊎◌, Bool, true, false, cond, ◌||◌, List, [], ◌∷◌, codes, Option, Some, None, refl, sym, ap, subst, ◌∙◌, inl, inr}
use Rattle.std.proofs.lemmas.Slice.Eq.{bytes_eq-Decides}
use Rattle.std.specs.Str.{bytes_eq}
use Rattle.aff_turtle.specs.Tokens.{Token, Placed, Iri, Name, Quoted, At, Word, Integer, Carets, Dot, Semicolon, Comma, End}
use Rattle.aff_turtle.specs.Triples.{typed, xsd_boolean}
use Rattle.aff_turtle.specs.Prefixes.{Prefix, named, predicate}
use Rattle.aff_turtle.specs.Machine.{State, Statement, PrefixName, PrefixIri, PrefixEnd, Predicate, NextPredicate, Value, Annotation, Datatype, Separator, Done, Step, to, makes, at_subject, at_statement, at_prefix_name, at_prefix_iri, at_prefix_end, at_verb, at_next_predicate, at_resource, at_value, at_separator, at_annotation, at_datatype, next, add}
use Rattle.aff_turtle.specs.Reading.{line_declares, line_at, declares}

-- ---- where tokens lead

abbrev pub after_step : (Step → Option (List Prefix × State)) → Option Step → Option (List Prefix × State)
after_step rest None = None
after_step rest (Some step) = rest step

-- the prefixes that the machine knows behind these tokens, and its state
abbrev pub after : List Prefix → State → List Placed → Option (List Prefix × State)
after ps state [] = Some (ps, state)
after ps state (t ∷ ts) = after_step (λ step. after (add step.declares ps) step.state ts) (next ps state t.token)

abbrev pub pair : List Prefix → State → List Prefix × State
pair ps state = (ps, state)

abbrev pub some_pair : List Prefix → State → Option (List Prefix × State)
some_pair ps state = Some (pair ps state)

pub same_pair : (ps : List Prefix) (state : State) (qs : List Prefix) (to : State) → some_pair ps state ≡ some_pair qs to → (ps ≡ qs) × (state ≡ to)
same_pair ps state qs to e =
    let h : pair ps state ≡ pair qs to = cc in
    (ap (λ (x : List Prefix × State). x.0) h, ap (λ (x : List Prefix × State). x.1) h)

-- ---- tokens that begin no prefix line

-- no prefix line begins with this token
abbrev BeginsNone : Token → Type 0
BeginsNone (At word) = ⊥
BeginsNone _ = Unit {0}

no_line : (t u v w : Token) → BeginsNone t → line_declares t u v w ≡ None
no_line (At word) u v w h = absurd h
no_line _ u v w h = refl

no_line_at : (t : Placed) (ts : List Placed) → BeginsNone t.token → line_at (t ∷ ts) ≡ None
no_line_at t [] h = refl
no_line_at t (u ∷ []) h = refl
no_line_at t (u ∷ v ∷ []) h = refl
no_line_at t (u ∷ v ∷ w ∷ ts) h = no_line t.token u.token v.token w.token h

skips : (ps : List Prefix) (t : Placed) (ts : List Placed) → line_at (t ∷ ts) ≡ None → declares ps (t ∷ ts) ≡ declares ps ts
skips ps t ts e = ap (λ d. declares (add d ps) ts) e

-- what may stand behind an object
abbrev Separates : Token → Type 0
Separates Comma = Unit {0}
Separates Semicolon = Unit {0}
Separates Dot = Unit {0}
Separates _ = ⊥

no_separated_line : (t u v w : Token) → Separates u → line_declares t u v w ≡ None
no_separated_line (At word) Comma v w h = refl
no_separated_line (At word) Semicolon v w h = refl
no_separated_line (At word) Dot v w h = refl
no_separated_line (At word) _ v w h = absurd h
no_separated_line _ u v w h = refl

none_some : {A : Type 0} (x : A) (o : Option A) → o ≡ None → o ≡ Some x → ⊥
none_some x o e f = let k : None ≡ Some x = sym e ∙ f in cc

separates_by : (s p : List ℕ) (rest : Step → Option (List Prefix × State)) (x : List Prefix × State) (token : Token) → after_step rest (at_separator s p token) ≡ Some x → Separates token
separates_by s p rest x Comma h = tt
separates_by s p rest x Semicolon h = tt
separates_by s p rest x Dot h = tt
separates_by s p rest x _ h = absurd cc

-- no prefix line begins with a language
no_language_line : (ps : List Prefix) (s p : List ℕ) (t : Placed) (ts : List Placed) (x : List Prefix × State) → after ps (Separator s p) ts ≡ Some x → line_at (t ∷ ts) ≡ None
unfolding next
no_language_line ps s p t [] x h = refl
no_language_line ps s p t (u ∷ []) x h = refl
no_language_line ps s p t (u ∷ v ∷ []) x h = refl
no_language_line ps s p t (u ∷ v ∷ w ∷ ts) x h = no_separated_line t.token u.token v.token w.token (separates_by s p (λ step. after (add step.declares ps) step.state (v ∷ w ∷ ts)) x u.token h)

-- ---- what is known in each state: the prefixes of all tokens, with those of a prefix line that is not whole yet

abbrev Knows : List Prefix → State → List Placed → List Prefix → Type 0
Knows ps PrefixName ts qs = (t : Placed) → t.token ≡ At (codes "prefix") → declares ps (t ∷ ts) ≡ qs
Knows ps (PrefixIri name) ts qs = (t u : Placed) → t.token ≡ At (codes "prefix") → u.token ≡ Name name [] → declares ps (t ∷ u ∷ ts) ≡ qs
Knows ps (PrefixEnd name iri) ts qs = (t u v : Placed) → t.token ≡ At (codes "prefix") → u.token ≡ Name name [] → v.token ≡ Iri iri → declares ps (t ∷ u ∷ v ∷ ts) ≡ qs
Knows ps _ ts qs = declares ps ts ≡ qs

-- outside of prefix lines
abbrev IsOutside : State → Type 0
IsOutside PrefixName = ⊥
IsOutside (PrefixIri name) = ⊥
IsOutside (PrefixEnd name iri) = ⊥
IsOutside _ = Unit {0}

knows_outside : (ps : List Prefix) (state : State) (ts : List Placed) (qs : List Prefix) → IsOutside state → Knows ps state ts qs → declares ps ts ≡ qs
knows_outside ps PrefixName ts qs h k = absurd h
knows_outside ps (PrefixIri name) ts qs h k = absurd h
knows_outside ps (PrefixEnd name iri) ts qs h k = absurd h
knows_outside ps _ ts qs h k = k

-- a step that declares nothing and leads outside
abbrev StaysOut : Option Step → Type 0
StaysOut None = Unit {0}
StaysOut (Some step) = (step.declares ≡ None) × IsOutside step.state

out_subject : (o : Option (List ℕ)) → StaysOut (at_subject o)
out_subject None = tt
out_subject (Some s) = (refl, tt)

out_verb : (s : List ℕ) (o : Option (List ℕ)) → StaysOut (at_verb s o)
out_verb s None = tt
out_verb s (Some p) = (refl, tt)

out_resource : (s p : List ℕ) (o : Option (List ℕ)) → StaysOut (at_resource s p o)
out_resource s p None = tt
out_resource s p (Some iri) = (refl, tt)

out_datatype : (s p text : List ℕ) (o : Option (List ℕ)) → StaysOut (at_datatype s p text o)
out_datatype s p text None = tt
out_datatype s p text (Some iri) = (refl, tt)

out_if : (b : Bool) (o : Option Step) → StaysOut o → StaysOut (cond b o None)
out_if true o h = h
out_if false o h = tt

out_statement : (ps : List Prefix) (token : Token) → BeginsNone token → StaysOut (at_statement ps token)
out_statement ps (At word) h = absurd h
out_statement ps End h = (refl, tt)
out_statement ps (Name prefix local) h = out_subject (named ps (Name prefix local))
out_statement ps (Iri text) h = (refl, tt)
out_statement ps _ h = tt

out_next : (ps : List Prefix) (s : List ℕ) (token : Token) → StaysOut (at_next_predicate ps s token)
out_next ps s Semicolon = (refl, tt)
out_next ps s Dot = (refl, tt)
out_next ps s (Word word) = out_verb s (predicate ps (Word word))
out_next ps s (Name prefix local) = out_verb s (predicate ps (Name prefix local))
out_next ps s (Iri text) = (refl, tt)
out_next ps s _ = tt

out_value : (ps : List Prefix) (s p : List ℕ) (token : Token) → StaysOut (at_value ps s p token)
out_value ps s p (Quoted text) = (refl, tt)
out_value ps s p (Integer text) = (refl, tt)
out_value ps s p (Word word) = out_if (bytes_eq word (codes "true") || bytes_eq word (codes "false")) (makes s p (typed word xsd_boolean)) (refl, tt)
out_value ps s p (Name prefix local) = out_resource s p (named ps (Name prefix local))
out_value ps s p (Iri text) = (refl, tt)
out_value ps s p _ = tt

out_separator : (s p : List ℕ) (token : Token) → StaysOut (at_separator s p token)
out_separator s p Comma = (refl, tt)
out_separator s p Semicolon = (refl, tt)
out_separator s p Dot = (refl, tt)
out_separator s p _ = tt

out_annotation : (s p text : List ℕ) (token : Token) → StaysOut (at_annotation s p text token)
out_annotation s p text Carets = (refl, tt)
out_annotation s p text (At lang) = (refl, tt)
out_annotation s p text Comma = (refl, tt)
out_annotation s p text Semicolon = (refl, tt)
out_annotation s p text Dot = (refl, tt)
out_annotation s p text _ = tt

-- what the tokens behind one tell
abbrev Tells : List Placed → List Prefix → State → Type 0
Tells ts qs to = (rs : List Prefix) (via : State) → after rs via ts ≡ Some (qs, to) → Knows rs via ts qs

passes : (ps : List Prefix) (t : Placed) (ts : List Placed) (qs : List Prefix) (to : State) (o : Option Step) → StaysOut o → line_at (t ∷ ts) ≡ None
    → after_step (λ step. after (add step.declares ps) step.state ts) o ≡ Some (qs, to) → Tells ts qs to → declares ps (t ∷ ts) ≡ qs
passes ps t ts qs to None out none h tells = absurd cc
passes ps t ts qs to (Some step) out none h tells =
    let k = tells (add step.declares ps) step.state h in
    let here : Knows ps step.state ts qs = subst (λ d. Knows (add d ps) step.state ts qs) out.0 k in
    skips ps t ts none ∙ knows_outside ps step.state ts qs out.1 here

token_kind : (token : Token) → ((word : List ℕ) × (token ≡ At word)) ⊎ BeginsNone token
token_kind (At word) = inl (word, refl)
token_kind _ = inr tt

-- a state in which no word behind `@` may stand
no_at : (rest : Step → Option (List Prefix × State)) (step : Token → Option Step) (x : List Prefix × State) (token : Token) (word : List ℕ) → step (At word) ≡ None → token ≡ At word → after_step rest (step token) ≡ Some x → ⊥
no_at rest step x token word none e h = none_some x (after_step rest (step token)) (ap (λ t. after_step rest (step t)) e ∙ ap (after_step rest) none) h

walks : (ps : List Prefix) (t : Placed) (ts : List Placed) (qs : List Prefix) (to : State) (step : Token → Option Step) → ((word : List ℕ) → step (At word) ≡ None) → StaysOut (step t.token)
    → after_step (λ step. after (add step.declares ps) step.state ts) (step t.token) ≡ Some (qs, to) → Tells ts qs to → declares ps (t ∷ ts) ≡ qs
walks ps t ts qs to step none out h tells = elim (token_kind t.token) [
  | inl k ↦ absurd (no_at (λ step. after (add step.declares ps) step.state ts) step (qs, to) t.token k.0 (none k.0) k.1 h)
  | inr b ↦ passes ps t ts qs to (step t.token) out (no_line_at t ts b) h tells
]

at_if : (ps : List Prefix) (t : Placed) (ts : List Placed) (qs : List Prefix) (to : State) (word : List ℕ) (b : Bool) → t.token ≡ At word → bytes_eq word (codes "prefix") ≡ b
    → after_step (λ step. after (add step.declares ps) step.state ts) (cond b (Some (record { state = PrefixName; declares = None; made = None })) None) ≡ Some (qs, to) → Tells ts qs to → declares ps (t ∷ ts) ≡ qs
at_if ps t ts qs to word true e f h tells = tells ps PrefixName h t (e ∙ ap (λ w. At w) ((bytes_eq-Decides word (codes "prefix")).0 f))
at_if ps t ts qs to word false e f h tells = absurd cc

at_the_statement : (ps : List Prefix) (t : Placed) (ts : List Placed) (qs : List Prefix) (to : State)
    → after_step (λ step. after (add step.declares ps) step.state ts) (at_statement ps t.token) ≡ Some (qs, to) → Tells ts qs to → declares ps (t ∷ ts) ≡ qs
at_the_statement ps t ts qs to h tells = elim (token_kind t.token) [
  | inl k ↦
      let g = subst (λ token. after_step (λ step. after (add step.declares ps) step.state ts) (at_statement ps token) ≡ Some (qs, to)) k.1 h in
      at_if ps t ts qs to k.0 (bytes_eq k.0 (codes "prefix")) k.1 refl g tells
  | inr b ↦ passes ps t ts qs to (at_statement ps t.token) (out_statement ps t.token b) (no_line_at t ts b) h tells
]

at_the_annotation : (ps : List Prefix) (s p text : List ℕ) (t : Placed) (ts : List Placed) (qs : List Prefix) (to : State)
    → after_step (λ step. after (add step.declares ps) step.state ts) (at_annotation s p text t.token) ≡ Some (qs, to) → Tells ts qs to → declares ps (t ∷ ts) ≡ qs
at_the_annotation ps s p text t ts qs to h tells = elim (token_kind t.token) [
  | inl k ↦
      let g = subst (λ token. after_step (λ step. after (add step.declares ps) step.state ts) (at_annotation s p text token) ≡ Some (qs, to)) k.1 h in
      passes ps t ts qs to (at_annotation s p text t.token) (out_annotation s p text t.token) (no_language_line ps s p t ts (qs, to) g) h tells
  | inr b ↦ passes ps t ts qs to (at_annotation s p text t.token) (out_annotation s p text t.token) (no_line_at t ts b) h tells
]

-- ---- a prefix line

name_known : (ps : List Prefix) (u : Placed) (ts : List Placed) (qs : List Prefix) (to : State) (token : Token) → u.token ≡ token
    → after_step (λ step. after (add step.declares ps) step.state ts) (at_prefix_name token) ≡ Some (qs, to) → Tells ts qs to → Knows ps PrefixName (u ∷ ts) qs
name_known ps u ts qs to (Name prefix []) e h tells = λ t f. tells ps (PrefixIri prefix) h t u f e
name_known ps u ts qs to _ e h tells = absurd cc

iri_known : (ps : List Prefix) (name : List ℕ) (v : Placed) (ts : List Placed) (qs : List Prefix) (to : State) (token : Token) → v.token ≡ token
    → after_step (λ step. after (add step.declares ps) step.state ts) (at_prefix_iri name token) ≡ Some (qs, to) → Tells ts qs to → Knows ps (PrefixIri name) (v ∷ ts) qs
iri_known ps name v ts qs to (Iri iri) e h tells = λ t u f g. tells ps (PrefixEnd name iri) h t u v f g e
iri_known ps name v ts qs to _ e h tells = absurd cc

line_known : (ps : List Prefix) (t u v w : Placed) (name iri : List ℕ) (ts : List Placed) → t.token ≡ At (codes "prefix") → u.token ≡ Name name [] → v.token ≡ Iri iri → w.token ≡ Dot
    → declares ps (t ∷ u ∷ v ∷ w ∷ ts) ≡ declares (record { name = name; iri = iri } ∷ ps) ts
line_known ps t u v w name iri ts e f g h =
    let rs : List Prefix = record { name = name; iri = iri } ∷ ps in
    let found : line_at (t ∷ u ∷ v ∷ w ∷ ts) ≡ Some (record { name = name; iri = iri }) = rw (e, f, g, h) refl in
    let no_u : BeginsNone u.token = subst BeginsNone (sym f) tt in
    let no_v : BeginsNone v.token = subst BeginsNone (sym g) tt in
    let no_w : BeginsNone w.token = subst BeginsNone (sym h) tt in
    ap (λ d. declares (add d ps) (u ∷ v ∷ w ∷ ts)) found
    ∙ skips rs u (v ∷ w ∷ ts) (no_line_at u (v ∷ w ∷ ts) no_u)
    ∙ skips rs v (w ∷ ts) (no_line_at v (w ∷ ts) no_v)
    ∙ skips rs w ts (no_line_at w ts no_w)

end_known : (ps : List Prefix) (name iri : List ℕ) (w : Placed) (ts : List Placed) (qs : List Prefix) (to : State) (token : Token) → w.token ≡ token
    → after_step (λ step. after (add step.declares ps) step.state ts) (at_prefix_end name iri token) ≡ Some (qs, to) → Tells ts qs to → Knows ps (PrefixEnd name iri) (w ∷ ts) qs
end_known ps name iri w ts qs to Dot e h tells = λ t u v f g k. line_known ps t u v w name iri ts f g k e ∙ tells (record { name = name; iri = iri } ∷ ps) Statement h
end_known ps name iri w ts qs to _ e h tells = absurd cc

-- ---- any state

step_known : (ps : List Prefix) (state : State) (t : Placed) (ts : List Placed) (qs : List Prefix) (to : State)
    → after_step (λ step. after (add step.declares ps) step.state ts) (next ps state t.token) ≡ Some (qs, to) → Tells ts qs to → Knows ps state (t ∷ ts) qs
unfolding next
step_known ps Statement t ts qs to h tells = at_the_statement ps t ts qs to h tells
step_known ps PrefixName t ts qs to h tells = name_known ps t ts qs to t.token refl h tells
step_known ps (PrefixIri name) t ts qs to h tells = iri_known ps name t ts qs to t.token refl h tells
step_known ps (PrefixEnd name iri) t ts qs to h tells = end_known ps name iri t ts qs to t.token refl h tells
step_known ps (Predicate s) t ts qs to h tells = walks ps t ts qs to (λ token. at_verb s (predicate ps token)) (λ word. refl) (out_verb s (predicate ps t.token)) h tells
step_known ps (NextPredicate s) t ts qs to h tells = walks ps t ts qs to (at_next_predicate ps s) (λ word. refl) (out_next ps s t.token) h tells
step_known ps (Value s p) t ts qs to h tells = walks ps t ts qs to (at_value ps s p) (λ word. refl) (out_value ps s p t.token) h tells
step_known ps (Annotation s p text) t ts qs to h tells = at_the_annotation ps s p text t ts qs to h tells
step_known ps (Datatype s p text) t ts qs to h tells = walks ps t ts qs to (λ token. at_datatype s p text (named ps token)) (λ word. refl) (out_datatype s p text (named ps t.token)) h tells
step_known ps (Separator s p) t ts qs to h tells = walks ps t ts qs to (at_separator s p) (λ word. refl) (out_separator s p t.token) h tells
step_known ps Done t ts qs to h tells = absurd cc

none_known : (ps : List Prefix) (state : State) (qs : List Prefix) → ps ≡ qs → Knows ps state [] qs
none_known ps PrefixName qs e = λ t f. e
none_known ps (PrefixIri name) qs e = λ t u f g. e
none_known ps (PrefixEnd name iri) qs e = λ t u v f g h. e
none_known ps _ qs e = e

known : (front : List Placed) (ps : List Prefix) (state : State) (qs : List Prefix) (to : State) → after ps state front ≡ Some (qs, to) → Knows ps state front qs
known [] ps state qs to h = none_known ps state qs (same_pair ps state qs to h).0
known (t ∷ front) ps state qs to h = step_known ps state t front qs to h (λ rs via k. known front rs via qs to k)

-- what the machine knows behind tokens from the start on is what they declare
pub declared_after : (front : List Placed) (qs : List Prefix) (to : State) → after [] Statement front ≡ Some (qs, to) → declares [] front ≡ qs
declared_after front qs to h = known front [] Statement qs to h
