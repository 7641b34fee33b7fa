-- Prefixes that stand for the same are read the same.
use Rattle.std.proofs.Common.{◌≡◌, ℕ, cond, List, [], ◌∷◌, ◌++◌, Option, Some, None, is_some, refl, ap, ◌∙◌}
use Rattle.std.specs.Option.{option_map}
use Rattle.std.specs.Str.{bytes_eq}
use Rattle.aff_turtle.specs.declared.error.TurtleError.{TurtleError}
use Rattle.aff_turtle.specs.declared.error.TurtleError.TheVariants.{Syntax, NoPrefix, Unsupported}
use Rattle.aff_turtle.specs.Tokens.{Token, Placed, Name, Escaped, Colons}
use Rattle.aff_turtle.specs.Prefixes.{Prefix, DeclareAlike, named, predicate}
use Rattle.aff_turtle.specs.Refusals.{refusal}
use Rattle.aff_turtle.specs.Machine.{State, Statement, PrefixName, PrefixIri, PrefixEnd, Predicate, NextPredicate, Value, Annotation, Datatype, Separator, Done, Step, at_subject, at_statement, at_verb, at_next_predicate, at_resource, at_value, at_datatype, next, add, Outcome, before, lead, triples}

named_alike : (ps qs : List Prefix) (token : Token) → DeclareAlike ps qs → named ps token ≡ named qs token
named_alike ps qs (Name prefix local) h = ap (option_map (λ iri. iri ++ local)) (h prefix)
named_alike ps qs _ h = refl

predicate_alike : (ps qs : List Prefix) (token : Token) → DeclareAlike ps qs → predicate ps token ≡ predicate qs token
predicate_alike ps qs (Name prefix local) h = named_alike ps qs (Name prefix local) h
predicate_alike ps qs _ h = refl

statement_alike : (ps qs : List Prefix) (token : Token) → DeclareAlike ps qs → at_statement ps token ≡ at_statement qs token
statement_alike ps qs (Name prefix local) h = ap at_subject (named_alike ps qs (Name prefix local) h)
statement_alike ps qs _ h = refl

next_predicate_alike : (ps qs : List Prefix) (s : List ℕ) (token : Token) → DeclareAlike ps qs → at_next_predicate ps s token ≡ at_next_predicate qs s token
next_predicate_alike ps qs s (Name prefix local) h = ap (at_verb s) (predicate_alike ps qs (Name prefix local) h)
next_predicate_alike ps qs s _ h = refl

value_alike : (ps qs : List Prefix) (s p : List ℕ) (token : Token) → DeclareAlike ps qs → at_value ps s p token ≡ at_value qs s p token
value_alike ps qs s p (Name prefix local) h = ap (at_resource s p) (named_alike ps qs (Name prefix local) h)
value_alike ps qs s p _ h = refl

next_alike : (ps qs : List Prefix) (state : State) (token : Token) → DeclareAlike ps qs → next ps state token ≡ next qs state token
unfolding next
next_alike ps qs Statement token h = statement_alike ps qs token h
next_alike ps qs PrefixName token h = refl
next_alike ps qs (PrefixIri name) token h = refl
next_alike ps qs (PrefixEnd name iri) token h = refl
next_alike ps qs (Predicate s) token h = ap (at_verb s) (predicate_alike ps qs token h)
next_alike ps qs (NextPredicate s) token h = next_predicate_alike ps qs s token h
next_alike ps qs (Value s p) token h = value_alike ps qs s p token h
next_alike ps qs (Annotation s p text) token h = refl
next_alike ps qs (Datatype s p text) token h = ap (at_datatype s p text) (named_alike ps qs token h)
next_alike ps qs (Separator s p) token h = refl
next_alike ps qs Done token h = refl

refusal_alike : (ps qs : List Prefix) (line : ℕ) (token : Token) → DeclareAlike ps qs → refusal ps line token ≡ refusal qs line token
refusal_alike ps qs line (Name prefix local) h = ap (λ o. cond (is_some o) (Syntax line) (NoPrefix line)) (h prefix)
refusal_alike ps qs line (Colons prefix) h = ap (λ o. cond (is_some o) (Syntax line) (NoPrefix line)) (h prefix)
refusal_alike ps qs line (Escaped prefix) h = ap (λ o. cond (is_some o) (Unsupported line) (NoPrefix line)) (h prefix)
refusal_alike ps qs line _ h = refl

add_alike : (ps qs : List Prefix) (d : Option Prefix) → DeclareAlike ps qs → DeclareAlike (add d ps) (add d qs)
add_alike ps qs None h = h
add_alike ps qs (Some p) h = λ name. ap (cond (bytes_eq p.name name) (Some p.iri)) (h name)

lead_alike : (f g : Step → Outcome) (why : TurtleError) (o : Option Step) → ((step : Step) → f step ≡ g step) → lead f why o ≡ lead g why o
lead_alike f g why None h = refl
lead_alike f g why (Some step) h = ap (before (add step.made [])) (h step)

pub triples_alike : (ts : List Placed) (ps qs : List Prefix) (state : State) → DeclareAlike ps qs → triples ps state ts ≡ triples qs state ts
unfolding triples
triples_alike [] ps qs state h = refl
triples_alike (t ∷ ts) ps qs state h =
    let rest = λ (step : Step). triples (add step.declares ps) step.state ts in
    ap (lead rest (refusal ps t.line t.token)) (next_alike ps qs state t.token h)
    ∙ ap (λ why. lead rest why (next qs state t.token)) (refusal_alike ps qs t.line t.token h)
    ∙ lead_alike rest (λ step. triples (add step.declares qs) step.state ts) (refusal qs t.line t.token) (next qs state t.token)
    (λ step. triples_alike ts (add step.declares ps) (add step.declares qs) step.state (add_alike ps qs step.declares h))
