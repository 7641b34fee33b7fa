-- Reading statements token by token.
use Rattle.std.proofs.Common.{◌≡◌, ℕ, List, [], ◌∷◌, ◌++◌, Some, None, Bool, true, false, refl, sym, ap, ◌∙◌, append_assoc}
use Rattle.std.proofs.lemmas.List.{append-nil}
use Rattle.std.proofs.lemmas.Str.{IsUtf8-from_is_utf8, is_utf8-from_IsUtf8}
use Rattle.std.specs.Str.{chars, is_utf8, IsUtf8}
use Rattle.std.specs.Str.Lossy.{utf8_valid_len}
use Rattle.aff_turtle.specs.declared.error.TurtleError.{TurtleError}
use Rattle.aff_turtle.specs.declared.error.TurtleError.TheVariants.{Syntax, NoPrefix, Unsupported, Utf8, Memory}
use Rattle.aff_turtle.specs.Tokens.{Placed, End, tokens}
use Rattle.aff_turtle.specs.Triples.{Fact}
use Rattle.aff_turtle.specs.Prefixes.{Prefix, DeclareAlike}
use Rattle.aff_turtle.specs.Refusals.{refusal}
use Rattle.aff_turtle.specs.Machine.{State, Statement, PrefixName, PrefixIri, PrefixEnd, Predicate, NextPredicate, Value, Annotation, Datatype, Separator, Done, Step, is_done, next, add, before, triples, Outcome, Gives, Refuses, Breaks}
use Rattle.aff_turtle.specs.Outcomes.{reading, Fails}
use Rattle.aff_turtle.specs.Views.{token_of, placed_of, tokens_behind}
use Rattle.aff_turtle.specs.declared.tokens.Placed.{Placed as KeptPlaced}
use Rattle.aff_turtle.specs.declared.token.Token.{Token as KeptToken}
use Rattle.aff_turtle.specs.declared.token.Token.TheVariants as kept
use Rattle.aff_turtle.proofs.Alike.{triples_alike}
use Rattle.aff_turtle.proofs.Steps.{behind_other}

pub before_nil : (r : Outcome) → before [] r ≡ r
before_nil (Gives ts) = refl
before_nil (Refuses e) = refl
before_nil Breaks = refl

pub before-before : (a b : List Fact) (r : Outcome) → before (a ++ b) r ≡ before a (before b r)
before-before a b (Gives ts) = ap (λ (xs : List Fact). Gives xs) (append_assoc a b ts)
before-before a b (Refuses e) = refl
before-before a b Breaks = refl

-- one token and where it leads
pub leads : (ps : List Prefix) (state : State) (t : Placed) (ts : List Placed) (step : Step) → next ps state t.token ≡ Some step
    → triples ps state (t ∷ ts) ≡ before (add step.made []) (triples (add step.declares ps) step.state ts)
unfolding triples
leads ps state t ts step e = rw e refl

-- one token read, with prefixes that stand for the same afterwards
pub goes_on : (front : List Fact) (ps qs : List Prefix) (state : State) (t : Placed) (ts us : List Placed) (step : Step) (total : Outcome)
    → us ≡ t ∷ ts → Some step ≡ next ps state t.token → DeclareAlike qs (add step.declares ps) → before front (triples ps state us) ≡ total
    → before (front ++ add step.made []) (triples qs step.state ts) ≡ total
goes_on front ps qs state t ts us step total is some alike so_far =
    ap (before (front ++ add step.made [])) (triples_alike ts qs (add step.declares ps) step.state alike)
    ∙ before-before front (add step.made []) (triples (add step.declares ps) step.state ts)
    ∙ ap (before front) (sym (leads ps state t ts step (sym some)))
    ∙ ap (λ xs. before front (triples ps state xs)) (sym is)
    ∙ so_far

pub stops : (front : List Fact) (ps : List Prefix) (state : State) (t : Placed) (ts us : List Placed) (total : Outcome)
    → us ≡ t ∷ ts → None ≡ next ps state t.token → before front (triples ps state us) ≡ total → total ≡ Refuses (refusal ps t.line t.token)
unfolding triples
stops front ps state t ts us total is none so_far =
    let one : triples ps state (t ∷ ts) ≡ Refuses (refusal ps t.line t.token) = rw (sym none) refl in
    sym so_far ∙ ap (λ xs. before front (triples ps state xs)) is ∙ ap (before front) one

-- the end leads to nothing more
pub end_leads : (ps : List Prefix) (state : State) (step : Step) → next ps state End ≡ Some step → is_done step.state ≡ true
unfolding next
end_leads ps Statement step e = let s : record { state = Done; declares = None; made = None } ≡ step = cc in rw (← s) refl
end_leads ps PrefixName step e = absurd cc
end_leads ps (PrefixIri name) step e = absurd cc
end_leads ps (PrefixEnd name iri) step e = absurd cc
end_leads ps (Predicate s) step e = absurd cc
end_leads ps (NextPredicate s) step e = absurd cc
end_leads ps (Value s p) step e = absurd cc
end_leads ps (Annotation s p text) step e = absurd cc
end_leads ps (Datatype s p text) step e = absurd cc
end_leads ps (Separator s p) step e = absurd cc
end_leads ps Done step e = absurd cc

-- behind the end no token is left
pub done : (front : List Fact) (qs : List Prefix) (state : State) (total : Outcome) → is_done state ≡ true → before front (triples qs state []) ≡ total → total ≡ Gives front
unfolding triples
done front qs state total e so_far =
    let none : triples qs state [] ≡ Gives [] = rw e refl in
    sym so_far ∙ ap (before front) none ∙ ap (λ (xs : List Fact). Gives xs) (append-nil front)

pub fails_with : (e : TurtleError) (outcome : Outcome) → outcome ≡ Refuses e → Fails e outcome
fails_with (Syntax n) outcome h = h
fails_with (NoPrefix n) outcome h = h
fails_with (Unsupported n) outcome h = h
fails_with (Utf8 n) outcome h = h
fails_with Memory outcome h = tt

no_text : (b : Bool) → ¬ (b ≡ true) → b ≡ false
no_text true h = absurd (h refl)
no_text false h = refl

pub reads_text : (bytes : List ℕ) → IsUtf8 bytes → reading bytes ≡ triples [] Statement (tokens 1 0 (chars bytes))
unfolding reading
reads_text bytes h = rw (is_utf8-from_IsUtf8 bytes h) refl

pub reads_no_text : (bytes : List ℕ) (at : ℕ) → ¬ (IsUtf8 bytes) → at ≡ utf8_valid_len bytes → reading bytes ≡ Refuses (Utf8 at)
unfolding reading
reads_no_text bytes at h e = rw (no_text (is_utf8 bytes) (λ t. h (IsUtf8-from_is_utf8 bytes t)), e) refl

-- only the end of the code is the end
kept_end : (token : KeptToken) → token_of token ≡ End → token ≡ kept.End
kept_end kept.End h = refl
kept_end _ h = absurd cc

-- a token read that is not the end
pub goes_past : (front : List Fact) (ps qs : List Prefix) (state : State) (t : KeptPlaced) (us : List Placed) (step : Step) (total : Outcome)
    → us ≡ placed_of t ∷ tokens_behind (token_of t.token) t.line t.rest.now → (t.token ≡ kept.End → ⊥) → Some step ≡ next ps state (token_of t.token)
    → DeclareAlike qs (add step.declares ps) → before front (triples ps state us) ≡ total
    → before (front ++ add step.made []) (triples qs step.state (tokens t.line 0 t.rest.now)) ≡ total
goes_past front ps qs state t us step total is no_end some alike so_far =
    let behind = behind_other (token_of t.token) t.line t.rest.now (λ e. no_end (kept_end t.token e)) in
    goes_on front ps qs state (placed_of t) (tokens t.line 0 t.rest.now) us step total (is ∙ ap (λ ts. placed_of t ∷ ts) behind) some alike so_far

-- the end read
pub goes_to_end : (front : List Fact) (ps qs : List Prefix) (state : State) (t : KeptPlaced) (us : List Placed) (step : Step) (total : Outcome)
    → us ≡ placed_of t ∷ tokens_behind (token_of t.token) t.line t.rest.now → t.token ≡ kept.End → Some step ≡ next ps state (token_of t.token)
    → DeclareAlike qs (add step.declares ps) → before front (triples ps state us) ≡ total → total ≡ Gives (front ++ add step.made [])
goes_to_end front ps qs state t us step total is end some alike so_far =
    let is_end : token_of t.token ≡ End = ap token_of end in
    let last = ap (λ token. placed_of t ∷ tokens_behind token t.line t.rest.now) is_end in
    let ended = end_leads ps state step (ap (next ps state) (sym is_end) ∙ sym some) in
    done (front ++ add step.made []) qs step.state total ended (goes_on front ps qs state (placed_of t) [] us step total (is ∙ last) some alike so_far)
