-- A text is refused at the first token that does not continue the grammar.
use Rattle.std.proofs.Common.{◌≡◌, ℕ, zero, suc, ◌+◌, ◌-◌, Bool, true, false, cond, eqb, List, [], ◌∷◌, ◌++◌, Option, Some, None, refl, sym, ap, ◌∙◌, append_assoc}
use Rattle.std.specs.List.{prefix_len}
use Rattle.aff_turtle.specs.declared.error.TurtleError.{TurtleError}
use Rattle.aff_turtle.specs.declared.class.Class.TheVariants as class
use Rattle.aff_turtle.specs.Codes as code
use Rattle.aff_turtle.specs.Characters.{is_blank, is_in}
use Rattle.aff_turtle.specs.Tokens.{Token, Placed, Iri, Name, Dot, End, token_at, tokens}
use Rattle.aff_turtle.specs.Triples.{Fact}
use Rattle.aff_turtle.specs.Prefixes.{Prefix}
use Rattle.aff_turtle.specs.Refusals.{refusal}
use Rattle.aff_turtle.specs.Machine.{State, Statement, PrefixName, PrefixIri, PrefixEnd, Predicate, NextPredicate, Value, Annotation, Datatype, Separator, Done, Step, next, add, before, lead, is_done, triples, Outcome, Gives, Refuses, Breaks}
use Rattle.aff_turtle.specs.Reading.{MayGoOn, IsStopped}
use Rattle.aff_turtle.proofs.Complete.{document_read}
use Rattle.aff_turtle.proofs.Declared.{after_step, after, same_pair, declared_after}
use Rattle.aff_turtle.proofs.Sound.{document_found}
use Rattle.aff_turtle.proofs.Statements.{before_nil, before-before, end_leads}

-- what tokens that lead on make, whatever follows them
record Runs (ps : List Prefix) (state : State) (front : List Placed) (qs : List Prefix) (to : State) : Type 0 where
  makes : List Fact
  reads : (more : List Placed) → triples ps state (front ++ more) ≡ before makes (triples qs to more)

run_step : (ps : List Prefix) (state : State) (t : Placed) (front : List Placed) (qs : List Prefix) (to : State) (o : Option Step) → next ps state t.token ≡ o
    → after_step (λ step. after (add step.declares ps) step.state front) o ≡ Some (qs, to)
    → ((rs : List Prefix) (via : State) → after rs via front ≡ Some (qs, to) → Runs rs via front qs to) → Runs ps state (t ∷ front) qs to
unfolding triples
run_step ps state t front qs to None e f rest = absurd cc
run_step ps state t front qs to (Some step) e f rest =
    let r = rest (add step.declares ps) step.state f in
    record {
      makes = add step.made [] ++ r.makes;
      reads = λ more. rw e (ap (before (add step.made [])) (r.reads more) ∙ sym (before-before (add step.made []) r.makes (triples qs to more)));
    }

run : (front : List Placed) (ps : List Prefix) (state : State) (qs : List Prefix) (to : State) → after ps state front ≡ Some (qs, to) → Runs ps state front qs to
run [] ps state qs to e =
    let same = same_pair ps state qs to e in
    record { makes = []; reads = λ more. rw (same.0, same.1) (sym (before_nil (triples qs to more))) }
run (t ∷ front) ps state qs to e = run_step ps state t front qs to (next ps state t.token) refl e (λ rs via f. run front rs via qs to f)

-- a token, at no line
abbrev some_token : Token → Placed
some_token t = record { line = 0; token = t }

-- each state can be completed
record Completes (ps : List Prefix) (state : State) : Type 0 where
  more : List Placed
  out : List Fact
  reads : triples ps state more ≡ Gives out

completes : (ps : List Prefix) (state : State) → Completes ps state
unfolding triples next
completes ps Statement = record { more = some_token End ∷ []; out = []; reads = refl }
completes ps PrefixName = record { more = some_token (Name [] []) ∷ some_token (Iri []) ∷ some_token Dot ∷ some_token End ∷ []; out = []; reads = refl }
completes ps (PrefixIri name) = record { more = some_token (Iri []) ∷ some_token Dot ∷ some_token End ∷ []; out = []; reads = refl }
completes ps (PrefixEnd name iri) = record { more = some_token Dot ∷ some_token End ∷ []; out = []; reads = refl }
completes ps (Predicate s) = record { more = some_token (Iri []) ∷ some_token (Iri []) ∷ some_token Dot ∷ some_token End ∷ []; out = _; reads = refl }
completes ps (NextPredicate s) = record { more = some_token Dot ∷ some_token End ∷ []; out = []; reads = refl }
completes ps (Value s p) = record { more = some_token (Iri []) ∷ some_token Dot ∷ some_token End ∷ []; out = _; reads = refl }
completes ps (Annotation s p text) = record { more = some_token Dot ∷ some_token End ∷ []; out = _; reads = refl }
completes ps (Datatype s p text) = record { more = some_token (Iri []) ∷ some_token Dot ∷ some_token End ∷ []; out = _; reads = refl }
completes ps (Separator s p) = record { more = some_token Dot ∷ some_token End ∷ []; out = []; reads = refl }
completes ps Done = record { more = []; out = []; reads = refl }

may_go_on : (front : List Placed) (qs : List Prefix) (to : State) → after [] Statement front ≡ Some (qs, to) → MayGoOn front
may_go_on front qs to e =
    let r = run front [] Statement qs to e in
    let c = completes qs to in
    (c.more, r.makes ++ c.out, document_found [] (front ++ c.more) (r.makes ++ c.out) (r.reads c.more ∙ ap (before r.makes) c.reads))

no_gift : (front out : List Fact) (e : TurtleError) → before front (Refuses e) ≡ Gives out → ⊥
no_gift front out e h = cc

may_not : (front : List Placed) (bad : Placed) (qs : List Prefix) (to : State) → after [] Statement front ≡ Some (qs, to) → next qs to bad.token ≡ None → ¬ (MayGoOn (front ++ bad ∷ []))
unfolding triples
may_not front bad qs to e none h =
    let r = run front [] Statement qs to e in
    let read : triples [] Statement (front ++ bad ∷ h.0) ≡ Gives h.1 = ap (triples [] Statement) (sym (append_assoc front (bad ∷ []) h.0)) ∙ document_read [] (front ++ bad ∷ [] ++ h.0) h.1 h.2 in
    let refused : triples qs to (bad ∷ h.0) ≡ Refuses (refusal qs bad.line bad.token) = rw none refl in
    no_gift r.makes h.1 (refusal qs bad.line bad.token) (sym (r.reads (bad ∷ h.0) ∙ ap (before r.makes) refused) ∙ read)

-- ---- where the reading stops

record StopsAt (ps : List Prefix) (state : State) (ts : List Placed) (e : TurtleError) : Type 0 where
  front : List Placed
  bad : Placed
  rest : List Placed
  qs : List Prefix
  to : State
  whole : ts ≡ front ++ bad ∷ rest
  reaches : after ps state front ≡ Some (qs, to)
  none : next qs to bad.token ≡ None
  why : e ≡ refusal qs bad.line bad.token

before_refuses : (front : List Fact) (r : Outcome) (e : TurtleError) → before front r ≡ Refuses e → r ≡ Refuses e
before_refuses front (Gives ts) e h = absurd cc
before_refuses front (Refuses f) e h = cc
before_refuses front Breaks e h = absurd cc

stop_step : (ps : List Prefix) (state : State) (t : Placed) (ts : List Placed) (e : TurtleError) (o : Option Step) → next ps state t.token ≡ o
    → lead (λ step. triples (add step.declares ps) step.state ts) (refusal ps t.line t.token) o ≡ Refuses e
    → ((qs : List Prefix) (to : State) → triples qs to ts ≡ Refuses e → StopsAt qs to ts e) → StopsAt ps state (t ∷ ts) e
stop_step ps state t ts e None f h rest = record { front = []; bad = t; rest = ts; qs = ps; to = state; whole = refl; reaches = refl; none = f; why = cc }
stop_step ps state t ts e (Some step) f h rest =
    let s = rest (add step.declares ps) step.state (before_refuses (add step.made []) (triples (add step.declares ps) step.state ts) e h) in
    record { front = t ∷ s.front; bad = s.bad; rest = s.rest; qs = s.qs; to = s.to; whole = ap (λ xs. t ∷ xs) s.whole; reaches = rw f s.reaches; none = s.none; why = s.why }

none_refused : (b : Bool) (e : TurtleError) → cond b (Gives []) Breaks ≡ Refuses e → ⊥
none_refused true e h = cc
none_refused false e h = cc

stops : (ts : List Placed) (ps : List Prefix) (state : State) (e : TurtleError) → triples ps state ts ≡ Refuses e → StopsAt ps state ts e
unfolding triples
stops [] ps state e h = absurd (none_refused (is_done state) e h)
stops (t ∷ ts) ps state e h = stop_step ps state t ts e (next ps state t.token) refl h (λ qs to f. stops ts qs to e f)

-- a text is refused at the first token that does not continue the grammar
pub refused : (ts : List Placed) (e : TurtleError) → triples [] Statement ts ≡ Refuses e → IsStopped ts e
refused ts e h =
    let s = stops ts [] Statement e h in
    record {
      front = s.front;
      bad = s.bad;
      rest = s.rest;
      whole = s.whole;
      goes_on = may_go_on s.front s.qs s.to s.reaches;
      stops = may_not s.front s.bad s.qs s.to s.reaches s.none;
      reason = s.why ∙ ap (λ ps. refusal ps s.bad.line s.bad.token) (sym (declared_after s.front s.qs s.to s.reaches));
    }

-- ---- and what is refused there is refused for that

-- where tokens lead
record Reaches (ps : List Prefix) (state : State) (ts : List Placed) : Type 0 where
  qs : List Prefix
  to : State
  reaches : after ps state ts ≡ Some (qs, to)

before_gives : (front : List Fact) (r : Outcome) (out : List Fact) → before front r ≡ Gives out → (more : List Fact) × (r ≡ Gives more)
before_gives front (Gives more) out h = (more, refl)
before_gives front (Refuses e) out h = absurd cc
before_gives front Breaks out h = absurd cc

reach_step : (ps : List Prefix) (state : State) (t : Placed) (front more : List Placed) (out : List Fact) (o : Option Step) → next ps state t.token ≡ o
    → lead (λ step. triples (add step.declares ps) step.state (front ++ more)) (refusal ps t.line t.token) o ≡ Gives out
    → ((qs : List Prefix) (to : State) (out : List Fact) → triples qs to (front ++ more) ≡ Gives out → Reaches qs to front) → Reaches ps state (t ∷ front)
reach_step ps state t front more out None f h rest = absurd cc
reach_step ps state t front more out (Some step) f h rest =
    let k = before_gives (add step.made []) (triples (add step.declares ps) step.state (front ++ more)) out h in
    let r = rest (add step.declares ps) step.state k.0 k.1 in
    record { qs = r.qs; to = r.to; reaches = rw f r.reaches }

-- what is read whole leads on at each token
reach : (front more : List Placed) (ps : List Prefix) (state : State) (out : List Fact) → triples ps state (front ++ more) ≡ Gives out → Reaches ps state front
unfolding triples
reach [] more ps state out h = record { qs = ps; to = state; reaches = refl }
reach (t ∷ front) more ps state out h = reach_step ps state t front more out (next ps state t.token) refl h (λ qs to us k. reach front more qs to us k)

more_step : (ps : List Prefix) (front : List Placed) (qs : List Prefix) (to : State) (more : List Placed) (o : Option Step)
    → after_step (λ step. after (add step.declares ps) step.state front) o ≡ Some (qs, to)
    → ((rs : List Prefix) (via : State) → after rs via front ≡ Some (qs, to) → after rs via (front ++ more) ≡ after qs to more)
    → after_step (λ step. after (add step.declares ps) step.state (front ++ more)) o ≡ after qs to more
more_step ps front qs to more None k rest = absurd cc
more_step ps front qs to more (Some step) k rest = rest (add step.declares ps) step.state k

after_more : (front : List Placed) (ps : List Prefix) (state : State) (qs : List Prefix) (to : State) (more : List Placed) → after ps state front ≡ Some (qs, to) → after ps state (front ++ more) ≡ after qs to more
after_more [] ps state qs to more h = let same = same_pair ps state qs to h in rw (same.0, same.1) refl
after_more (t ∷ front) ps state qs to more h = more_step ps front qs to more (next ps state t.token) h (λ rs via k. after_more front rs via qs to more k)

stuck : (front : List Placed) (bad : Placed) (qs : List Prefix) (to : State) (o : Option Step) → after [] Statement front ≡ Some (qs, to) → next qs to bad.token ≡ o → ¬ (MayGoOn (front ++ bad ∷ [])) → o ≡ None
stuck front bad qs to None e f h = refl
stuck front bad qs to (Some step) e f h =
    let one : after qs to (bad ∷ []) ≡ Some (add step.declares qs, step.state) = rw f refl in
    absurd (h (may_go_on (front ++ bad ∷ []) (add step.declares qs) step.state (after_more front [] Statement qs to (bad ∷ []) e ∙ one)))

pub is_refused : (ts : List Placed) (e : TurtleError) → IsStopped ts e → triples [] Statement ts ≡ Refuses e
unfolding triples
is_refused ts e s =
    let g = s.goes_on in
    let r = reach s.front g.0 [] Statement g.1 (document_read [] (s.front ++ g.0) g.1 g.2) in
    let none : next r.qs r.to s.bad.token ≡ None = stuck s.front s.bad r.qs r.to (next r.qs r.to s.bad.token) r.reaches refl s.stops in
    let runs = run s.front [] Statement r.qs r.to r.reaches in
    let here : triples r.qs r.to (s.bad ∷ s.rest) ≡ Refuses (refusal r.qs s.bad.line s.bad.token) = rw none refl in
    ap (triples [] Statement) s.whole ∙ runs.reads (s.bad ∷ s.rest) ∙ ap (before runs.makes) here
    ∙ ap (λ ps. Refuses (refusal ps s.bad.line s.bad.token)) (sym (declared_after s.front r.qs r.to r.reaches))
    ∙ ap (λ why. Refuses why) (sym s.reason)

-- ---- each text has an end

record HasEnd (ts : List Placed) : Type 0 where
  front : List Placed
  line : ℕ
  whole : ts ≡ front ++ record { line = line; token = End } ∷ []

onto_end : (t : Placed) (ts : List Placed) → HasEnd ts → HasEnd (t ∷ ts)
onto_end t ts h = record { front = t ∷ h.front; line = h.line; whole = ap (λ xs. t ∷ xs) h.whole }

either_ends : (b : Bool) (xs ys : List Placed) → HasEnd xs → HasEnd ys → HasEnd (cond b xs ys)
either_ends true xs ys h k = h
either_ends false xs ys h k = k

has_end : (cs : List ℕ) (line skip : ℕ) → HasEnd (tokens line skip cs)
unfolding tokens
has_end [] line skip = record { front = []; line = line; whole = refl }
has_end (c ∷ cs) line (suc skip) = has_end cs line skip
has_end (c ∷ cs) line zero =
    let comment = prefix_len (is_in class.Comment) cs in
    let taken = token_at (c ∷ cs) in
    let found : Placed = record { line = line; token = taken.0 } in
    let a = either_ends (eqb c code.hash) (tokens line comment cs) (found ∷ tokens line (taken.1 - 1) cs) (has_end cs line comment) (onto_end found (tokens line (taken.1 - 1) cs) (has_end cs line (taken.1 - 1))) in
    let b = either_ends (is_blank c) (tokens line 0 cs) (cond (eqb c code.hash) (tokens line comment cs) (found ∷ tokens line (taken.1 - 1) cs)) (has_end cs line 0) a in
    either_ends (eqb c code.line_feed) (tokens (line + 1) 0 cs) (cond (is_blank c) (tokens line 0 cs) (cond (eqb c code.hash) (tokens line comment cs) (found ∷ tokens line (taken.1 - 1) cs))) (has_end cs (line + 1) 0) b

breaks_before : (front : List Fact) (r : Outcome) → before front r ≡ Breaks → r ≡ Breaks
breaks_before front (Gives ts) h = absurd cc
breaks_before front (Refuses e) h = absurd cc
breaks_before front Breaks h = refl

not_broken : (b : Bool) → b ≡ true → cond b (Gives []) Breaks ≡ Breaks → ⊥
not_broken true e h = cc
not_broken false e h = cc

end_step : (ps : List Prefix) (state : State) (line : ℕ) (o : Option Step) → next ps state End ≡ o → lead (λ step. triples (add step.declares ps) step.state []) (refusal ps line End) o ≡ Breaks → ⊥
unfolding triples
end_step ps state line None f h = cc
end_step ps state line (Some step) f h = not_broken (is_done step.state) (end_leads ps state step f) (breaks_before (add step.made []) (triples (add step.declares ps) step.state []) h)

break_step : (ps : List Prefix) (ts : List Placed) (why : TurtleError) (o : Option Step) → lead (λ step. triples (add step.declares ps) step.state ts) why o ≡ Breaks
    → ((qs : List Prefix) (to : State) → triples qs to ts ≡ Breaks → ⊥) → ⊥
break_step ps ts why None h rest = cc
break_step ps ts why (Some step) h rest = rest (add step.declares ps) step.state (breaks_before (add step.made []) (triples (add step.declares ps) step.state ts) h)

end_reached : (front : List Placed) (line : ℕ) (ps : List Prefix) (state : State) → triples ps state (front ++ record { line = line; token = End } ∷ []) ≡ Breaks → ⊥
unfolding triples
end_reached [] line ps state h = end_step ps state line (next ps state End) refl h
end_reached (t ∷ front) line ps state h = break_step ps (front ++ record { line = line; token = End } ∷ []) (refusal ps t.line t.token) (next ps state t.token) h (λ qs to k. end_reached front line qs to k)

-- the tokens of a text never end too early
pub never_breaks : (cs : List ℕ) → triples [] Statement (tokens 1 0 cs) ≡ Breaks → ⊥
never_breaks cs h = let e = has_end cs 1 0 in end_reached e.front e.line [] Statement (ap (triples [] Statement) (sym e.whole) ∙ h)
