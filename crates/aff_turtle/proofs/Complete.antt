-- What the productions give is read.
use Rattle.std.proofs.Common.{◌≡◌, ℕ, ◌⊎◌, true, ◌||◌, List, [], ◌∷◌, Some, None, codes, refl, sym, ap, ◌∙◌, inl, inr}
use Rattle.std.specs.Str.{bytes_eq, encode_utf8_all}
use Rattle.aff_turtle.specs.Tokens.{Token, Placed, Iri, Name, Word, Dot, Semicolon, Comma}
use Rattle.aff_turtle.specs.Triples.{Term, Resource, Literal, Fact, fact, typed, xsd_integer, xsd_boolean, lang_string}
use Rattle.aff_turtle.specs.Prefixes.{Prefix, named, predicate}
use Rattle.aff_turtle.specs.Machine.{State, Statement, PrefixName, PrefixIri, PrefixEnd, Predicate, NextPredicate, Value, Annotation, Datatype, Separator, Done, to, makes, at_subject, at_statement, at_verb, at_next_predicate, at_resource, making, plain, next, before, triples, Gives}
use Rattle.aff_turtle.specs.Productions.{BeginsObject, resource, plain_text, typed_text, tagged_text, integer, boolean, BeginsObjects, last_object, more_objects, BeginsSemicolons, last_semicolon, more_semicolons, BeginsPredicates, last_predicate, trailing, more_predicates, IsDocument, the_end, prefix_line, statement}
use Rattle.aff_turtle.proofs.Statements.{before_nil, before-before, leads}

-- one token that makes and declares nothing
moves : (ps : List Prefix) (state after : State) (t : Placed) (ts : List Placed) → next ps state t.token ≡ to after → triples ps state (t ∷ ts) ≡ triples ps after ts
moves ps state after t ts e = leads ps state t ts (record { state = after; declares = None; made = None }) e ∙ before_nil (triples ps after ts)

value_named : (ps : List Prefix) (s p : List ℕ) (token : Token) (iri : List ℕ) → named ps token ≡ Some iri → next ps (Value s p) token ≡ makes s p (Resource (encode_utf8_all iri))
unfolding next
value_named ps s p (Iri text) iri e = ap (at_resource s p) e
value_named ps s p (Name prefix local) iri e = ap (at_resource s p) e
value_named ps s p _ iri e = absurd cc

-- what may stand behind an object
pub data BeginsSeparator : List Placed → Type 0 where
  comma : (t : Placed) (ts : List Placed) → t.token ≡ Comma → BeginsSeparator (t ∷ ts)
  semicolon : (t : Placed) (ts : List Placed) → t.token ≡ Semicolon → BeginsSeparator (t ∷ ts)
  dot : (t : Placed) (ts : List Placed) → t.token ≡ Dot → BeginsSeparator (t ∷ ts)

separated : (ps : List Prefix) (s p text : List ℕ) (t : Placed) (ts : List Placed) (after : State) → next ps (Separator s p) t.token ≡ to after → next ps (Annotation s p text) t.token ≡ making (plain s p text) (to after) → triples ps (Annotation s p text) (t ∷ ts) ≡ before (plain s p text ∷ []) (triples ps (Separator s p) (t ∷ ts))
separated ps s p text t ts after e f =
    leads ps (Annotation s p text) t ts (record { state = after; declares = None; made = Some (plain s p text) }) f
    ∙ ap (before (plain s p text ∷ [])) (sym (moves ps (Separator s p) after t ts e))

plain_behind : (ps : List Prefix) (s p text : List ℕ) (rest : List Placed) → BeginsSeparator rest → triples ps (Annotation s p text) rest ≡ before (plain s p text ∷ []) (triples ps (Separator s p) rest)
unfolding next
plain_behind ps s p text _ (comma t ts e) = separated ps s p text t ts (Value s p) (rw e refl) (rw e refl)
plain_behind ps s p text _ (semicolon t ts e) = separated ps s p text t ts (NextPredicate s) (rw e refl) (rw e refl)
plain_behind ps s p text _ (dot t ts e) = separated ps s p text t ts Statement (rw e refl) (rw e refl)

-- an object that is there at one token
made : (ps : List Prefix) (state : State) (s p : List ℕ) (o : Term) (t : Placed) (ts : List Placed) → next ps state t.token ≡ makes s p o → triples ps state (t ∷ ts) ≡ before (fact s p o ∷ []) (triples ps (Separator s p) ts)
made ps state s p o t ts e = leads ps state t ts (record { state = Separator s p; declares = None; made = Some (fact s p o) }) e

-- true and false are such words
either : (word : List ℕ) → (word ≡ codes "true") ⊎ (word ≡ codes "false") → (bytes_eq word (codes "true") || bytes_eq word (codes "false")) ≡ true
either word (inl e) = rw e refl
either word (inr e) = rw e refl

object_read : (ps : List Prefix) (s p : List ℕ) (ts : List Placed) (o : Term) (rest : List Placed) → BeginsObject ps ts o rest → BeginsSeparator rest
    → triples ps (Value s p) ts ≡ before (fact s p o ∷ []) (triples ps (Separator s p) rest)
unfolding next
object_read ps s p _ _ _ (resource t iri rest e) sep = made ps (Value s p) s p (Resource (encode_utf8_all iri)) t rest (value_named ps s p t.token iri e)
object_read ps s p _ _ _ (plain_text t text rest e) sep = moves ps (Value s p) (Annotation s p text) t rest (rw e refl) ∙ plain_behind ps s p text rest sep
object_read ps s p _ _ _ (typed_text t u v text iri rest e f g) sep =
    moves ps (Value s p) (Annotation s p text) t (u ∷ v ∷ rest) (rw e refl)
    ∙ moves ps (Annotation s p text) (Datatype s p text) u (v ∷ rest) (rw f refl)
    ∙ made ps (Datatype s p text) s p (typed text (encode_utf8_all iri)) v rest (rw g refl)
object_read ps s p _ _ _ (tagged_text t u text lang rest e f) sep =
    moves ps (Value s p) (Annotation s p text) t (u ∷ rest) (rw e refl)
    ∙ made ps (Annotation s p text) s p (Literal (encode_utf8_all text) lang_string (encode_utf8_all lang)) u rest (rw f refl)
object_read ps s p _ _ _ (integer t text rest e) sep = made ps (Value s p) s p (typed text xsd_integer) t rest (rw e refl)
object_read ps s p _ _ _ (boolean t text rest e h) sep = made ps (Value s p) s p (typed text xsd_boolean) t rest (rw (e, either text h) refl)

objects_read : (ps : List Prefix) (s p : List ℕ) (ts : List Placed) (out : List Fact) (rest : List Placed) → BeginsObjects ps s p ts out rest → BeginsSeparator rest
    → triples ps (Value s p) ts ≡ before out (triples ps (Separator s p) rest)
unfolding next
objects_read ps s p _ _ _ (last_object ts o rest h) sep = object_read ps s p ts o rest h sep
objects_read ps s p _ _ _ (more_objects ts o t us out rest h e more) sep =
    object_read ps s p ts o (t ∷ us) h (comma t us e)
    ∙ ap (before (fact s p o ∷ [])) (moves ps (Separator s p) (Value s p) t us (rw e refl) ∙ objects_read ps s p us out rest more sep)
    ∙ sym (before-before (fact s p o ∷ []) out (triples ps (Separator s p) rest))

-- behind one `;` or more
semicolons_read : (ps : List Prefix) (s : List ℕ) (ts rest : List Placed) → BeginsSemicolons ts rest → triples ps (NextPredicate s) ts ≡ triples ps (NextPredicate s) rest
unfolding next
semicolons_read ps s _ _ (last_semicolon t rest e) = moves ps (NextPredicate s) (NextPredicate s) t rest (rw e refl)
semicolons_read ps s _ _ (more_semicolons t ts rest e h) = moves ps (NextPredicate s) (NextPredicate s) t ts (rw e refl) ∙ semicolons_read ps s ts rest h

separator_semicolons : (ps : List Prefix) (s p : List ℕ) (ts rest : List Placed) → BeginsSemicolons ts rest → triples ps (Separator s p) ts ≡ triples ps (NextPredicate s) rest
unfolding next
separator_semicolons ps s p _ _ (last_semicolon t rest e) = moves ps (Separator s p) (NextPredicate s) t rest (rw e refl)
separator_semicolons ps s p _ _ (more_semicolons t ts rest e h) = moves ps (Separator s p) (NextPredicate s) t ts (rw e refl) ∙ semicolons_read ps s ts rest h

semicolons_separate : (ts rest : List Placed) → BeginsSemicolons ts rest → BeginsSeparator ts
semicolons_separate _ _ (last_semicolon t rest e) = semicolon t rest e
semicolons_separate _ _ (more_semicolons t ts rest e h) = semicolon t ts e

verb_read : (ps : List Prefix) (s : List ℕ) (t : Placed) (p : List ℕ) (ts : List Placed) → predicate ps t.token ≡ Some p → triples ps (Predicate s) (t ∷ ts) ≡ triples ps (Value s p) ts
unfolding next
verb_read ps s t p ts e = moves ps (Predicate s) (Value s p) t ts (rw e refl)

next_verb : (ps : List Prefix) (s : List ℕ) (token : Token) (p : List ℕ) → predicate ps token ≡ Some p → at_next_predicate ps s token ≡ to (Value s p)
next_verb ps s (Iri text) p e = ap (at_verb s) e
next_verb ps s (Name prefix local) p e = ap (at_verb s) e
next_verb ps s (Word word) p e = ap (at_verb s) e
next_verb ps s _ p e = absurd cc

next_verb_read : (ps : List Prefix) (s : List ℕ) (t : Placed) (p : List ℕ) (ts : List Placed) → predicate ps t.token ≡ Some p → triples ps (NextPredicate s) (t ∷ ts) ≡ triples ps (Value s p) ts
unfolding next
next_verb_read ps s t p ts e = moves ps (NextPredicate s) (Value s p) t ts (next_verb ps s t.token p e)

-- the first predicate, or one behind a `;`
begins_alike : (ps : List Prefix) (s : List ℕ) (ts : List Placed) (out : List Fact) (rest : List Placed) → BeginsPredicates ps s ts out rest → triples ps (NextPredicate s) ts ≡ triples ps (Predicate s) ts
begins_alike ps s _ _ _ (last_predicate t p ts out end rest e h f) = next_verb_read ps s t p ts e ∙ sym (verb_read ps s t p ts e)
begins_alike ps s _ _ _ (trailing t p ts us out end rest e h k f) = next_verb_read ps s t p ts e ∙ sym (verb_read ps s t p ts e)
begins_alike ps s _ _ _ (more_predicates t p ts us vs out more rest e h k l) = next_verb_read ps s t p ts e ∙ sym (verb_read ps s t p ts e)

predicates_read : (ps : List Prefix) (s : List ℕ) (ts : List Placed) (out : List Fact) (rest : List Placed) → BeginsPredicates ps s ts out rest → triples ps (Predicate s) ts ≡ before out (triples ps Statement rest)
unfolding next
predicates_read ps s _ _ _ (last_predicate t p ts out end rest e h f) =
    verb_read ps s t p ts e ∙ objects_read ps s p ts out (end ∷ rest) h (dot end rest f) ∙ ap (before out) (moves ps (Separator s p) Statement end rest (rw f refl))
predicates_read ps s _ _ _ (trailing t p ts us out end rest e h k f) =
    verb_read ps s t p ts e ∙ objects_read ps s p ts out us h (semicolons_separate us (end ∷ rest) k)
    ∙ ap (before out) (separator_semicolons ps s p us (end ∷ rest) k ∙ moves ps (NextPredicate s) Statement end rest (rw f refl))
predicates_read ps s _ _ _ (more_predicates t p ts us vs out more rest e h k l) =
    verb_read ps s t p ts e ∙ objects_read ps s p ts out us h (semicolons_separate us vs k)
    ∙ ap (before out) (separator_semicolons ps s p us vs k ∙ begins_alike ps s vs more rest l ∙ predicates_read ps s vs more rest l)
    ∙ sym (before-before out more (triples ps Statement rest))

statement_named : (ps : List Prefix) (token : Token) (s : List ℕ) → named ps token ≡ Some s → at_statement ps token ≡ to (Predicate s)
statement_named ps (Iri text) s e = ap at_subject e
statement_named ps (Name prefix local) s e = ap at_subject e
statement_named ps _ s e = absurd cc

-- what is a document is read
pub document_read : (ps : List Prefix) (ts : List Placed) (out : List Fact) → IsDocument ps ts out → triples ps Statement ts ≡ Gives out
unfolding next triples
document_read _ _ _ (the_end ps t e) = moves ps Statement Done t [] (rw e refl)
document_read _ _ _ (prefix_line ps t u v w name iri ts out e f g k h) =
    moves ps Statement PrefixName t (u ∷ v ∷ w ∷ ts) (rw e refl)
    ∙ moves ps PrefixName (PrefixIri name) u (v ∷ w ∷ ts) (rw f refl)
    ∙ moves ps (PrefixIri name) (PrefixEnd name iri) v (w ∷ ts) (rw g refl)
    ∙ leads ps (PrefixEnd name iri) w ts (record { state = Statement; declares = Some (record { name = name; iri = iri }); made = None }) (rw k refl)
    ∙ before_nil (triples (record { name = name; iri = iri } ∷ ps) Statement ts)
    ∙ document_read (record { name = name; iri = iri } ∷ ps) ts out h
document_read _ _ _ (statement ps t s ts rest out more e h k) =
    moves ps Statement (Predicate s) t ts (statement_named ps t.token s e)
    ∙ predicates_read ps s ts out rest h ∙ ap (before out) (document_read ps rest more k)
