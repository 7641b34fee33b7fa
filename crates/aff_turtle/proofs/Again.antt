-- What is written is read again.
use Rattle.std.proofs.Common.{◌≡◌, ℕ, ◌+◌, Bool, true, false, ◌&&◌, List, [], ◌∷◌, ◌++◌, refl, sym, ap, ◌∙◌, append_assoc, inl, inr}
use Rattle.std.proofs.Math.Utf8.{scalars}
use Rattle.std.proofs.lemmas.Bool.Decides.{eqb_tells}
use Rattle.std.proofs.lemmas.Str.{chars-encodes, chars_from_encodes, scalars-chars}
use Rattle.std.specs.List.{flat_map}
use Rattle.std.specs.Str.{chars, encode_utf8_all, IsUtf8}
use Rattle.aff_turtle.specs.Codes as code
use Rattle.aff_turtle.specs.Tokens.{Iri, Quoted, At, Carets, Dot, Placed, tokens}
use Rattle.aff_turtle.specs.Triples.{Term, Resource, Literal, Fact, fact, typed, lang_string}
use Rattle.aff_turtle.specs.Machine.{Statement, next, before, triples, Gives}
use Rattle.aff_turtle.specs.Outcomes.{reading}
use Rattle.aff_turtle.specs.Written.{spelled, in_angles, annotation, object_text, line, written, IsIri, IsTag, IsAnnotation, IsTerm, IsFact, AreFacts}
use Rattle.aff_turtle.proofs.Lexed.{placed, blank, iri_token, literal_token, carets_token, tag_token, dot_token}
use Rattle.aff_turtle.proofs.Statements.{before_nil, reads_text}

-- the bytes of a text are those of its characters
back : (bytes : List ℕ) → IsUtf8 bytes → encode_utf8_all (chars bytes) ≡ bytes
back bytes h = ap encode_utf8_all (sym (chars_from_encodes h.0 bytes h h.1.1)) ∙ h.1.1

-- ---- tokens that make a triple

iri_triple : (n : ℕ) (s p o : List ℕ) (ts : List Placed) → triples [] Statement (placed n (Iri s) ∷ placed n (Iri p) ∷ placed n (Iri o) ∷ placed n Dot ∷ ts) ≡ before (fact s p (Resource (encode_utf8_all o)) ∷ []) (triples [] Statement ts)
unfolding triples next
iri_triple n s p o ts = simp before_nil

typed_triple : (n : ℕ) (s p text d : List ℕ) (ts : List Placed) → triples [] Statement (placed n (Iri s) ∷ placed n (Iri p) ∷ placed n (Quoted text) ∷ placed n Carets ∷ placed n (Iri d) ∷ placed n Dot ∷ ts) ≡ before (fact s p (typed text (encode_utf8_all d)) ∷ []) (triples [] Statement ts)
unfolding triples next
typed_triple n s p text d ts = simp before_nil

tagged_triple : (n : ℕ) (s p text lang : List ℕ) (ts : List Placed) → triples [] Statement (placed n (Iri s) ∷ placed n (Iri p) ∷ placed n (Quoted text) ∷ placed n (At lang) ∷ placed n Dot ∷ ts) ≡ before (fact s p (Literal (encode_utf8_all text) lang_string (encode_utf8_all lang)) ∷ []) (triples [] Statement ts)
unfolding triples next
tagged_triple n s p text lang ts = simp before_nil

-- ---- lines

-- a line in its parts
parts : (t : Fact) (rest : List ℕ) → line t ++ rest ≡ in_angles (chars t.subject) ++ (code.space ∷ (in_angles (chars t.predicate) ++ (code.space ∷ (object_text t.object ++ (code.space ∷ code.dot ∷ code.line_feed ∷ rest)))))
parts t rest = simp append_assoc

-- where an object is written, its tokens and the end of the line are read
abbrev Reads : List ℕ → List ℕ → Term → Type 0
Reads s p o = (n : ℕ) (rest : List ℕ) → triples [] Statement (placed n (Iri s) ∷ placed n (Iri p) ∷ tokens n 0 (object_text o ++ (code.space ∷ code.dot ∷ code.line_feed ∷ rest))) ≡ before (fact s p o ∷ []) (triples [] Statement (tokens (n + 1) 0 rest))

line_end : (n : ℕ) (rest : List ℕ) → tokens n 0 (code.space ∷ code.dot ∷ code.line_feed ∷ rest) ≡ placed n Dot ∷ tokens (n + 1) 0 rest
line_end n rest = blank n (code.dot ∷ code.line_feed ∷ rest) ∙ dot_token n rest

reads_iri : (s p o : List ℕ) → IsIri o → Reads s p (Resource o)
reads_iri s p o h n rest =
    let e : tokens n 0 (object_text (Resource o) ++ (code.space ∷ code.dot ∷ code.line_feed ∷ rest)) ≡ placed n (Iri (chars o)) ∷ placed n Dot ∷ tokens (n + 1) 0 rest = iri_token n (chars o) (code.space ∷ code.dot ∷ code.line_feed ∷ rest) h.allowed h.absolute ∙ ap (λ ts. placed n (Iri (chars o)) ∷ ts) (line_end n rest) in
    rw e (iri_triple n s p (chars o) (tokens (n + 1) 0 rest) ∙ ap (λ b. before (fact s p (Resource b) ∷ []) (triples [] Statement (tokens (n + 1) 0 rest))) (back o h.text))

reads_typed : (s p text d : List ℕ) → IsUtf8 text → IsIri d → Reads s p (Literal text d [])
reads_typed s p text d u h n rest =
    let body = flat_map spelled (chars text) in
    let regroup : object_text (Literal text d []) ++ (code.space ∷ code.dot ∷ code.line_feed ∷ rest) ≡ code.quote ∷ body ++ code.quote ∷ code.caret ∷ code.caret ∷ (in_angles (chars d) ++ (code.space ∷ code.dot ∷ code.line_feed ∷ rest)) = simp append_assoc in
    let e : tokens n 0 (object_text (Literal text d []) ++ (code.space ∷ code.dot ∷ code.line_feed ∷ rest)) ≡ placed n (Quoted (chars text)) ∷ placed n Carets ∷ placed n (Iri (chars d)) ∷ placed n Dot ∷ tokens (n + 1) 0 rest =
    ap (tokens n 0) regroup
    ∙ literal_token n (chars text) (code.caret ∷ (in_angles (chars d) ++ (code.space ∷ code.dot ∷ code.line_feed ∷ rest))) code.caret refl
    ∙ ap (λ ts. placed n (Quoted (chars text)) ∷ ts) (carets_token n (in_angles (chars d) ++ (code.space ∷ code.dot ∷ code.line_feed ∷ rest))
    ∙ ap (λ ts. placed n Carets ∷ ts) (iri_token n (chars d) (code.space ∷ code.dot ∷ code.line_feed ∷ rest) h.allowed h.absolute
    ∙ ap (λ ts. placed n (Iri (chars d)) ∷ ts) (line_end n rest))) in
    rw e (typed_triple n s p (chars text) (chars d) (tokens (n + 1) 0 rest) ∙ rw (back text u, back d h.text) refl)

reads_tagged : (s p text lang : List ℕ) (c : ℕ) → IsUtf8 text → IsTag (c ∷ lang) → Reads s p (Literal text lang_string (c ∷ lang))
reads_tagged s p text lang c u h n rest =
    let body = flat_map spelled (chars text) in
    let tag = chars (c ∷ lang) in
    let regroup : object_text (Literal text lang_string (c ∷ lang)) ++ (code.space ∷ code.dot ∷ code.line_feed ∷ rest) ≡ code.quote ∷ body ++ code.quote ∷ code.at_sign ∷ (tag ++ (code.space ∷ code.dot ∷ code.line_feed ∷ rest)) = simp append_assoc in
    let e : tokens n 0 (object_text (Literal text lang_string (c ∷ lang)) ++ (code.space ∷ code.dot ∷ code.line_feed ∷ rest)) ≡ placed n (Quoted (chars text)) ∷ placed n (At tag) ∷ placed n Dot ∷ tokens (n + 1) 0 rest =
    ap (tokens n 0) regroup
    ∙ literal_token n (chars text) (tag ++ (code.space ∷ code.dot ∷ code.line_feed ∷ rest)) code.at_sign refl
    ∙ ap (λ ts. placed n (Quoted (chars text)) ∷ ts) (tag_token n tag (code.dot ∷ code.line_feed ∷ rest) h.begins h.whole
    ∙ ap (λ ts. placed n (At tag) ∷ ts) (line_end n rest)) in
    rw e (tagged_triple n s p (chars text) tag (tokens (n + 1) 0 rest) ∙ rw (back text u, back (c ∷ lang) h.text) refl)

reads_object : (s p : List ℕ) (o : Term) → IsTerm o → Reads s p o
reads_object s p (Resource iri) h = reads_iri s p iri h
reads_object s p (Literal text d []) h = reads_typed s p text d h.0 h.1
reads_object s p (Literal text d (c ∷ lang)) h = rw h.1.0 (reads_tagged s p text lang c h.0 h.1.1)

line_again : (t : Fact) (n : ℕ) (rest : List ℕ) → IsFact t → triples [] Statement (tokens n 0 (line t ++ rest)) ≡ before (t ∷ []) (triples [] Statement (tokens (n + 1) 0 rest))
line_again t n rest h =
    let s = chars t.subject in
    let p = chars t.predicate in
    let tail = code.space ∷ (object_text t.object ++ (code.space ∷ code.dot ∷ code.line_feed ∷ rest)) in
    let e : tokens n 0 (line t ++ rest) ≡ placed n (Iri s) ∷ placed n (Iri p) ∷ tokens n 0 (object_text t.object ++ (code.space ∷ code.dot ∷ code.line_feed ∷ rest)) =
    ap (tokens n 0) (parts t rest)
    ∙ iri_token n s (code.space ∷ (in_angles p ++ tail)) h.subject.allowed h.subject.absolute
    ∙ ap (λ ts. placed n (Iri s) ∷ ts) (blank n (in_angles p ++ tail) ∙ iri_token n p tail h.predicate.allowed h.predicate.absolute
    ∙ ap (λ ts. placed n (Iri p) ∷ ts) (blank n (object_text t.object ++ (code.space ∷ code.dot ∷ code.line_feed ∷ rest)))) in
    rw e (reads_object s p t.object h.object n rest ∙ rw (back t.subject h.subject.text, back t.predicate h.predicate.text) refl)

lines_again : (ts : List Fact) (n : ℕ) → AreFacts ts → triples [] Statement (tokens n 0 (flat_map line ts)) ≡ Gives ts
unfolding tokens triples next
lines_again [] n h = refl
lines_again (t ∷ ts) n h = line_again t n (flat_map line ts) h.0 ∙ ap (before (t ∷ [])) (lines_again ts (n + 1) h.1)

-- ---- characters

both : (a b : Bool) → (a && b) ≡ true → (a ≡ true) × (b ≡ true)
both true b h = (refl, h)
both false b h = absurd cc

scalars-append : (a b : List ℕ) → scalars a ≡ true → scalars b ≡ true → scalars (a ++ b) ≡ true
scalars-append [] b h k = k
scalars-append (c ∷ cs) b h k = let two = both _ (scalars cs) h in rw (two.0, scalars-append cs b two.1 k) refl

scalars_one : (c : ℕ) → scalars (c ∷ []) ≡ true → scalars (spelled c) ≡ true
unfolding spelled
scalars_one c h = elim (eqb_tells c code.quote) [
  | inl y ↦ rw y.1 refl
  | inr no_quote ↦ elim (eqb_tells c code.backslash) [
    | inl y ↦ rw y.1 refl
    | inr no_backslash ↦ elim (eqb_tells c code.line_feed) [
      | inl y ↦ rw y.1 refl
      | inr no_feed ↦ elim (eqb_tells c code.carriage_return) [
        | inl y ↦ rw y.1 refl
        | inr no_return ↦ elim (eqb_tells c code.tab) [
          | inl y ↦ rw y.1 refl
          | inr no_tab ↦ rw (no_quote.0, no_backslash.0, no_feed.0, no_return.0, no_tab.0) h
        ]
      ]
    ]
  ]
]

scalars_spelled : (cs : List ℕ) → scalars cs ≡ true → scalars (flat_map spelled cs) ≡ true
scalars_spelled [] h = refl
scalars_spelled (c ∷ cs) h =
    let two = both _ (scalars cs) h in
    scalars-append (spelled c) (flat_map spelled cs) (scalars_one c (rw two.0 refl)) (scalars_spelled cs two.1)

scalars_angles : (bytes : List ℕ) → IsUtf8 bytes → scalars (in_angles (chars bytes)) ≡ true
scalars_angles bytes h = scalars-append (chars bytes) (code.greater ∷ []) (scalars-chars bytes h) refl

scalars_annotation : (d lang : List ℕ) → IsAnnotation d lang → scalars (annotation d lang) ≡ true
scalars_annotation d [] h = scalars_angles d h.text
scalars_annotation d (c ∷ lang) h = scalars-chars (c ∷ lang) h.1.text

scalars_object : (o : Term) → IsTerm o → scalars (object_text o) ≡ true
scalars_object (Resource iri) h = scalars_angles iri h.text
scalars_object (Literal text d lang) h = scalars-append (code.quote ∷ flat_map spelled (chars text)) (code.quote ∷ annotation d lang) (scalars_spelled (chars text) (scalars-chars text h.0)) (scalars_annotation d lang h.1)

scalars_line : (t : Fact) → IsFact t → scalars (line t) ≡ true
scalars_line t h =
    let a = scalars-append (in_angles (chars t.subject)) (code.space ∷ in_angles (chars t.predicate)) (scalars_angles t.subject h.subject.text) (scalars_angles t.predicate h.predicate.text) in
    let b = scalars-append (in_angles (chars t.subject) ++ code.space ∷ in_angles (chars t.predicate)) (code.space ∷ object_text t.object) a (scalars_object t.object h.object) in
    scalars-append (in_angles (chars t.subject) ++ code.space ∷ in_angles (chars t.predicate) ++ code.space ∷ object_text t.object) (code.space ∷ code.dot ∷ code.line_feed ∷ []) b refl

scalars_lines : (ts : List Fact) → AreFacts ts → scalars (flat_map line ts) ≡ true
scalars_lines [] h = refl
scalars_lines (t ∷ ts) h = scalars-append (line t) (flat_map line ts) (scalars_line t h.0) (scalars_lines ts h.1)

-- what is written is read again
pub read_again : (ts : List Fact) → AreFacts ts → reading (written ts) ≡ Gives ts
unfolding written
read_again ts h =
    let cs = flat_map line ts in
    let s = scalars_lines ts h in
    reads_text (encode_utf8_all cs) (cs, (s, refl)) ∙ rw (chars-encodes cs s) (lines_again ts 1 h)
