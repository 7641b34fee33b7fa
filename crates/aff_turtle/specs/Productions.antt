-- What a text is, over its tokens: the grammar by its productions (RDF 1.1 Turtle, section 6.5, as far as it is read).
use Rattle.std.specs.Prelude.{◌≡◌, ◌⊎◌, ℕ, List, [], ◌∷◌, ◌++◌, codes, Some}
use Rattle.std.specs.Str.{encode_utf8_all}
use Rattle.aff_turtle.specs.Tokens.{Placed, Iri, Name, Quoted, At, Word, Integer, Carets, Dot, Semicolon, Comma, End}
use Rattle.aff_turtle.specs.Triples.{Term, Resource, Literal, Fact, fact, typed, xsd_string, xsd_integer, xsd_boolean, lang_string}
use Rattle.aff_turtle.specs.Prefixes.{Prefix, named, predicate}

-- an object stands at the front, and the rest is behind it
pub data BeginsObject (ps : List Prefix) : List Placed → Term → List Placed → Type 0 where
  resource : (t : Placed) (iri : List ℕ) (rest : List Placed) → named ps t.token ≡ Some iri
      → BeginsObject ps (t ∷ rest) (Resource (encode_utf8_all iri)) rest
  plain_text : (t : Placed) (text : List ℕ) (rest : List Placed) → t.token ≡ Quoted text
      → BeginsObject ps (t ∷ rest) (typed text xsd_string) rest
  typed_text : (t u v : Placed) (text iri : List ℕ) (rest : List Placed) → t.token ≡ Quoted text → u.token ≡ Carets
      → named ps v.token ≡ Some iri → BeginsObject ps (t ∷ u ∷ v ∷ rest) (typed text (encode_utf8_all iri)) rest
  tagged_text : (t u : Placed) (text lang : List ℕ) (rest : List Placed) → t.token ≡ Quoted text → u.token ≡ At lang
      → BeginsObject ps (t ∷ u ∷ rest) (Literal (encode_utf8_all text) lang_string (encode_utf8_all lang)) rest
  integer : (t : Placed) (text : List ℕ) (rest : List Placed) → t.token ≡ Integer text
      → BeginsObject ps (t ∷ rest) (typed text xsd_integer) rest
  boolean : (t : Placed) (text : List ℕ) (rest : List Placed) → t.token ≡ Word text
      → (text ≡ codes "true") ⊎ (text ≡ codes "false") → BeginsObject ps (t ∷ rest) (typed text xsd_boolean) rest

-- objects with `,` between them
pub data BeginsObjects (ps : List Prefix) (s p : List ℕ) : List Placed → List Fact → List Placed → Type 0 where
  last_object : (ts : List Placed) (o : Term) (rest : List Placed) → BeginsObject ps ts o rest
      → BeginsObjects ps s p ts (fact s p o ∷ []) rest
  more_objects : (ts : List Placed) (o : Term) (t : Placed) (us : List Placed) (out : List Fact) (rest : List Placed)
      → BeginsObject ps ts o (t ∷ us) → t.token ≡ Comma → BeginsObjects ps s p us out rest
      → BeginsObjects ps s p ts (fact s p o ∷ out) rest

-- one `;` or more
pub data BeginsSemicolons : List Placed → List Placed → Type 0 where
  last_semicolon : (t : Placed) (rest : List Placed) → t.token ≡ Semicolon → BeginsSemicolons (t ∷ rest) rest
  more_semicolons : (t : Placed) (ts rest : List Placed) → t.token ≡ Semicolon → BeginsSemicolons ts rest
      → BeginsSemicolons (t ∷ ts) rest

-- predicates with their objects and `;` between them, and the `.` at the end
pub data BeginsPredicates (ps : List Prefix) (s : List ℕ) : List Placed → List Fact → List Placed → Type 0 where
  last_predicate : (t : Placed) (p : List ℕ) (ts : List Placed) (out : List Fact) (dot : Placed) (rest : List Placed)
      → predicate ps t.token ≡ Some p → BeginsObjects ps s p ts out (dot ∷ rest) → dot.token ≡ Dot
      → BeginsPredicates ps s (t ∷ ts) out rest
  trailing : (t : Placed) (p : List ℕ) (ts us : List Placed) (out : List Fact) (dot : Placed) (rest : List Placed)
      → predicate ps t.token ≡ Some p → BeginsObjects ps s p ts out us → BeginsSemicolons us (dot ∷ rest) → dot.token ≡ Dot
      → BeginsPredicates ps s (t ∷ ts) out rest
  more_predicates : (t : Placed) (p : List ℕ) (ts us vs : List Placed) (out more : List Fact) (rest : List Placed)
      → predicate ps t.token ≡ Some p → BeginsObjects ps s p ts out us → BeginsSemicolons us vs
      → BeginsPredicates ps s vs more rest → BeginsPredicates ps s (t ∷ ts) (out ++ more) rest

-- prefix lines and statements up to the end
pub data IsDocument : List Prefix → List Placed → List Fact → Type 0 where
  the_end : (ps : List Prefix) (t : Placed) → t.token ≡ End → IsDocument ps (t ∷ []) []
  prefix_line : (ps : List Prefix) (t u v w : Placed) (name iri : List ℕ) (ts : List Placed) (out : List Fact)
      → t.token ≡ At (codes "prefix") → u.token ≡ Name name [] → v.token ≡ Iri iri → w.token ≡ Dot
      → IsDocument (record { name = name; iri = iri } ∷ ps) ts out → IsDocument ps (t ∷ u ∷ v ∷ w ∷ ts) out
  statement : (ps : List Prefix) (t : Placed) (s : List ℕ) (ts rest : List Placed) (out more : List Fact)
      → named ps t.token ≡ Some s → BeginsPredicates ps s ts out rest → IsDocument ps rest more
      → IsDocument ps (t ∷ ts) (out ++ more)
