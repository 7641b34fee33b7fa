-- The grammar as a machine over tokens: which token may stand where, and what it says.
use Rattle.std.specs.Prelude.{ℕ, Bool, true, false, ◌||◌, if◌then◌else◌, List, [], ◌∷◌, ◌++◌, codes, Option, Some, None}
use Rattle.std.specs.Str.{bytes_eq, encode_utf8_all}
use Rattle.aff_turtle.specs.Tokens.{Token, Placed, Iri, Name, Quoted, At, Word, Integer, Carets, Dot, Semicolon, Comma, End}
use Rattle.aff_turtle.specs.Triples.{Term, Resource, Literal, Fact, fact, typed, xsd_string, xsd_integer, xsd_boolean, lang_string}
use Rattle.aff_turtle.specs.Prefixes.{Prefix, named, predicate}
use Rattle.aff_turtle.specs.Refusals.{refusal}
use Rattle.aff_turtle.specs.declared.error.TurtleError.{TurtleError}

-- What may come next, with what is known already: subject, predicate and text.
pub data State : Type 0 where
  -- a statement, a prefix line, or the end
  Statement : State
  PrefixName : State
  PrefixIri : List ℕ → State
  PrefixEnd : List ℕ → List ℕ → State
  Predicate : List ℕ → State
  -- behind a `;`
  NextPredicate : List ℕ → State
  Value : List ℕ → List ℕ → State
  -- behind a text in quotes: a datatype, a language, or what may stand behind an object
  Annotation : List ℕ → List ℕ → List ℕ → State
  Datatype : List ℕ → List ℕ → List ℕ → State
  -- behind an object
  Separator : List ℕ → List ℕ → State
  -- nothing more
  Done : State

pub record Step : Type 0 where
  pub state : State
  pub declares : Option Prefix
  pub made : Option Fact

abbrev pub to : State → Option Step
to state = Some (record { state = state; declares = None; made = None })

-- an object is there
abbrev pub makes : List ℕ → List ℕ → Term → Option Step
makes s p o = Some (record { state = Separator s p; declares = None; made = Some (fact s p o) })

abbrev pub at_subject : Option (List ℕ) → Option Step
at_subject None = None
at_subject (Some s) = to (Predicate s)

abbrev pub at_statement : List Prefix → Token → Option Step
at_statement ps End = to Done
at_statement ps (At word) = if bytes_eq word (codes "prefix") then to PrefixName else None
at_statement ps token = at_subject (named ps token)

abbrev pub at_prefix_name : Token → Option Step
at_prefix_name (Name prefix []) = to (PrefixIri prefix)
at_prefix_name _ = None

abbrev pub at_prefix_iri : List ℕ → Token → Option Step
at_prefix_iri name (Iri iri) = to (PrefixEnd name iri)
at_prefix_iri name _ = None

abbrev pub at_prefix_end : List ℕ → List ℕ → Token → Option Step
at_prefix_end name iri Dot = Some (record { state = Statement; declares = Some (record { name = name; iri = iri }); made = None })
at_prefix_end name iri _ = None

abbrev pub at_verb : List ℕ → Option (List ℕ) → Option Step
at_verb s None = None
at_verb s (Some p) = to (Value s p)

abbrev pub at_next_predicate : List Prefix → List ℕ → Token → Option Step
at_next_predicate ps s Semicolon = to (NextPredicate s)
at_next_predicate ps s Dot = to Statement
at_next_predicate ps s token = at_verb s (predicate ps token)

abbrev pub at_resource : List ℕ → List ℕ → Option (List ℕ) → Option Step
at_resource s p None = None
at_resource s p (Some iri) = makes s p (Resource (encode_utf8_all iri))

abbrev pub at_value : List Prefix → List ℕ → List ℕ → Token → Option Step
at_value ps s p (Quoted text) = to (Annotation s p text)
at_value ps s p (Integer text) = makes s p (typed text xsd_integer)
at_value ps s p (Word word) = if bytes_eq word (codes "true") || bytes_eq word (codes "false") then makes s p (typed word xsd_boolean) else None
at_value ps s p token = at_resource s p (named ps token)

abbrev pub at_separator : List ℕ → List ℕ → Token → Option Step
at_separator s p Comma = to (Value s p)
at_separator s p Semicolon = to (NextPredicate s)
at_separator s p Dot = to Statement
at_separator s p _ = None

-- a step that makes this triple too
abbrev pub making : Fact → Option Step → Option Step
making made None = None
making made (Some step) = Some (record { state = step.state; declares = step.declares; made = Some made })

-- the object before this token was a plain literal
abbrev pub plain : List ℕ → List ℕ → List ℕ → Fact
plain s p text = fact s p (typed text xsd_string)

abbrev pub at_annotation : List ℕ → List ℕ → List ℕ → Token → Option Step
at_annotation s p text Carets = to (Datatype s p text)
at_annotation s p text (At lang) = makes s p (Literal (encode_utf8_all text) lang_string (encode_utf8_all lang))
at_annotation s p text token = making (plain s p text) (at_separator s p token)

abbrev pub at_datatype : List ℕ → List ℕ → List ℕ → Option (List ℕ) → Option Step
at_datatype s p text None = None
at_datatype s p text (Some iri) = makes s p (typed text (encode_utf8_all iri))

-- where a token leads, if it continues the grammar
unfoldable pub next : List Prefix → State → Token → Option Step
next ps Statement token = at_statement ps token
next ps PrefixName token = at_prefix_name token
next ps (PrefixIri name) token = at_prefix_iri name token
next ps (PrefixEnd name iri) token = at_prefix_end name iri token
next ps (Predicate s) token = at_verb s (predicate ps token)
next ps (NextPredicate s) token = at_next_predicate ps s token
next ps (Value s p) token = at_value ps s p token
next ps (Annotation s p text) token = at_annotation s p text token
next ps (Datatype s p text) token = at_datatype s p text (named ps token)
next ps (Separator s p) token = at_separator s p token
next ps Done token = None

abbrev pub add : {A : Type 0} → Option A → List A → List A
add None xs = xs
add (Some x) xs = x ∷ xs

-- What tokens give: triples, a refusal, or neither, where they end and more was to come.
pub data Outcome : Type 0 where
  Gives : List Fact → Outcome
  Refuses : TurtleError → Outcome
  Breaks : Outcome

-- triples before those of the rest
abbrev pub before : List Fact → Outcome → Outcome
before front (Gives ts) = Gives (front ++ ts)
before front (Refuses why) = Refuses why
before front Breaks = Breaks

abbrev pub lead : (Step → Outcome) → TurtleError → Option Step → Outcome
lead rest why None = Refuses why
lead rest why (Some step) = before (add step.made []) (rest step)

abbrev pub is_done : State → Bool
is_done Done = true
is_done _ = false

-- the triples of the tokens from a state on, or why the first that does not continue the grammar is refused
unfoldable pub triples : List Prefix → State → List Placed → Outcome
triples ps state [] = if is_done state then Gives [] else Breaks
triples ps state (t ∷ ts) = lead (λ step. triples (add step.declares ps) step.state ts) (refusal ps t.line t.token) (next ps state t.token)
