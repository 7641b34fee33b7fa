-- Triples, as lists of bytes, and how they come of a text's characters.
use Rattle.std.specs.Prelude.{ℕ, List, [], codes}
use Rattle.std.specs.Str.{encode_utf8_all}

pub data Term : Type 0 where
  Resource : List ℕ → Term
  -- a text, its datatype and its language
  Literal : List ℕ → List ℕ → List ℕ → Term

pub record Fact : Type 0 where
  pub subject : List ℕ
  pub predicate : List ℕ
  pub object : Term

abbrev pub rdf_type : List ℕ
rdf_type = codes "http://www.w3.org/1999/02/22-rdf-syntax-ns#type"

abbrev pub lang_string : List ℕ
lang_string = codes "http://www.w3.org/1999/02/22-rdf-syntax-ns#langString"

abbrev pub xsd_string : List ℕ
xsd_string = codes "http://www.w3.org/2001/XMLSchema#string"

abbrev pub xsd_integer : List ℕ
xsd_integer = codes "http://www.w3.org/2001/XMLSchema#integer"

abbrev pub xsd_boolean : List ℕ
xsd_boolean = codes "http://www.w3.org/2001/XMLSchema#boolean"

-- a triple whose subject and predicate are these characters
abbrev pub fact : List ℕ → List ℕ → Term → Fact
fact s p o = record { subject = encode_utf8_all s; predicate = encode_utf8_all p; object = o }

-- a literal of these characters, without a language
abbrev pub typed : List ℕ → List ℕ → Term
typed text datatype = Literal (encode_utf8_all text) datatype []
