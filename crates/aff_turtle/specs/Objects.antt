-- What the objects of the code say.
use Rattle.std.specs.String.{string_bytes}
use Rattle.aff_turtle.specs.Triples.{Term, Resource, Literal}
use Rattle.aff_turtle.specs.declared.triple.Object.{Object}
use Rattle.aff_turtle.specs.declared.triple.Object.TheVariants as objects

abbrev pub term_of : Object → Term
term_of (objects.Iri iri) = Resource (string_bytes iri)
term_of (objects.Literal text datatype lang) = Literal (string_bytes text) (string_bytes datatype) (string_bytes lang)
