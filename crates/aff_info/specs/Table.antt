-- Which triples are statements of a name.
use Rattle.std.specs.Prelude.{ℕ, Bool, true, false, ◌&&◌, List, [], ◌∷◌, Option, Some, None, codes}
use Rattle.std.specs.Str.{bytes_eq}
use Rattle.aff_turtle.specs.Triples.{Term, Resource, Literal, Fact}
use Rattle.aff_info.specs.Schema.{image_stream, image_map, md5_type, sha1_type, sha256_type, sha512_type}
use Rattle.aff_info.specs.declared.draft.PartialInfo.{PartialInfo}
use Rattle.aff_info.specs.declared.name.InfoName.{InfoName}
use Rattle.aff_info.specs.declared.name.InfoName.TheVariants.{Stream, StreamSize, ChunkSize, ChunksInSegment, Method, StreamStored, Image, ImageSize, Dependent, Gap, ImageStored, Md5, Sha1, Sha256, Sha512, BlockMap}

-- the names in the order in which they are read
abbrev pub names : List InfoName
names =
    Stream ∷ Image ∷ StreamSize ∷ ChunkSize ∷ ChunksInSegment ∷ Method ∷ StreamStored
    ∷ ImageSize ∷ Dependent ∷ Gap ∷ ImageStored ∷ Md5 ∷ Sha1 ∷ Sha256 ∷ Sha512 ∷ BlockMap ∷ []

abbrev pub predicate_of : InfoName → List ℕ
predicate_of Stream = codes "http://www.w3.org/1999/02/22-rdf-syntax-ns#type"
predicate_of StreamSize = codes "http://aff4.org/Schema#size"
predicate_of ChunkSize = codes "http://aff4.org/Schema#chunkSize"
predicate_of ChunksInSegment = codes "http://aff4.org/Schema#chunksInSegment"
predicate_of Method = codes "http://aff4.org/Schema#compressionMethod"
predicate_of StreamStored = codes "http://aff4.org/Schema#stored"
predicate_of Image = codes "http://www.w3.org/1999/02/22-rdf-syntax-ns#type"
predicate_of ImageSize = codes "http://aff4.org/Schema#size"
predicate_of Dependent = codes "http://aff4.org/Schema#dependentStream"
predicate_of Gap = codes "http://aff4.org/Schema#mapGapDefaultStream"
predicate_of ImageStored = codes "http://aff4.org/Schema#stored"
predicate_of Md5 = codes "http://aff4.org/Schema#hash"
predicate_of Sha1 = codes "http://aff4.org/Schema#hash"
predicate_of Sha256 = codes "http://aff4.org/Schema#hash"
predicate_of Sha512 = codes "http://aff4.org/Schema#hash"
predicate_of BlockMap = codes "urn:aff4-live:blockMapHash"

-- an object is this IRI
abbrev pub is_resource : Term → List ℕ → Bool
is_resource (Resource iri) expected = bytes_eq iri expected
is_resource (Literal text datatype lang) expected = false

-- an object is a literal of this datatype
abbrev pub has_type : Term → List ℕ → Bool
has_type (Resource iri) expected = false
has_type (Literal text datatype lang) expected = bytes_eq datatype expected

-- a text is this URN
abbrev pub is_about : Option (List ℕ) → List ℕ → Bool
is_about None text = false
is_about (Some urn) text = bytes_eq urn text

-- the stream and the image have their type as object, and the hashes of an image their datatype
abbrev pub fits_object : InfoName → Term → Bool
fits_object Stream o = is_resource o image_stream
fits_object Image o = is_resource o image_map
fits_object Md5 o = has_type o md5_type
fits_object Sha1 o = has_type o sha1_type
fits_object Sha256 o = has_type o sha256_type
fits_object Sha512 o = has_type o sha512_type
fits_object _ o = true

-- the subject is any for the stream and the image, and the stream or the image for the others
abbrev pub fits_subject : InfoName → PartialInfo → List ℕ → Bool
fits_subject Stream d subject = true
fits_subject Image d subject = true
fits_subject StreamSize d subject = is_about d.stream subject
fits_subject ChunkSize d subject = is_about d.stream subject
fits_subject ChunksInSegment d subject = is_about d.stream subject
fits_subject Method d subject = is_about d.stream subject
fits_subject StreamStored d subject = is_about d.stream subject
fits_subject _ d subject = is_about d.image subject

-- a triple is a statement of this name, under what is known
unfoldable pub fits : InfoName → PartialInfo → Fact → Bool
fits name d t = bytes_eq t.predicate (predicate_of name) && fits_object name t.object && fits_subject name d t.subject

abbrev pub is_literal : Term → List ℕ → List ℕ → List ℕ → Bool
is_literal (Resource iri) t d l = false
is_literal (Literal text datatype lang) t d l = bytes_eq text t && bytes_eq datatype d && bytes_eq lang l

abbrev pub same_term : Term → Term → Bool
same_term (Resource iri) o = is_resource o iri
same_term (Literal text datatype lang) o = is_literal o text datatype lang

-- two triples say the same
abbrev pub same : Fact → Fact → Bool
same a b = bytes_eq a.subject b.subject && bytes_eq a.predicate b.predicate && same_term a.object b.object
