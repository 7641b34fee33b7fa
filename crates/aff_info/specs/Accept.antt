-- What the statement of a name may say, and what it adds to what is known.
use Rattle.std.specs.Prelude.{ℕ, Bool, true, false, ◌&&◌, ◌==◌, nat_le, List, [], ◌∷◌, take, drop, Option, Some, None, Result, Ok, Err, codes, if◌then◌else◌}
use Rattle.std.specs.Str.{bytes_eq}
use Rattle.aff_spec.specs.Words.{is_uuid}
use Rattle.aff_turtle.specs.Triples.{Term, Resource, Literal, Fact}
use Rattle.aff_info.specs.Schema.{null_compressor, sha512_type, chunk_size, chunks_in_segment, largest_size}
use Rattle.aff_info.specs.Table.{is_resource, is_about, has_type}
use Rattle.aff_info.specs.Values.{stated_number, gap_of, digest_value}
use Rattle.aff_info.specs.Faults.{InfoFault, BadValue, and_then, Method as OtherMethod}
use Rattle.aff_info.specs.declared.draft.PartialInfo.{PartialInfo}
use Rattle.aff_info.specs.declared.name.InfoName.{InfoName}
use Rattle.aff_info.specs.declared.name.InfoName.TheVariants.{Stream, StreamSize, ChunkSize, ChunksInSegment, Method, StreamStored, Image, ImageSize, Dependent, Gap, ImageStored, Md5, Sha1, Sha256, Sha512, BlockMap}

-- nothing, or a `/` with any text
abbrev pub is_path : List ℕ → Bool
is_path [] = true
is_path (b ∷ bytes) = b == 47

-- a URN: `aff4://`, a uuid, and nothing or a `/` with any text
unfoldable pub is_urn : List ℕ → Bool
is_urn text = bytes_eq (take 7 text) (codes "aff4://") && is_uuid (take 36 (drop 7 text)) && is_path (drop 43 text)

-- a value where there is one
abbrev pub needs : {A : Type 0} → InfoName → Option A → Result A InfoFault
needs name None = Err (BadValue name)
needs name (Some x) = Ok x

-- a value that passes a test
abbrev pub only_if : {A : Type 0} → InfoName → Bool → A → Result A InfoFault
only_if name b x = if b then Ok x else Err (BadValue name)

-- a test alone
abbrev pub passes : InfoName → Bool → Result (Unit {0}) InfoFault
passes name b = if b then Ok tt else Err (BadValue name)

abbrev pub urn_in : InfoName → List ℕ → Result (List ℕ) InfoFault
urn_in name text = only_if name (is_urn text) text

abbrev pub urn_named : InfoName → Term → Result (List ℕ) InfoFault
urn_named name (Resource iri) = urn_in name iri
urn_named name (Literal text datatype lang) = Err (BadValue name)

-- a size is at most 2^44
abbrev pub size_of : InfoName → Term → Result ℕ InfoFault
size_of name o = and_then (needs name (stated_number o)) (λ n. only_if name (nat_le n largest_size) n)

abbrev pub is_number : ℕ → Option ℕ → Bool
is_number expected None = false
is_number expected (Some n) = n == expected

abbrev pub needs_number : InfoName → ℕ → Term → Result (Unit {0}) InfoFault
needs_number name expected o = passes name (is_number expected (stated_number o))

abbrev pub is_named : Option (List ℕ) → Term → Bool
is_named urn (Resource iri) = is_about urn iri
is_named urn (Literal text datatype lang) = false

abbrev pub needs_urn : InfoName → Option (List ℕ) → Term → Result (Unit {0}) InfoFault
needs_urn name urn o = passes name (is_named urn o)

-- chunks are stored as they are
abbrev pub needs_method : Term → Result (Unit {0}) InfoFault
needs_method (Resource iri) = if bytes_eq iri null_compressor then Ok tt else Err (OtherMethod iri)
needs_method (Literal text datatype lang) = Err (BadValue Method)

abbrev pub digest_in : InfoName → ℕ → Term → Result (List ℕ) InfoFault
digest_in name size o = needs name (digest_value size o)

-- what is known with a statement of a name
abbrev pub accepted : InfoName → Fact → PartialInfo → Result PartialInfo InfoFault
accepted Stream t d = and_then (urn_in Stream t.subject) (λ urn. Ok (record d { stream = Some urn }))
accepted Image t d = and_then (urn_in Image t.subject) (λ urn. Ok (record d { image = Some urn }))
accepted StreamSize t d = and_then (size_of StreamSize t.object) (λ n. Ok (record d { stream_size = n }))
accepted ImageSize t d = and_then (size_of ImageSize t.object) (λ n. Ok (record d { image_size = n }))
accepted ChunkSize t d = and_then (needs_number ChunkSize chunk_size t.object) (λ _. Ok d)
accepted ChunksInSegment t d = and_then (needs_number ChunksInSegment chunks_in_segment t.object) (λ _. Ok d)
accepted Method t d = and_then (needs_method t.object) (λ _. Ok d)
accepted StreamStored t d = and_then (urn_named StreamStored t.object) (λ urn. Ok (record d { volume = Some urn }))
accepted ImageStored t d = and_then (needs_urn ImageStored d.volume t.object) (λ _. Ok d)
accepted Dependent t d = and_then (needs_urn Dependent d.stream t.object) (λ _. Ok d)
accepted Gap t d = and_then (needs Gap (gap_of t.object)) (λ gap. Ok (record d { gap = gap }))
accepted Md5 t d = and_then (digest_in Md5 16 t.object) (λ bytes. Ok (record d { linear = record d.linear { md5 = bytes } }))
accepted Sha1 t d = and_then (digest_in Sha1 20 t.object) (λ bytes. Ok (record d { linear = record d.linear { sha1 = bytes } }))
accepted Sha256 t d = and_then (digest_in Sha256 32 t.object) (λ bytes. Ok (record d { linear = record d.linear { sha256 = bytes } }))
accepted Sha512 t d = and_then (digest_in Sha512 64 t.object) (λ bytes. Ok (record d { linear = record d.linear { sha512 = bytes } }))
accepted BlockMap t d = and_then (passes BlockMap (has_type t.object sha512_type)) (λ _. and_then (digest_in BlockMap 64 t.object) (λ bytes. Ok (record d { block_map = bytes })))
