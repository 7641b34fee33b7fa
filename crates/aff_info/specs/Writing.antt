-- The sixteen statements of metadata.
use Rattle.std.specs.Prelude.{ℕ, List, [], ◌∷◌, ◌++◌}
use Rattle.std.specs.Fmt.{decimal}
use Rattle.hex.specs.Hex.{encode_lower}
use Rattle.aff_turtle.specs.Triples.{Term, Resource, Literal, Fact}
use Rattle.aff_info.specs.Schema.{image_stream, image_map, null_compressor, unknown_data, md5_type, sha1_type, sha256_type, sha512_type, xsd_int, xsd_long, chunk_size, chunks_in_segment}
use Rattle.aff_info.specs.Table.{predicate_of}
use Rattle.aff_info.specs.declared.info.Info.{Info}
use Rattle.aff_info.specs.declared.name.InfoName.{InfoName}
use Rattle.aff_info.specs.declared.name.InfoName.TheVariants.{Stream, StreamSize, ChunkSize, ChunksInSegment, Method, StreamStored, Image, ImageSize, Dependent, Gap, ImageStored, Md5, Sha1, Sha256, Sha512, BlockMap}

-- the statement of a name
abbrev pub row : List ℕ → InfoName → Term → Fact
row subject name o = record { subject = subject; predicate = predicate_of name; object = o }

-- a literal without a language
abbrev pub plain : List ℕ → List ℕ → Term
plain text datatype = Literal text datatype []

abbrev pub stream_facts : Info → List Fact
stream_facts info =
    row info.stream Stream (Resource image_stream)
    ∷ row info.stream StreamSize (plain (decimal info.stream_size) xsd_long)
    ∷ row info.stream ChunkSize (plain (decimal chunk_size) xsd_int)
    ∷ row info.stream ChunksInSegment (plain (decimal chunks_in_segment) xsd_int)
    ∷ row info.stream Method (Resource null_compressor)
    ∷ row info.stream StreamStored (Resource info.volume)
    ∷ []

abbrev pub image_facts : Info → List Fact
image_facts info =
    row info.image Image (Resource image_map)
    ∷ row info.image ImageSize (plain (decimal info.image_size) xsd_long)
    ∷ row info.image Dependent (Resource info.stream)
    ∷ row info.image Gap (Resource unknown_data)
    ∷ row info.image ImageStored (Resource info.volume)
    ∷ []

abbrev pub hash_facts : Info → List Fact
hash_facts info =
    row info.image Md5 (plain (encode_lower info.linear.md5) md5_type)
    ∷ row info.image Sha1 (plain (encode_lower info.linear.sha1) sha1_type)
    ∷ row info.image Sha256 (plain (encode_lower info.linear.sha256) sha256_type)
    ∷ row info.image Sha512 (plain (encode_lower info.linear.sha512) sha512_type)
    ∷ row info.image BlockMap (plain (encode_lower info.block_map) sha512_type)
    ∷ []

-- the sixteen statements, in the order of the table
abbrev pub facts_of : Info → List Fact
facts_of info = stream_facts info ++ (image_facts info ++ hash_facts info)
