-- Where the one statement of each name stands among those that are written.
use Rattle.std.proofs.Common.{◌≡◌, ◌≢◌, ℕ, Bool, true, false, List, [], ◌∷◌, Option, Some, None, refl, sym, ap, ◌∙◌}
use Rattle.std.specs.Prelude.{filter, position}
use Rattle.std.specs.Fmt.{decimal}
use Rattle.std.specs.Str.{bytes_eq}
use Rattle.std.proofs.lemmas.Slice.Eq.{bytes_eq-Decides}
use Rattle.hex.specs.Hex.{encode_lower}
use Rattle.aff_turtle.specs.Triples.{Resource, Fact}
use Rattle.aff_info.specs.Schema.{image_stream, image_map, null_compressor, unknown_data, md5_type, sha1_type, sha256_type, sha512_type, xsd_int, xsd_long, chunk_size, chunks_in_segment}
use Rattle.aff_info.specs.Table.{fits, same}
use Rattle.aff_info.specs.Statements.{Only, one_of}
use Rattle.aff_info.specs.Writing.{row, plain, facts_of}
use Rattle.aff_info.specs.declared.draft.PartialInfo.{PartialInfo}
use Rattle.aff_info.specs.declared.info.Info.{Info}
use Rattle.aff_info.specs.declared.name.InfoName.TheVariants.{Stream, StreamSize, ChunkSize, ChunksInSegment, Method, StreamStored, Image, ImageSize, Dependent, Gap, ImageStored, Md5, Sha1, Sha256, Sha512, BlockMap}
use Rattle.aff_info.proofs.Ones.{same_self}

pub equal : (xs : List ℕ) → bytes_eq xs xs ≡ true
equal xs = (bytes_eq-Decides xs xs).1 refl

pub apart : (xs ys : List ℕ) → xs ≢ ys → bytes_eq xs ys ≡ false
apart xs ys h = by (bytes_eq xs ys) refl
  where
    by : (b : Bool) → bytes_eq xs ys ≡ b → bytes_eq xs ys ≡ false
    by true e = absurd (h ((bytes_eq-Decides xs ys).0 e))
    by false e = e

single : (t : Fact) → one_of (t ∷ []) ≡ Only t
single t = rw (same_self t) refl

pub only_stream : (info : Info) (d : PartialInfo) → one_of (filter (fits Stream d) (facts_of info)) ≡ Only (row info.stream Stream (Resource image_stream))
unfolding fits
only_stream info d = single (row info.stream Stream (Resource image_stream))

pub first_stream : (info : Info) (d : PartialInfo) → position (fits Stream d) (facts_of info) ≡ Some 0
unfolding fits
first_stream info d = refl

pub only_image : (info : Info) (d : PartialInfo) → one_of (filter (fits Image d) (facts_of info)) ≡ Only (row info.image Image (Resource image_map))
unfolding fits
only_image info d = single (row info.image Image (Resource image_map))

pub first_image : (info : Info) (d : PartialInfo) → position (fits Image d) (facts_of info) ≡ Some 6
unfolding fits
first_image info d = refl

pub only_stream_size : (info : Info) (d : PartialInfo) → d.stream ≡ Some info.stream → bytes_eq info.stream info.image ≡ false → one_of (filter (fits StreamSize d) (facts_of info)) ≡ Only (row info.stream StreamSize (plain (decimal info.stream_size) xsd_long))
unfolding fits
only_stream_size info d is two = rw (is, equal info.stream, two) (single (row info.stream StreamSize (plain (decimal info.stream_size) xsd_long)))

pub first_stream_size : (info : Info) (d : PartialInfo) → d.stream ≡ Some info.stream → position (fits StreamSize d) (facts_of info) ≡ Some 1
unfolding fits
first_stream_size info d is = rw (is, equal info.stream) (refl)

pub only_chunk_size : (info : Info) (d : PartialInfo) → d.stream ≡ Some info.stream → one_of (filter (fits ChunkSize d) (facts_of info)) ≡ Only (row info.stream ChunkSize (plain (decimal chunk_size) xsd_int))
unfolding fits
only_chunk_size info d is = rw (is, equal info.stream) (single (row info.stream ChunkSize (plain (decimal chunk_size) xsd_int)))

pub first_chunk_size : (info : Info) (d : PartialInfo) → d.stream ≡ Some info.stream → position (fits ChunkSize d) (facts_of info) ≡ Some 2
unfolding fits
first_chunk_size info d is = rw (is, equal info.stream) (refl)

pub only_chunks_in_segment : (info : Info) (d : PartialInfo) → d.stream ≡ Some info.stream → one_of (filter (fits ChunksInSegment d) (facts_of info)) ≡ Only (row info.stream ChunksInSegment (plain (decimal chunks_in_segment) xsd_int))
unfolding fits
only_chunks_in_segment info d is = rw (is, equal info.stream) (single (row info.stream ChunksInSegment (plain (decimal chunks_in_segment) xsd_int)))

pub first_chunks_in_segment : (info : Info) (d : PartialInfo) → d.stream ≡ Some info.stream → position (fits ChunksInSegment d) (facts_of info) ≡ Some 3
unfolding fits
first_chunks_in_segment info d is = rw (is, equal info.stream) (refl)

pub only_method : (info : Info) (d : PartialInfo) → d.stream ≡ Some info.stream → one_of (filter (fits Method d) (facts_of info)) ≡ Only (row info.stream Method (Resource null_compressor))
unfolding fits
only_method info d is = rw (is, equal info.stream) (single (row info.stream Method (Resource null_compressor)))

pub first_method : (info : Info) (d : PartialInfo) → d.stream ≡ Some info.stream → position (fits Method d) (facts_of info) ≡ Some 4
unfolding fits
first_method info d is = rw (is, equal info.stream) (refl)

pub only_stream_stored : (info : Info) (d : PartialInfo) → d.stream ≡ Some info.stream → bytes_eq info.stream info.image ≡ false → one_of (filter (fits StreamStored d) (facts_of info)) ≡ Only (row info.stream StreamStored (Resource info.volume))
unfolding fits
only_stream_stored info d is two = rw (is, equal info.stream, two) (single (row info.stream StreamStored (Resource info.volume)))

pub first_stream_stored : (info : Info) (d : PartialInfo) → d.stream ≡ Some info.stream → position (fits StreamStored d) (facts_of info) ≡ Some 5
unfolding fits
first_stream_stored info d is = rw (is, equal info.stream) (refl)

pub only_image_size : (info : Info) (d : PartialInfo) → d.image ≡ Some info.image → bytes_eq info.image info.stream ≡ false → one_of (filter (fits ImageSize d) (facts_of info)) ≡ Only (row info.image ImageSize (plain (decimal info.image_size) xsd_long))
unfolding fits
only_image_size info d is two = rw (is, equal info.image, two) (single (row info.image ImageSize (plain (decimal info.image_size) xsd_long)))

pub first_image_size : (info : Info) (d : PartialInfo) → d.image ≡ Some info.image → bytes_eq info.image info.stream ≡ false → position (fits ImageSize d) (facts_of info) ≡ Some 7
unfolding fits
first_image_size info d is two = rw (is, equal info.image, two) (refl)

pub only_dependent : (info : Info) (d : PartialInfo) → d.image ≡ Some info.image → one_of (filter (fits Dependent d) (facts_of info)) ≡ Only (row info.image Dependent (Resource info.stream))
unfolding fits
only_dependent info d is = rw (is, equal info.image) (single (row info.image Dependent (Resource info.stream)))

pub first_dependent : (info : Info) (d : PartialInfo) → d.image ≡ Some info.image → position (fits Dependent d) (facts_of info) ≡ Some 8
unfolding fits
first_dependent info d is = rw (is, equal info.image) (refl)

pub only_gap : (info : Info) (d : PartialInfo) → d.image ≡ Some info.image → one_of (filter (fits Gap d) (facts_of info)) ≡ Only (row info.image Gap (Resource unknown_data))
unfolding fits
only_gap info d is = rw (is, equal info.image) (single (row info.image Gap (Resource unknown_data)))

pub first_gap : (info : Info) (d : PartialInfo) → d.image ≡ Some info.image → position (fits Gap d) (facts_of info) ≡ Some 9
unfolding fits
first_gap info d is = rw (is, equal info.image) (refl)

pub only_image_stored : (info : Info) (d : PartialInfo) → d.image ≡ Some info.image → bytes_eq info.image info.stream ≡ false → one_of (filter (fits ImageStored d) (facts_of info)) ≡ Only (row info.image ImageStored (Resource info.volume))
unfolding fits
only_image_stored info d is two = rw (is, equal info.image, two) (single (row info.image ImageStored (Resource info.volume)))

pub first_image_stored : (info : Info) (d : PartialInfo) → d.image ≡ Some info.image → bytes_eq info.image info.stream ≡ false → position (fits ImageStored d) (facts_of info) ≡ Some 10
unfolding fits
first_image_stored info d is two = rw (is, equal info.image, two) (refl)

pub only_md5 : (info : Info) (d : PartialInfo) → d.image ≡ Some info.image → one_of (filter (fits Md5 d) (facts_of info)) ≡ Only (row info.image Md5 (plain (encode_lower info.linear.md5) md5_type))
unfolding fits
only_md5 info d is = rw (is, equal info.image) (single (row info.image Md5 (plain (encode_lower info.linear.md5) md5_type)))

pub first_md5 : (info : Info) (d : PartialInfo) → d.image ≡ Some info.image → position (fits Md5 d) (facts_of info) ≡ Some 11
unfolding fits
first_md5 info d is = rw (is, equal info.image) (refl)

pub only_sha1 : (info : Info) (d : PartialInfo) → d.image ≡ Some info.image → one_of (filter (fits Sha1 d) (facts_of info)) ≡ Only (row info.image Sha1 (plain (encode_lower info.linear.sha1) sha1_type))
unfolding fits
only_sha1 info d is = rw (is, equal info.image) (single (row info.image Sha1 (plain (encode_lower info.linear.sha1) sha1_type)))

pub first_sha1 : (info : Info) (d : PartialInfo) → d.image ≡ Some info.image → position (fits Sha1 d) (facts_of info) ≡ Some 12
unfolding fits
first_sha1 info d is = rw (is, equal info.image) (refl)

pub only_sha256 : (info : Info) (d : PartialInfo) → d.image ≡ Some info.image → one_of (filter (fits Sha256 d) (facts_of info)) ≡ Only (row info.image Sha256 (plain (encode_lower info.linear.sha256) sha256_type))
unfolding fits
only_sha256 info d is = rw (is, equal info.image) (single (row info.image Sha256 (plain (encode_lower info.linear.sha256) sha256_type)))

pub first_sha256 : (info : Info) (d : PartialInfo) → d.image ≡ Some info.image → position (fits Sha256 d) (facts_of info) ≡ Some 13
unfolding fits
first_sha256 info d is = rw (is, equal info.image) (refl)

pub only_sha512 : (info : Info) (d : PartialInfo) → d.image ≡ Some info.image → one_of (filter (fits Sha512 d) (facts_of info)) ≡ Only (row info.image Sha512 (plain (encode_lower info.linear.sha512) sha512_type))
unfolding fits
only_sha512 info d is = rw (is, equal info.image) (single (row info.image Sha512 (plain (encode_lower info.linear.sha512) sha512_type)))

pub first_sha512 : (info : Info) (d : PartialInfo) → d.image ≡ Some info.image → position (fits Sha512 d) (facts_of info) ≡ Some 14
unfolding fits
first_sha512 info d is = rw (is, equal info.image) (refl)

pub only_block_map : (info : Info) (d : PartialInfo) → d.image ≡ Some info.image → one_of (filter (fits BlockMap d) (facts_of info)) ≡ Only (row info.image BlockMap (plain (encode_lower info.block_map) sha512_type))
unfolding fits
only_block_map info d is = rw (is, equal info.image) (single (row info.image BlockMap (plain (encode_lower info.block_map) sha512_type)))

pub first_block_map : (info : Info) (d : PartialInfo) → d.image ≡ Some info.image → position (fits BlockMap d) (facts_of info) ≡ Some 15
unfolding fits
first_block_map info d is = rw (is, equal info.image) (refl)
