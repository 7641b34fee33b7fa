-- The IRIs and numbers of the statements (AFF4 Standard v1.0, and XML Schema for datatypes).
use Rattle.std.specs.Prelude.{ℕ, List, codes}
use Rattle.aff_model.specs.declared.limits.TheConstants.{BEVVY, CHUNK}

abbrev pub image_stream : List ℕ
image_stream = codes "http://aff4.org/Schema#ImageStream"

abbrev pub image_map : List ℕ
image_map = codes "http://aff4.org/Schema#Map"

abbrev pub null_compressor : List ℕ
null_compressor = codes "http://aff4.org/Schema#NullCompressor"

abbrev pub zero_data : List ℕ
zero_data = codes "http://aff4.org/Schema#Zero"

abbrev pub unknown_data : List ℕ
unknown_data = codes "http://aff4.org/Schema#UnknownData"

abbrev pub unreadable_data : List ℕ
unreadable_data = codes "http://aff4.org/Schema#UnreadableData"

abbrev pub md5_type : List ℕ
md5_type = codes "http://aff4.org/Schema#MD5"

abbrev pub sha1_type : List ℕ
sha1_type = codes "http://aff4.org/Schema#SHA1"

abbrev pub sha256_type : List ℕ
sha256_type = codes "http://aff4.org/Schema#SHA256"

abbrev pub sha512_type : List ℕ
sha512_type = codes "http://aff4.org/Schema#SHA512"

abbrev pub xsd_int : List ℕ
xsd_int = codes "http://www.w3.org/2001/XMLSchema#int"

abbrev pub xsd_integer : List ℕ
xsd_integer = codes "http://www.w3.org/2001/XMLSchema#integer"

abbrev pub xsd_long : List ℕ
xsd_long = codes "http://www.w3.org/2001/XMLSchema#long"

abbrev pub xsd_unsigned_long : List ℕ
xsd_unsigned_long = codes "http://www.w3.org/2001/XMLSchema#unsignedLong"

abbrev pub xsd_string : List ℕ
xsd_string = codes "http://www.w3.org/2001/XMLSchema#string"

-- the bytes of a chunk, and the chunks of a segment
abbrev pub chunk_size : ℕ
chunk_size = CHUNK

abbrev pub chunks_in_segment : ℕ
chunks_in_segment = BEVVY

-- the largest size of a stream or an image: 2^44
abbrev pub largest_size : ℕ
largest_size = 17592186044416
