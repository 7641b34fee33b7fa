-- What is stated is read back.
use Rattle.std.proofs.Common.{◌≡◌, ◌≢◌, ◌≤◌, ◌<◌, ◌^◌, ℕ, Bool, true, false, cond, leb, List, [], ◌∷◌, map, Option, Some, None, Result, Ok, Err, refl, sym, ap, ◌∙◌, arith}
use Rattle.std.specs.Prelude.{filter, position}
use Rattle.std.specs.Fmt.{decimal}
use Rattle.std.specs.Str.{bytes_eq}
use Rattle.std.proofs.lemmas.Bool.{le-leb}
use Rattle.std.specs.Result.{result_ok}
use Rattle.hex.specs.Hex.{encode_lower, decode_sized}
use Rattle.hex.proofs.HexLemmas.{decode_sized-encode_lower}
use Rattle.aff_turtle.specs.Triples.{Resource, Fact}
use Rattle.aff_info.specs.Schema.{image_stream, image_map, null_compressor, unknown_data, md5_type, sha1_type, sha256_type, sha512_type, xsd_int, xsd_long, chunk_size, chunks_in_segment, largest_size}
use Rattle.aff_info.specs.Table.{names, fits}
use Rattle.aff_info.specs.Statements.{Only, one_of}
use Rattle.aff_info.specs.Values.{number_in, digest_value}
use Rattle.aff_info.specs.Accept.{is_urn, accepted}
use Rattle.aff_info.specs.Faults.{InfoFault, and_then}
use Rattle.aff_info.specs.Reading.{nothing, stated, runs, firsts, others, aside, whole_of, IsInfo}
use Rattle.aff_info.specs.Writing.{row, plain, facts_of}
use Rattle.aff_info.specs.Laws.{HasDigestSize, CanBeStated}
use Rattle.aff_info.specs.declared.draft.PartialInfo.{PartialInfo}
use Rattle.aff_info.specs.declared.info.Info.{Info}
use Rattle.aff_info.specs.declared.name.InfoName.{InfoName}
use Rattle.aff_info.specs.declared.name.InfoName.TheVariants.{Stream, StreamSize, ChunkSize, ChunksInSegment, Method, StreamStored, Image, ImageSize, Dependent, Gap, ImageStored, Md5, Sha1, Sha256, Sha512, BlockMap}
use Rattle.aff_info.proofs.Numbers.{number_spelled}
use Rattle.aff_info.proofs.Rows as rows
use Rattle.aff_info.proofs.Urns.{is_urn_true}

abbrev known : PartialInfo → Result PartialInfo InfoFault
known d = Ok d

-- one name more
step : (n : InfoName) (ns : List InfoName) (facts : List Fact) (d new : PartialInfo) (t : Fact) (total : Result PartialInfo InfoFault) → one_of (filter (fits n d) facts) ≡ Only t → accepted n t d ≡ Ok new
    → runs ns facts new ≡ total → runs (n ∷ ns) facts d ≡ total
unfolding runs
step n ns facts d new t total only accepts rest = rw (only, accepts) rest

small : (n : ℕ) → n ≤ largest_size → n < 2 ^ 64
small n h = omega (arith, h)

sized : (n : ℕ) → n ≤ largest_size → number_in (decimal n) ≡ Some n
sized n h = number_spelled n (decimal n) (small n h) refl

fits_size : (n : ℕ) → n ≤ largest_size → leb n largest_size ≡ true
fits_size n h = le-leb n largest_size h

digested : (size : ℕ) (bytes : List ℕ) → HasDigestSize size bytes → decode_sized (encode_lower bytes) size ≡ Ok bytes
digested size bytes h = decode_sized-encode_lower bytes size h.long h.bytes_are

-- what is known once all is read
abbrev last : Info → PartialInfo
last info = record {
  volume = Some info.volume;
  stream = Some info.stream;
  image = Some info.image;
  stream_size = info.stream_size;
  image_size = info.image_size;
  gap = info.gap;
  linear = info.linear;
  block_map = info.block_map;
}

all_read : (info : Info) → CanBeStated info → runs names (facts_of info) nothing ≡ known (last info)
unfolding runs
all_read info h =
    let facts = facts_of info in
    let total = known (last info) in
    let s = info.stream in
    let i = info.image in
    let two : bytes_eq s i ≡ false = rows.apart s i h.two in
    let other : bytes_eq i s ≡ false = rows.apart i s (λ e. h.two (sym e)) in
    let d1 : PartialInfo = record nothing { stream = Some s } in
    let d2 : PartialInfo = record d1 { image = Some i } in
    let d3 : PartialInfo = record d2 { stream_size = info.stream_size } in
    let d4 : PartialInfo = record d3 { volume = Some info.volume } in
    let d5 : PartialInfo = record d4 { image_size = info.image_size } in
    let d6 : PartialInfo = record d5 { gap = info.gap } in
    let d7 : PartialInfo = record d6 { linear = record d6.linear { md5 = info.linear.md5 } } in
    let d8 : PartialInfo = record d7 { linear = record d7.linear { sha1 = info.linear.sha1 } } in
    let d9 : PartialInfo = record d8 { linear = record d8.linear { sha256 = info.linear.sha256 } } in
    let d10 : PartialInfo = record d9 { linear = record d9.linear { sha512 = info.linear.sha512 } } in
    step Stream (Image ∷ StreamSize ∷ ChunkSize ∷ ChunksInSegment ∷ Method ∷ StreamStored ∷ ImageSize ∷ Dependent ∷ Gap ∷ ImageStored ∷ Md5 ∷ Sha1 ∷ Sha256 ∷ Sha512 ∷ BlockMap ∷ []) facts nothing d1 _ total (rows.only_stream info nothing) (rw (is_urn_true s h.stream) refl)
    (step Image (StreamSize ∷ ChunkSize ∷ ChunksInSegment ∷ Method ∷ StreamStored ∷ ImageSize ∷ Dependent ∷ Gap ∷ ImageStored ∷ Md5 ∷ Sha1 ∷ Sha256 ∷ Sha512 ∷ BlockMap ∷ []) facts d1 d2 _ total (rows.only_image info d1) (rw (is_urn_true i h.image) refl)
    (step StreamSize (ChunkSize ∷ ChunksInSegment ∷ Method ∷ StreamStored ∷ ImageSize ∷ Dependent ∷ Gap ∷ ImageStored ∷ Md5 ∷ Sha1 ∷ Sha256 ∷ Sha512 ∷ BlockMap ∷ []) facts d2 d3 _ total (rows.only_stream_size info d2 refl two) (rw (sized info.stream_size h.stream_fits, fits_size info.stream_size h.stream_fits) refl)
    (step ChunkSize (ChunksInSegment ∷ Method ∷ StreamStored ∷ ImageSize ∷ Dependent ∷ Gap ∷ ImageStored ∷ Md5 ∷ Sha1 ∷ Sha256 ∷ Sha512 ∷ BlockMap ∷ []) facts d3 d3 _ total (rows.only_chunk_size info d3 refl) (rw (sized chunk_size (omega arith)) refl)
    (step ChunksInSegment (Method ∷ StreamStored ∷ ImageSize ∷ Dependent ∷ Gap ∷ ImageStored ∷ Md5 ∷ Sha1 ∷ Sha256 ∷ Sha512 ∷ BlockMap ∷ []) facts d3 d3 _ total (rows.only_chunks_in_segment info d3 refl) (rw (sized chunks_in_segment (omega arith)) refl)
    (step Method (StreamStored ∷ ImageSize ∷ Dependent ∷ Gap ∷ ImageStored ∷ Md5 ∷ Sha1 ∷ Sha256 ∷ Sha512 ∷ BlockMap ∷ []) facts d3 d3 _ total (rows.only_method info d3 refl) (refl)
    (step StreamStored (ImageSize ∷ Dependent ∷ Gap ∷ ImageStored ∷ Md5 ∷ Sha1 ∷ Sha256 ∷ Sha512 ∷ BlockMap ∷ []) facts d3 d4 _ total (rows.only_stream_stored info d3 refl two) (rw (is_urn_true info.volume h.volume) refl)
    (step ImageSize (Dependent ∷ Gap ∷ ImageStored ∷ Md5 ∷ Sha1 ∷ Sha256 ∷ Sha512 ∷ BlockMap ∷ []) facts d4 d5 _ total (rows.only_image_size info d4 refl other) (rw (sized info.image_size h.image_fits, fits_size info.image_size h.image_fits) refl)
    (step Dependent (Gap ∷ ImageStored ∷ Md5 ∷ Sha1 ∷ Sha256 ∷ Sha512 ∷ BlockMap ∷ []) facts d5 d5 _ total (rows.only_dependent info d5 refl) (rw (rows.equal s) refl)
    (step Gap (ImageStored ∷ Md5 ∷ Sha1 ∷ Sha256 ∷ Sha512 ∷ BlockMap ∷ []) facts d5 d6 _ total (rows.only_gap info d5 refl) (ap (λ g. known (record d5 { gap = g })) (sym h.gap))
    (step ImageStored (Md5 ∷ Sha1 ∷ Sha256 ∷ Sha512 ∷ BlockMap ∷ []) facts d6 d6 _ total (rows.only_image_stored info d6 refl other) (rw (rows.equal info.volume) refl)
    (step Md5 (Sha1 ∷ Sha256 ∷ Sha512 ∷ BlockMap ∷ []) facts d6 d7 _ total (rows.only_md5 info d6 refl) (rw (digested 16 info.linear.md5 h.md5) refl)
    (step Sha1 (Sha256 ∷ Sha512 ∷ BlockMap ∷ []) facts d7 d8 _ total (rows.only_sha1 info d7 refl) (rw (digested 20 info.linear.sha1 h.sha1) refl)
    (step Sha256 (Sha512 ∷ BlockMap ∷ []) facts d8 d9 _ total (rows.only_sha256 info d8 refl) (rw (digested 32 info.linear.sha256 h.sha256) refl)
    (step Sha512 (BlockMap ∷ []) facts d9 d10 _ total (rows.only_sha512 info d9 refl) (rw (digested 64 info.linear.sha512 h.sha512) refl)
    (step BlockMap ([]) facts d10 (last info) _ total (rows.only_block_map info d10 refl) (rw (digested 64 info.block_map h.block_map) refl)
    refl)))))))))))))))

two_places : (info : Info) (d : PartialInfo) → CanBeStated info → d.stream ≡ Some info.stream → d.image ≡ Some info.image → firsts names (facts_of info) d
    ≡ Some 0 ∷ Some 6 ∷ Some 1 ∷ Some 2 ∷ Some 3 ∷ Some 4 ∷ Some 5 ∷ Some 7 ∷ Some 8 ∷ Some 9 ∷ Some 10 ∷ Some 11 ∷ Some 12 ∷ Some 13 ∷ Some 14 ∷ Some 15 ∷ []
two_places info d h s i =
    let other = rows.apart info.image info.stream (λ e. h.two (sym e)) in
    rw (
      rows.first_stream info d,
      rows.first_image info d,
      rows.first_stream_size info d s,
      rows.first_chunk_size info d s,
      rows.first_chunks_in_segment info d s,
      rows.first_method info d s,
      rows.first_stream_stored info d s,
      rows.first_image_size info d i other,
      rows.first_dependent info d i,
      rows.first_gap info d i,
      rows.first_image_stored info d i other,
      rows.first_md5 info d i,
      rows.first_sha1 info d i,
      rows.first_sha256 info d i,
      rows.first_sha512 info d i,
      rows.first_block_map info d i,
    ) refl

none_left : (info : Info) → CanBeStated info → aside (facts_of info) (last info) ≡ []
unfolding aside
none_left info h = ap (λ fs. others fs 0 16) (two_places info (last info) h refl refl)

pub reads_back : (info : Info) → CanBeStated info → IsInfo (facts_of info) (record { info = info; aside = [] })
reads_back info h = record { draft = last info; read = all_read info h; whole = refl; rest = sym (none_left info h) }
