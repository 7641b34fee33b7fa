-- What a finished volume says of itself can be stated, and written.
use Rattle.std.proofs.Common.{◌≡◌, ℕ, zero, suc, ◌+◌, ◌*◌, ◌<◌, ◌≤◌, ◌==◌, ◌^◌, Bool, true, false, ◌&&◌, cond, inl, inr, List, [], ◌∷◌, ◌++◌, length, append-nil, codes, refl, sym, ap, subst, ◌∙◌, arith}
use Rattle.std.specs.Prelude.{◌||◌, ◌⊎◌, not, nat_lt, slice_index}
use Rattle.std.specs.Fmt.{decimal}
use Rattle.std.specs.List.{AllByRecursion, list_all, list_any, prefix_len}
use Rattle.std.specs.Str.{IsAscii, IsUtf8, chars}
use Rattle.std.proofs.lemmas.Bool.{and_parts}
use Rattle.std.proofs.lemmas.Fmt.{IsAscii-decimal}
use Rattle.std.proofs.lemmas.List.Folds.{list_all-append}
use Rattle.std.proofs.lemmas.Str.{IsUtf8-from_ascii, chars-IsAscii}
use Rattle.hex.specs.Hex.{encode_lower, lower_digits}
use Rattle.hex.proofs.HexLemmas.{IsAscii-encode_with}
use Rattle.aff_model.specs.declared.limits.TheConstants.{CHUNK, MAX_SIZE}
use Rattle.aff_names.specs.Urn.{IsUrn}
use Rattle.aff_spec.specs.Names.{volume_urn, stream_urn, image_urn}
use Rattle.aff_spec.specs.Words.{is_uuid, uuid_from, fits_uuid, is_dash_place, is_hex}
use Rattle.aff_turtle.specs.Characters.{is_control, is_digit, is_in, is_iri, is_letter}
use Rattle.aff_turtle.specs.Codes as code
use Rattle.aff_turtle.specs.Tokens.{is_absolute}
use Rattle.aff_turtle.specs.Triples.{Term, Resource, Literal}
use Rattle.aff_turtle.specs.Written.{AreFacts, IsFact, IsIri, IsTerm}
use Rattle.aff_turtle.specs.declared.class.Class.TheVariants as class
use Rattle.aff_info.specs.Laws.{CanBeStated}
use Rattle.aff_info.specs.Schema.{image_stream, image_map, null_compressor, unknown_data, md5_type, sha1_type, sha256_type, sha512_type, xsd_int, xsd_long, chunk_size, chunks_in_segment}
use Rattle.aff_info.specs.Writing.{facts_of}
use Rattle.aff_finish.specs.Information.{info_of}
use Rattle.aff_finish.specs.declared.hashes.Hashes.{Hashes}

-- a character below 128 that an IRI may have, and that is not the backslash
good : ℕ → Bool
good c = nat_lt c 128 && is_iri c && not (c == code.backslash)

-- the text begins as an IRI does
begins : List ℕ → Bool
begins text = is_letter (slice_index text 0) && slice_index text (prefix_len (is_in class.Scheme) text) == code.colon

good_parts : (c : ℕ) → good c ≡ true → (c < 128) × (is_iri c ≡ true) × ((c == code.backslash) ≡ false)
unfolding good
good_parts c h =
    let k = and_parts (nat_lt c 128 && is_iri c) (not (c == code.backslash)) h in
    let l = and_parts (nat_lt c 128) (is_iri c) k.0 in
    (grind (arith, l.0), l.1, not_true (c == code.backslash) k.1)
  where
    not_true : (b : Bool) → not b ≡ true → b ≡ false
    not_true false e = refl
    not_true true e = absurd cc

ascii : (text : List ℕ) → list_all good text ≡ true → IsAscii text
ascii [] h i = omega arith
ascii (c ∷ text) h zero = (good_parts c (and_parts (good c) (list_all good text) h).0).0
ascii (c ∷ text) h (suc i) = ascii text (and_parts (good c) (list_all good text) h).1 i

allowed : (text : List ℕ) → list_all good text ≡ true → prefix_len (is_in class.Iri) text ≡ length text
allowed [] h = refl
allowed (c ∷ text) h =
    let k = and_parts (good c) (list_all good text) h in
    let step : prefix_len (is_in class.Iri) (c ∷ text) ≡ 1 + prefix_len (is_in class.Iri) text = ap (λ t. cond t (1 + prefix_len (is_in class.Iri) text) 0) (good_parts c k.0).1 in
    let rest = allowed text k.1 in
    let one : 1 + prefix_len (is_in class.Iri) text ≡ suc (length text) = omega (arith, rest) in
    step ∙ one

no_backslash : (text : List ℕ) → list_all good text ≡ true → list_any (λ c. c == code.backslash) text ≡ false
no_backslash [] h = refl
no_backslash (c ∷ text) h =
    let k = and_parts (good c) (list_all good text) h in
    ap (λ t. t || list_any (λ d. d == code.backslash) text) (good_parts c k.0).2 ∙ no_backslash text k.1

absolute : (text : List ℕ) → list_all good text ≡ true → begins text ≡ true → is_absolute text ≡ true
unfolding is_absolute begins
absolute text h b = ap (λ t. t && not (list_any (λ c. c == code.backslash) text)) b ∙ ap not (no_backslash text h)

iri : (text : List ℕ) → list_all good text ≡ true → begins text ≡ true → IsIri text
iri text h b =
    let same : chars text ≡ text = chars-IsAscii text (ascii text h) in
    record {
      text = IsUtf8-from_ascii text (ascii text h);
      allowed = subst (λ v. prefix_len (is_in class.Iri) v ≡ length v) (sym same) (allowed text h);
      absolute = subst (λ v. is_absolute v ≡ true) (sym same) (absolute text h b);
    }

-- a test that all numbers below another pass
all_below : (ℕ → Bool) → ℕ → Bool
all_below p zero = true
all_below p (suc n) = p n && all_below p n

below : (p : ℕ → Bool) (n b : ℕ) → all_below p n ≡ true → b < n → p b ≡ true
unfolding all_below
below p zero b h low = absurd (omega (arith, low))
below p (suc n) b h low =
    let k = and_parts (p n) (all_below p n) h in
    elim (last b n low) [ inl e ↦ subst (λ v. p v ≡ true) (sym e) k.0 | inr less ↦ below p n b k.1 less ]
  where
    last : (b n : ℕ) → b < suc n → (b ≡ n) ⊎ (b < n)
    last b n low = grind (arith, low)

-- a uuid has such characters
fits_good : ℕ → Bool
fits_good b = not (b == 45 || is_hex b) || good b

all_fit : all_below fits_good 128 ≡ true
unfolding all_below fits_good good is_iri is_control
all_fit = refl

or_true : (b : Bool) → (b || true) ≡ true
or_true true = refl
or_true false = refl

dash_good : (b : ℕ) → (b == 45) ≡ true → good b ≡ true
unfolding fits_good
dash_good b e = sym (ap (λ t. not (t || is_hex b) || good b) e) ∙ below fits_good 128 b all_fit (grind (arith, e))

hex_good : (b : ℕ) → is_hex b ≡ true → good b ≡ true
unfolding fits_good
hex_good b e =
    sym (ap (λ t. not (b == 45 || t) || good b) e ∙ ap (λ t. not t || good b) (or_true (b == 45)))
    ∙ below fits_good 128 b all_fit (grind (arith, e))

uuid_byte : (k b : ℕ) → fits_uuid k b ≡ true → good b ≡ true
uuid_byte k b fits =
    elim (is_dash_place k) as (λ t. cond t (b == 45) (is_hex b) ≡ true → good b ≡ true) [
      | true ↦ λ e. dash_good b e
      | false ↦ λ e. hex_good b e
    ] fits

uuid_good : (k : ℕ) (bytes : List ℕ) → uuid_from k bytes ≡ true → list_all good bytes ≡ true
uuid_good k [] h = refl
uuid_good k (b ∷ bytes) h =
    let parts = and_parts (fits_uuid k b) (uuid_from (k + 1) bytes) h in
    ap (λ t. t && list_all good bytes) (uuid_byte k b parts.0) ∙ uuid_good (k + 1) bytes parts.1

module _ (uuid : List ℕ) (ok : is_uuid uuid ≡ true) where
  urn : (path : List ℕ) → list_all good path ≡ true → IsIri (codes "aff4://" ++ (uuid ++ path))
  unfolding good is_iri is_control begins is_letter is_digit
  urn path h =
      iri (codes "aff4://" ++ (uuid ++ path))
      (list_all-append good uuid path ∙ ap (λ t. t && list_all good path) (uuid_good 0 uuid ok) ∙ h)
      refl

  volume : IsIri (volume_urn uuid)
  volume = subst (λ v. IsIri (codes "aff4://" ++ v)) (append-nil uuid) (urn [] refl)

  stream : IsIri (stream_urn uuid)
  unfolding good is_iri is_control
  stream = urn (codes "/data") refl

  image : IsIri (image_urn uuid)
  unfolding good is_iri is_control
  image = urn (codes "/image") refl

-- the IRIs that are the same in each volume
rdf_type_iri : IsIri (codes "http://www.w3.org/1999/02/22-rdf-syntax-ns#type")
unfolding good is_iri is_control begins is_letter is_digit
rdf_type_iri = iri (codes "http://www.w3.org/1999/02/22-rdf-syntax-ns#type") refl refl

size_iri : IsIri (codes "http://aff4.org/Schema#size")
unfolding good is_iri is_control begins is_letter is_digit
size_iri = iri (codes "http://aff4.org/Schema#size") refl refl

chunk_size_iri : IsIri (codes "http://aff4.org/Schema#chunkSize")
unfolding good is_iri is_control begins is_letter is_digit
chunk_size_iri = iri (codes "http://aff4.org/Schema#chunkSize") refl refl

chunks_in_segment_iri : IsIri (codes "http://aff4.org/Schema#chunksInSegment")
unfolding good is_iri is_control begins is_letter is_digit
chunks_in_segment_iri = iri (codes "http://aff4.org/Schema#chunksInSegment") refl refl

method_iri : IsIri (codes "http://aff4.org/Schema#compressionMethod")
unfolding good is_iri is_control begins is_letter is_digit
method_iri = iri (codes "http://aff4.org/Schema#compressionMethod") refl refl

stored_iri : IsIri (codes "http://aff4.org/Schema#stored")
unfolding good is_iri is_control begins is_letter is_digit
stored_iri = iri (codes "http://aff4.org/Schema#stored") refl refl

dependent_iri : IsIri (codes "http://aff4.org/Schema#dependentStream")
unfolding good is_iri is_control begins is_letter is_digit
dependent_iri = iri (codes "http://aff4.org/Schema#dependentStream") refl refl

gap_iri : IsIri (codes "http://aff4.org/Schema#mapGapDefaultStream")
unfolding good is_iri is_control begins is_letter is_digit
gap_iri = iri (codes "http://aff4.org/Schema#mapGapDefaultStream") refl refl

hash_iri : IsIri (codes "http://aff4.org/Schema#hash")
unfolding good is_iri is_control begins is_letter is_digit
hash_iri = iri (codes "http://aff4.org/Schema#hash") refl refl

block_map_iri : IsIri (codes "urn:aff4-live:blockMapHash")
unfolding good is_iri is_control begins is_letter is_digit
block_map_iri = iri (codes "urn:aff4-live:blockMapHash") refl refl

image_stream_iri : IsIri image_stream
unfolding good is_iri is_control begins is_letter is_digit
image_stream_iri = iri image_stream refl refl

image_map_iri : IsIri image_map
unfolding good is_iri is_control begins is_letter is_digit
image_map_iri = iri image_map refl refl

null_compressor_iri : IsIri null_compressor
unfolding good is_iri is_control begins is_letter is_digit
null_compressor_iri = iri null_compressor refl refl

unknown_data_iri : IsIri unknown_data
unfolding good is_iri is_control begins is_letter is_digit
unknown_data_iri = iri unknown_data refl refl

md5_type_iri : IsIri md5_type
unfolding good is_iri is_control begins is_letter is_digit
md5_type_iri = iri md5_type refl refl

sha1_type_iri : IsIri sha1_type
unfolding good is_iri is_control begins is_letter is_digit
sha1_type_iri = iri sha1_type refl refl

sha256_type_iri : IsIri sha256_type
unfolding good is_iri is_control begins is_letter is_digit
sha256_type_iri = iri sha256_type refl refl

sha512_type_iri : IsIri sha512_type
unfolding good is_iri is_control begins is_letter is_digit
sha512_type_iri = iri sha512_type refl refl

xsd_int_iri : IsIri xsd_int
unfolding good is_iri is_control begins is_letter is_digit
xsd_int_iri = iri xsd_int refl refl

xsd_long_iri : IsIri xsd_long
unfolding good is_iri is_control begins is_letter is_digit
xsd_long_iri = iri xsd_long refl refl

-- statements of an IRI, of a number and of a digest
resource : (subject predicate object : List ℕ) → IsIri subject → IsIri predicate → IsIri object → IsFact (record { subject = subject; predicate = predicate; object = Resource object })
resource subject predicate object a b c = record { subject = a; predicate = b; object = c }

number : (subject predicate datatype : List ℕ) (n : ℕ) → n < 2 ^ 64 → IsIri subject → IsIri predicate → IsIri datatype
    → IsFact (record { subject = subject; predicate = predicate; object = Literal (decimal n) datatype [] })
number subject predicate datatype n low a b c = record { subject = a; predicate = b; object = (IsUtf8-from_ascii (decimal n) (IsAscii-decimal n low), c) }

digits_ascii : IsAscii lower_digits
unfolding good is_iri is_control
digits_ascii = ascii lower_digits refl

digest : (subject predicate datatype bytes : List ℕ) → IsIri subject → IsIri predicate → IsIri datatype
    → IsFact (record { subject = subject; predicate = predicate; object = Literal (encode_lower bytes) datatype [] })
digest subject predicate datatype bytes a b c =
    record { subject = a; predicate = b; object = (IsUtf8-from_ascii (encode_lower bytes) (IsAscii-encode_with lower_digits bytes digits_ascii), c) }

-- all that a volume says can be written
pub can_be_written : (uuid : List ℕ) (size n : ℕ) (h : Hashes) → is_uuid uuid ≡ true → size ≤ MAX_SIZE → CHUNK * n ≤ MAX_SIZE → AreFacts (facts_of (info_of uuid size n h))
can_be_written uuid size n h ok small few =
    let v = volume uuid ok in
    let s = stream uuid ok in
    let i = image uuid ok in (
      resource _ _ _ s rdf_type_iri image_stream_iri,
      (
        number _ _ _ (CHUNK * n) (omega (arith, few)) s size_iri xsd_long_iri,
        (
          number _ _ _ chunk_size (omega arith) s chunk_size_iri xsd_int_iri,
          (
            number _ _ _ chunks_in_segment (omega arith) s chunks_in_segment_iri xsd_int_iri,
            (
              resource _ _ _ s method_iri null_compressor_iri,
              (
                resource _ _ _ s stored_iri v,
                (
                  resource _ _ _ i rdf_type_iri image_map_iri,
                  (
                    number _ _ _ size (omega (arith, small)) i size_iri xsd_long_iri,
                    (
                      resource _ _ _ i dependent_iri s,
                      (
                        resource _ _ _ i gap_iri unknown_data_iri,
                        (
                          resource _ _ _ i stored_iri v,
                          (
                            digest _ _ _ h.linear.md5 i hash_iri md5_type_iri,
                            (
                              digest _ _ _ h.linear.sha1 i hash_iri sha1_type_iri,
                              (
                                digest _ _ _ h.linear.sha256 i hash_iri sha256_type_iri,
                                (
                                  digest _ _ _ h.linear.sha512 i hash_iri sha512_type_iri,
                                  (
                                    digest _ _ _ h.block_map i block_map_iri sha512_type_iri,
                                    tt,
                                  ),
                                ),
                              ),
                            ),
                          ),
                        ),
                      ),
                    ),
                  ),
                ),
              ),
            ),
          ),
        ),
      ),
    )
