-- Metadata that are cut off name no volume, but for their last line feed.
use Rattle.std.proofs.Common.{◌≡◌, ℕ, zero, suc, ◌/◌, ◌%◌, ◌<◌, ◌≤◌, ◌^◌, ◌⊎◌, true, false, List, [], ◌∷◌, ◌++◌, length, get_or, take, refl, sym, ap, subst, ◌∙◌, arith, inl, inr}
use Rattle.std.specs.Prelude.{filter, Result, Ok, Err}
use Rattle.std.specs.Fmt.{decimal}
use Rattle.std.specs.List.{AllByRecursion, flat_map}
use Rattle.std.specs.Str.{bytes_eq, chars, encode_utf8_all, IsAscii, IsUtf8}
use Rattle.std.specs.Str.Parse.{AllDigits}
use Rattle.std.proofs.Math.Utf8.{encode, scalars}
use Rattle.std.proofs.lemmas.Bool.{and_parts}
use Rattle.std.proofs.lemmas.Bool.Decides.{nat_tests}
use Rattle.std.proofs.lemmas.Fmt.{IsAscii-decimal, decimal_is_IsNumeral}
use Rattle.std.proofs.lemmas.List.{append_cancel_left, append_cancel_right, take-append-le}
use Rattle.std.proofs.lemmas.Str.{chars-IsAscii, chars-append, chars-encodes, chars_from_encodes, encodes-append, encodes-chars}
use Rattle.std.proofs.lemmas.Str.Parse.{digit_from_value}
use Rattle.hex.specs.Hex.{encode_lower, encode_with, lower_digits}
use Rattle.hex.proofs.HexLemmas.{IsAscii-encode_with}
use Rattle.aff_turtle.specs.Codes as code
use Rattle.aff_turtle.specs.Machine.{Statement, Gives, triples}
use Rattle.aff_turtle.specs.Reading.{IsTurtle}
use Rattle.aff_turtle.specs.Tokens.{tokens}
use Rattle.aff_turtle.specs.Triples.{Fact}
use Rattle.aff_turtle.specs.Written.{AreFacts, line, written}
use Rattle.aff_turtle.proofs.Again.{read_again}
use Rattle.aff_turtle.proofs.Readings.{given, gives}
use Rattle.aff_turtle.proofs.Statements.{reads_text}
use Rattle.aff_info.specs.Faults.{InfoFault, and_then}
use Rattle.aff_info.specs.Found.{Found}
use Rattle.aff_info.specs.Reading.{IsInfo, nothing, runs, stated}
use Rattle.aff_info.specs.Schema.{chunk_size, chunks_in_segment, md5_type, sha1_type, sha256_type, sha512_type}
use Rattle.aff_info.specs.Statements.{one_of}
use Rattle.aff_info.specs.Table.{fits, predicate_of}
use Rattle.aff_info.specs.Writing.{facts_of, image_facts, plain, row, stream_facts}
use Rattle.aff_info.specs.declared.draft.PartialInfo.{PartialInfo}
use Rattle.aff_info.specs.declared.info.Info.{Info}
use Rattle.aff_info.specs.declared.name.InfoName.{InfoName}
use Rattle.aff_info.specs.declared.name.InfoName.TheVariants.{Stream, StreamSize, ChunkSize, ChunksInSegment, Method, StreamStored, Image, ImageSize, Dependent, Gap, ImageStored, Md5, Sha1, Sha256, Sha512, BlockMap}
use Rattle.aff_finished.proofs.CutLines.{ArePlain, IsBare, IsLastFeed, IsOfFront, IsPlain, cut_lines, feedless, feedless_is, feedless_reads}

-- ---- a text that is cut off

-- the triples of some first lines, and not of all
pub record AreFew (ts facts : List Fact) : Type 0 where
  pub count : ℕ
  pub few : count < length ts
  pub are : facts ≡ take count ts

some_gives : (facts us : List Fact) → Gives facts ≡ Gives us → facts ≡ us
some_gives facts us e = cc

module _ (ts : List Fact) (h : AreFacts ts) (bare : AllByRecursion (λ t. IsBare t.object) ts) where
  whole_text : IsTurtle (written ts) ts
  whole_text = given (written ts) ts (read_again ts h)

  encodes_lines : written ts ≡ encode_utf8_all (flat_map line ts)
  unfolding written
  encodes_lines = refl

  lines_are : flat_map line ts ≡ chars (written ts)
  lines_are = chars_from_encodes (flat_map line ts) (written ts) whole_text.text (sym encodes_lines)

  -- bytes that lack are those of the characters that lack
  lacking : (cut more : List ℕ) → IsUtf8 cut → cut ++ more ≡ written ts → chars cut ++ chars more ≡ flat_map line ts → more ≡ encode_utf8_all (chars more)
  lacking cut more text e parts =
      append_cancel_left cut more (encode_utf8_all (chars more))
      (e ∙ encodes_lines ∙ ap encode_utf8_all (sym parts) ∙ encodes-append (chars cut) (chars more) ∙ ap (λ v. v ++ encode_utf8_all (chars more)) (encodes-chars cut text))

  last_feed : (more : List ℕ) → more ≡ encode_utf8_all (chars more) → IsLastFeed (chars more) → IsLastFeed more
  unfolding encode
  last_feed more e (inl none) = inl (e ∙ ap encode_utf8_all none)
  last_feed more e (inr feed) = inr (e ∙ ap encode_utf8_all feed)

  -- what is left says few of the triples, or all where it lacks the last line feed at most
  pub cut_text : (cut more : List ℕ) (facts : List Fact) → cut ++ more ≡ written ts → IsTurtle cut facts → AreFew ts facts ⊎ (IsLastFeed more × (facts ≡ ts))
  cut_text cut more facts e is =
      let parts : chars cut ++ chars more ≡ flat_map line ts = sym (chars-append cut more is.text) ∙ ap chars e ∙ sym lines_are in
      let says : triples [] Statement (tokens 1 0 (chars cut)) ≡ Gives facts = sym (reads_text cut is.text) ∙ gives cut facts is in
      by_front facts (subst (IsOfFront ts (chars more)) says (cut_lines ts 1 (chars cut) (chars more) h bare parts)) (lacking cut more is.text e parts)
    where
      by_front : (facts : List Fact) → IsOfFront ts (chars more) (Gives facts) → more ≡ encode_utf8_all (chars more) → AreFew ts facts ⊎ (IsLastFeed more × (facts ≡ ts))
      by_front facts (inl none) bytes = absurd none
      by_front facts (inr (inl few)) bytes = inl (record { count = few.count; few = few.few; are = some_gives facts (take few.count ts) few.gives })
      by_front facts (inr (inr all)) bytes = inr (last_feed more bytes all.0, some_gives facts ts all.1)

-- ---- a text without its last line feed

one_feed : encode_utf8_all (code.line_feed ∷ []) ≡ 10 ∷ []
unfolding encode
one_feed = refl

scalars_front : (xs ys : List ℕ) → scalars (xs ++ ys) ≡ true → scalars xs ≡ true
scalars_front [] ys h = refl
scalars_front (x ∷ xs) ys h = let two = and_parts _ (scalars (xs ++ ys)) h in rw (two.0, scalars_front xs ys two.1) refl

-- says all its triples
pub without_feed : (t : Fact) (ts : List Fact) → AreFacts (t ∷ ts) → AllByRecursion (λ t. IsBare t.object) (t ∷ ts) → (text : List ℕ) → text ++ 10 ∷ [] ≡ written (t ∷ ts) → IsTurtle text (t ∷ ts)
without_feed t ts h bare text e =
    let cs = feedless (t ∷ ts) in
    let bytes : written (t ∷ ts) ≡ encode_utf8_all cs ++ 10 ∷ [] =
    encodes_lines (t ∷ ts) h bare ∙ ap encode_utf8_all (feedless_is t ts) ∙ encodes-append cs (code.line_feed ∷ []) ∙ ap (λ v. encode_utf8_all cs ++ v) one_feed in
    let text_is : text ≡ encode_utf8_all cs = append_cancel_right text (encode_utf8_all cs) (10 ∷ []) (e ∙ bytes) in
    let utf8 = (whole_text (t ∷ ts) h bare).text in
    let lines : utf8.0 ≡ cs ++ code.line_feed ∷ [] = chars_from_encodes utf8.0 (written (t ∷ ts)) utf8 utf8.1.1 ∙ sym (lines_are (t ∷ ts) h bare) ∙ feedless_is t ts in
    let all : scalars cs ≡ true = scalars_front cs (code.line_feed ∷ []) (subst (λ v. scalars v ≡ true) lines utf8.1.0) in
    let chars_is : chars text ≡ cs = ap chars text_is ∙ chars-encodes cs all in
    given text (t ∷ ts) (reads_text text (cs, (all, sym text_is)) ∙ ap (λ v. triples [] Statement (tokens 1 0 v)) chars_is ∙ feedless_reads t ts 1 h bare)

-- ---- metadata without their last statement

abbrev before_last : List InfoName
before_last = Stream ∷ Image ∷ StreamSize ∷ ChunkSize ∷ ChunksInSegment ∷ Method ∷ StreamStored ∷ ImageSize ∷ Dependent ∷ Gap ∷ ImageStored ∷ Md5 ∷ Sha1 ∷ Sha256 ∷ Sha512 ∷ []

split : {A : Type 0} (o : Result A InfoFault) (f : A → Result PartialInfo InfoFault) (new : PartialInfo) → and_then o f ≡ Ok new → (x : A) × (f x ≡ Ok new)
split (Ok x) f new h = (x, h)
split (Err e) f new h = absurd cc

last_stated : (ns : List InfoName) (n : InfoName) (facts : List Fact) (d new : PartialInfo) → runs (ns ++ n ∷ []) facts d ≡ Ok new
    → (mid : PartialInfo) × (and_then (stated n (one_of (filter (fits n mid) facts)) mid) (runs [] facts) ≡ Ok new)
unfolding runs
last_stated [] n facts d new h = (d, h)
last_stated (m ∷ ns) n facts d new h =
    let k = split (stated m (one_of (filter (fits m d) facts)) d) (runs (ns ++ n ∷ []) facts) new h in
    last_stated ns n facts k.0 new k.1

-- no statement has the predicate of the block map hash
abbrev AreOthers : List Fact → Type 0
AreOthers facts = AllByRecursion (λ t. bytes_eq t.predicate (predicate_of BlockMap) ≡ false) facts

none_fit : (facts : List Fact) (d : PartialInfo) → AreOthers facts → filter (fits BlockMap d) facts ≡ []
unfolding fits
none_fit [] d h = refl
none_fit (t ∷ facts) d h = let rest = none_fit facts d h.1 in rw (h.0, rest) refl

no_info : (facts : List Fact) (found : Found) → AreOthers facts → IsInfo facts found → ⊥
no_info facts found others is =
    let k = last_stated before_last BlockMap facts nothing is.draft is.read in
    let none : and_then (stated BlockMap (one_of []) k.0) (runs [] facts) ≡ Ok is.draft = ap (λ ts. and_then (stated BlockMap (one_of ts) k.0) (runs [] facts)) (sym (none_fit facts k.0 others)) ∙ k.1 in
    absurd cc

few_of : (k : ℕ) (facts : List Fact) → AreOthers facts → AreOthers (take k facts)
few_of zero facts h = tt
few_of (suc k) [] h = tt
few_of (suc k) (t ∷ facts) h = (h.0, few_of k facts h.1)

module _ (info : Info) where
  first_facts : List Fact
  first_facts = stream_facts info ++ (image_facts info ++ (
      row info.image Md5 (plain (encode_lower info.linear.md5) md5_type)
      ∷ row info.image Sha1 (plain (encode_lower info.linear.sha1) sha1_type)
      ∷ row info.image Sha256 (plain (encode_lower info.linear.sha256) sha256_type)
      ∷ row info.image Sha512 (plain (encode_lower info.linear.sha512) sha512_type)
      ∷ []))

  in_order : facts_of info ≡ first_facts ++ row info.image BlockMap (plain (encode_lower info.block_map) sha512_type) ∷ []
  unfolding first_facts
  in_order = refl

  are_others : AreOthers first_facts
  unfolding first_facts
  are_others = (refl, (refl, (refl, (refl, (refl, (refl, (refl, (refl, (refl, (refl, (refl, (refl, (refl, (refl, (refl, tt)))))))))))))))

  fifteen : length first_facts ≡ 15
  unfolding first_facts
  fifteen = refl

  pub few_are_none : (facts : List Fact) (found : Found) → AreFew (facts_of info) facts → IsInfo facts found → ⊥
  few_are_none facts found few is =
      let low : few.count ≤ length first_facts = omega (arith, few.few, fifteen) in
      let same : facts ≡ take few.count first_facts = few.are ∙ ap (take few.count) in_order ∙ take-append-le few.count first_facts (row info.image BlockMap (plain (encode_lower info.block_map) sha512_type) ∷ []) low in
      no_info facts found (subst AreOthers (sym same) (few_of few.count first_facts are_others)) is

-- ---- what is written of numbers and digests is plain

plain_digit : (c : ℕ) → 48 ≤ c → c ≤ 57 → IsPlain c
plain_digit c low high = record { quote = grind (arith, nat_tests, low, high); backslash = grind (arith, nat_tests, low, high); feed = grind (arith, nat_tests, low, high); carriage = grind (arith, nat_tests, low, high); tab = grind (arith, nat_tests, low, high) }

plain_digits : (ds : List ℕ) → AllDigits 10 ds → ArePlain ds
plain_digits [] h = tt
plain_digits (c ∷ ds) h = let r = digit_from_value c h.0 in (plain_digit c (omega (arith, r)) (omega (arith, r)), plain_digits ds h.1)

pub plain_decimal : (n : ℕ) → n < 2 ^ 64 → ArePlain (chars (decimal n))
plain_decimal n low = subst ArePlain (sym (chars-IsAscii (decimal n) (IsAscii-decimal n low))) (plain_digits (decimal n) (decimal_is_IsNumeral n low).0.1)

same_char : (c : ℕ) → IsPlain 0
same_char c = record { quote = refl; backslash = refl; feed = refl; carriage = refl; tab = refl }

at_place : (ds : List ℕ) (k : ℕ) → ArePlain ds → IsPlain (get_or ds k 0)
at_place [] k h = same_char 0
at_place (d ∷ ds) zero h = h.0
at_place (d ∷ ds) (suc k) h = at_place ds k h.1

plain_pairs : (t xs : List ℕ) → ArePlain t → ArePlain (encode_with t xs)
unfolding encode_with
plain_pairs t [] h = tt
plain_pairs t (b ∷ xs) h = (at_place t (b / 16) h, (at_place t (b % 16) h, plain_pairs t xs h))

digits_plain : ArePlain lower_digits
digits_plain =
    let d : (c : ℕ) → 48 ≤ c → c ≤ 57 → IsPlain c = plain_digit in
    let l : (c : ℕ) → 97 ≤ c → c ≤ 122 → IsPlain c = plain_letter in (
      d _ (omega arith) (omega arith),
      (
        d _ (omega arith) (omega arith),
        (
          d _ (omega arith) (omega arith),
          (
            d _ (omega arith) (omega arith),
            (
              d _ (omega arith) (omega arith),
              (
                d _ (omega arith) (omega arith),
                (
                  d _ (omega arith) (omega arith),
                  (
                    d _ (omega arith) (omega arith),
                    (
                      d _ (omega arith) (omega arith),
                      (
                        d _ (omega arith) (omega arith),
                        (
                          l _ (omega arith) (omega arith),
                          (
                            l _ (omega arith) (omega arith),
                            (
                              l _ (omega arith) (omega arith),
                              (
                                l _ (omega arith) (omega arith),
                                (
                                  l _ (omega arith) (omega arith),
                                  (l _ (omega arith) (omega arith), tt),
                                ),
                              ),
                            ),
                          ),
                        ),
                      ),
                    ),
                  ),
                ),
              ),
            ),
          ),
        ),
      ),
    )
  where
    plain_letter : (c : ℕ) → 97 ≤ c → c ≤ 122 → IsPlain c
    plain_letter c low high = record { quote = grind (arith, nat_tests, low, high); backslash = grind (arith, nat_tests, low, high); feed = grind (arith, nat_tests, low, high); carriage = grind (arith, nat_tests, low, high); tab = grind (arith, nat_tests, low, high) }

digits_ascii : IsAscii lower_digits
digits_ascii = ascii lower_digits (digits_low)
  where
    ascii : (text : List ℕ) → AllByRecursion (λ c. c < 128) text → IsAscii text
    ascii [] h i = omega arith
    ascii (c ∷ text) h zero = h.0
    ascii (c ∷ text) h (suc i) = ascii text h.1 i

    digits_low : AllByRecursion (λ c. c < 128) lower_digits
    digits_low = (omega arith, (omega arith, (omega arith, (omega arith, (omega arith, (omega arith, (omega arith, (omega arith, (omega arith, (omega arith, (omega arith, (omega arith, (omega arith, (omega arith, (omega arith, (omega arith, tt))))))))))))))))

pub plain_hex : (bytes : List ℕ) → ArePlain (chars (encode_lower bytes))
plain_hex bytes = subst ArePlain (sym (chars-IsAscii (encode_lower bytes) (IsAscii-encode_with lower_digits bytes digits_ascii))) (plain_pairs lower_digits bytes digits_plain)

-- the objects of metadata are IRIs, numbers and digests
pub bare_facts : (info : Info) → info.stream_size < 2 ^ 64 → info.image_size < 2 ^ 64 → AllByRecursion (λ t. IsBare t.object) (facts_of info)
bare_facts info stored size = (
  tt,
  (
    plain_decimal info.stream_size stored,
    (
      plain_decimal chunk_size (omega arith),
      (
        plain_decimal chunks_in_segment (omega arith),
        (
          tt,
          (
            tt,
            (
              tt,
              (
                plain_decimal info.image_size size,
                (
                  tt,
                  (
                    tt,
                    (
                      tt,
                      (plain_hex info.linear.md5, (plain_hex info.linear.sha1, (plain_hex info.linear.sha256, (plain_hex info.linear.sha512, (plain_hex info.block_map, tt))))),
                    ),
                  ),
                ),
              ),
            ),
          ),
        ),
      ),
    ),
  ),
)

-- what is left of metadata that were cut off names a volume only where all is there, but for the last line feed
pub cut_metadata : (info : Info) → AreFacts (facts_of info) → info.stream_size < 2 ^ 64 → info.image_size < 2 ^ 64 → (cut more : List ℕ) (facts : List Fact) (found : Found)
    → cut ++ more ≡ written (facts_of info) → IsTurtle cut facts → IsInfo facts found → IsLastFeed more × (facts ≡ facts_of info)
cut_metadata info are stored size cut more facts found e is stated =
    elim (cut_text (facts_of info) are (bare_facts info stored size) cut more facts e is) [
      | inl few ↦ absurd (few_are_none info facts found few stated)
      | inr all ↦ all
    ]
