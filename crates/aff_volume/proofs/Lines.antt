-- The lines of a list of targets, and what they name.
use Rattle.std.proofs.Common.{◌≡◌, ℕ, zero, suc, ◌-◌, ◌<◌, ◌≤◌, ◌==◌, List, [], ◌∷◌, ◌++◌, length, get_or, take, drop, Bool, true, false, cond, refl, sym, ap, subst, ◌∙◌, arith, All, take-append-drop, drop-cons}
use Rattle.std.specs.Prelude.{Option, Some, None, IsSome, slice_get}
use Rattle.std.specs.List.{filter_map, cons_option, onto_first}
use Rattle.std.specs.Str.{bytes_eq}
use Rattle.std.proofs.lemmas.Bool.Decides.{nat_tests}
use Rattle.std.proofs.lemmas.Slice.Eq.{bytes_eq-Decides}
use Rattle.std.proofs.lemmas.List.{drop_all}
use Rattle.std.proofs.lemmas.List.Elements.{All-head, All-tail}
use Rattle.std.proofs.lemmas.List.Splits.{length-slice_split}
use Rattle.aff_model.specs.Held.{Held}
use Rattle.aff_names.specs.Urn.{HasScheme}
use Rattle.aff_spec.specs.Names.{unknown_iri, unreadable_iri, zero_iri}
use Rattle.aff_spec.specs.Streams.{stream_byte}
use Rattle.aff_spec.specs.Symbols.{unknown_byte, unreadable_byte}
use Rattle.aff_spec.specs.Lines.{lines_of}
use Rattle.aff_spec.specs.Volumes.{Volume, target_byte}
use Rattle.aff_map.specs.declared.target.Target.{Target}
use Rattle.aff_map.specs.declared.target.Target.TheVariants.{Stored, Zero, Unknown, Unreadable}
use Rattle.aff_map.specs.Symbol.{IsSymbolic}
use Rattle.aff_map.specs.Targets.{IsNamed, target_lines, target_of, targets_of}
use Rattle.aff_volume.specs.Image.{name_of, stream_offset}

-- ---- a line feed at the end makes an empty line behind the last one

onto_first-append : (x : ℕ) (ls ms : List (List ℕ)) → 0 < length ls → onto_first x (ls ++ ms) ≡ onto_first x ls ++ ms
onto_first-append x [] ms h = absurd (omega (arith, h))
onto_first-append x (l ∷ ls) ms h = refl

lines-feed : (xs : List ℕ) → lines_of (xs ++ 10 ∷ []) ≡ lines_of xs ++ [] ∷ []
lines-feed [] = refl
lines-feed (x ∷ xs) =
    elim (x == 10) as (λ b. cond b ([] ∷ lines_of (xs ++ 10 ∷ [])) (onto_first x (lines_of (xs ++ 10 ∷ []))) ≡ cond b ([] ∷ lines_of xs) (onto_first x (lines_of xs)) ++ [] ∷ []) [
      | true ↦ ap (λ l. [] ∷ l) (lines-feed xs)
      | false ↦ ap (onto_first x) (lines-feed xs) ∙ onto_first-append x (lines_of xs) ([] ∷ []) (omega (arith, length-slice_split (λ b. b == 10) xs))
    ]

get-front : {X : Type 0} (xs ys : List X) (n : ℕ) → n < length xs → slice_get (xs ++ ys) n ≡ slice_get xs n
get-front [] ys n low = absurd (omega (arith, low))
get-front (x ∷ xs) ys zero low = refl
get-front (x ∷ xs) ys (suc n) low = get-front xs ys n (omega (arith, low))

last_feed : (b : ℕ) (text : List ℕ) → (get_or (b ∷ text) (length (b ∷ text) - 1) 0 == 10) ≡ true → b ∷ text ≡ take (length (b ∷ text) - 1) (b ∷ text) ++ 10 ∷ []
last_feed b text is =
    let n : ℕ = length (b ∷ text) - 1 in
    let low : n < length (b ∷ text) = omega arith in
    let end : drop (suc n) (b ∷ text) ≡ [] = drop_all (suc n) (b ∷ text) (omega arith) in
    let byte : get_or (b ∷ text) n 0 ≡ 10 = grind (arith, nat_tests, is) in
    sym (take-append-drop n (b ∷ text)) ∙ ap (λ l. take n (b ∷ text) ++ l) (drop-cons (b ∷ text) n 0 low ∙ (λ i. byte i ∷ end i))

-- a line by its number is the same one
line_same : (text : List ℕ) (n : ℕ) → n < length (target_lines text) → slice_get (lines_of text) n ≡ slice_get (target_lines text) n
line_same [] n low = absurd (omega (arith, low))
line_same (b ∷ text) n low = by_feed (get_or (b ∷ text) (length (b ∷ text) - 1) 0 == 10) refl low
  where
    by_feed : (f : Bool) → (get_or (b ∷ text) (length (b ∷ text) - 1) 0 == 10) ≡ f → n < length (lines_of (cond f (take (length (b ∷ text) - 1) (b ∷ text)) (b ∷ text)))
        → slice_get (lines_of (b ∷ text)) n ≡ slice_get (lines_of (cond f (take (length (b ∷ text) - 1) (b ∷ text)) (b ∷ text))) n
    by_feed true is low =
        ap (λ t. slice_get (lines_of t) n) (last_feed b text is) ∙ ap (λ ls. slice_get ls n) (lines-feed (take (length (b ∷ text) - 1) (b ∷ text)))
        ∙ get-front (lines_of (take (length (b ∷ text) - 1) (b ∷ text))) ([] ∷ []) n low
    by_feed false is low = refl

-- ---- what a line names

abbrev Names : List ℕ → List (List ℕ) → List Target → ℕ → Type 0
Names stream lines targets n = (line : List ℕ) × (slice_get lines n ≡ Some line) × (target_of stream line ≡ Some (get_or targets n Stored))

named_first : (stream l : List ℕ) (lines : List (List ℕ)) (o : Option Target) (n : ℕ) → target_of stream l ≡ o → IsSome o
    → ((m : ℕ) → m < length (filter_map (target_of stream) lines) → Names stream lines (filter_map (target_of stream) lines) m)
    → n < length (cons_option o (filter_map (target_of stream) lines)) → Names stream (l ∷ lines) (cons_option o (filter_map (target_of stream) lines)) n
named_first stream l lines None n is some rest low = absurd cc
named_first stream l lines (Some t) zero is some rest low = (l, refl, is)
named_first stream l lines (Some t) (suc n) is some rest low = rest n (omega (arith, low))

named_at : (stream : List ℕ) (lines : List (List ℕ)) (n : ℕ) → All (IsNamed stream) lines → n < length (filter_map (target_of stream) lines) → Names stream lines (filter_map (target_of stream) lines) n
named_at stream [] n all low = absurd (omega (arith, low))
named_at stream (l ∷ lines) n all low =
    named_first stream l lines (target_of stream l) n refl (All-head (IsNamed stream) l lines all) (λ m lower. named_at stream lines m (All-tail (IsNamed stream) l lines all) lower) low

longer : (stream : List ℕ) (lines : List (List ℕ)) → length (filter_map (target_of stream) lines) ≤ length lines
longer stream [] = omega arith
longer stream (l ∷ lines) = by_target (target_of stream l) (longer stream lines)
  where
    by_target : (o : Option Target) → length (filter_map (target_of stream) lines) ≤ length lines → length (cons_option o (filter_map (target_of stream) lines)) ≤ suc (length lines)
    by_target None h = omega (arith, h)
    by_target (Some t) h = omega (arith, h)

pub line_names : (stream idx : List ℕ) (n : ℕ) → All (IsNamed stream) (target_lines idx) → n < length (targets_of stream idx) → Names stream (lines_of idx) (targets_of stream idx) n
line_names stream idx n all low =
    let named = named_at stream (target_lines idx) n all low in
    (named.0, line_same idx n (omega (arith, low, longer stream (target_lines idx))) ∙ named.1, named.2)

-- ---- what a target reads as

-- a byte of a target
abbrev pub byte_of : Held → List ℕ → Target → ℕ → Option ℕ
byte_of held stream Stored offset = stream_byte held stream offset
byte_of held stream Zero offset = Some 0
byte_of held stream Unknown offset = Some (unknown_byte offset)
byte_of held stream Unreadable offset = Some (unreadable_byte offset)

-- and its offset in the stream
abbrev pub offset_of : Target → ℕ → Option ℕ
offset_of Stored offset = Some offset
offset_of Zero offset = None
offset_of Unknown offset = None
offset_of Unreadable offset = None

unknown_alone : (line : List ℕ) → bytes_eq line unknown_iri ≡ true → bytes_eq line unreadable_iri ≡ false
unknown_alone line is = let same : line ≡ unknown_iri = (bytes_eq-Decides line unknown_iri).0 is in subst (λ l. bytes_eq l unreadable_iri ≡ false) (sym same) refl

module _ (held : Held) (v : Volume) where
  line_by : (line : List ℕ) (t : Target) (offset : ℕ) (a b c d : Bool) → (c ≡ true → d ≡ false)
      → cond a (Some Stored) (cond b (Some Zero) (cond c (Some Unknown) (cond d (Some Unreadable) None))) ≡ Some t
      → cond a (stream_byte held v.stream offset) (cond b (Some 0) (cond d (Some (unreadable_byte offset)) (cond c (Some (unknown_byte offset)) None))) ≡ byte_of held v.stream t offset
  line_by line t offset true b c d one is = ap (λ o. elim_target o) is
    where
      elim_target : Option Target → Option ℕ
      elim_target None = None
      elim_target (Some t) = byte_of held v.stream t offset
  line_by line t offset false true c d one is = ap (λ o. elim_target o) is
    where
      elim_target : Option Target → Option ℕ
      elim_target None = None
      elim_target (Some t) = byte_of held v.stream t offset
  line_by line t offset false false true d one is = ap (λ e. cond e (Some (unreadable_byte offset)) (Some (unknown_byte offset))) (one refl) ∙ ap (λ o. elim_target o) is
    where
      elim_target : Option Target → Option ℕ
      elim_target None = None
      elim_target (Some t) = byte_of held v.stream t offset
  line_by line t offset false false false true one is = ap (λ o. elim_target o) is
    where
      elim_target : Option Target → Option ℕ
      elim_target None = None
      elim_target (Some t) = byte_of held v.stream t offset
  line_by line t offset false false false false one is = absurd cc

  pub line_byte : (line : List ℕ) (t : Target) (offset : ℕ) → target_of v.stream line ≡ Some t → target_byte held v line offset ≡ byte_of held v.stream t offset
  line_byte line t offset is =
      line_by line t offset (bytes_eq line v.stream) (bytes_eq line zero_iri) (bytes_eq line unknown_iri) (bytes_eq line unreadable_iri) (unknown_alone line) is

  offset_by : (t : Target) (offset : ℕ) (a b c d : Bool) → cond a (Some Stored) (cond b (Some Zero) (cond c (Some Unknown) (cond d (Some Unreadable) None))) ≡ Some t
      → cond a (Some offset) None ≡ offset_of t offset
  offset_by t offset a b c d is = by_tests a b c d is
    where
      of_option : Option Target → Option ℕ
      of_option None = None
      of_option (Some t) = offset_of t offset

      by_tests : (a b c d : Bool) → cond a (Some Stored) (cond b (Some Zero) (cond c (Some Unknown) (cond d (Some Unreadable) None))) ≡ Some t → cond a (Some offset) None ≡ offset_of t offset
      by_tests true b c d is = ap of_option is
      by_tests false true c d is = ap of_option is
      by_tests false false true d is = ap of_option is
      by_tests false false false true is = ap of_option is
      by_tests false false false false is = absurd cc

  pub line_offset : (line : List ℕ) (t : Target) (offset : ℕ) → target_of v.stream line ≡ Some t → stream_offset v line offset ≡ offset_of t offset
  line_offset line t offset is = offset_by t offset (bytes_eq line v.stream) (bytes_eq line zero_iri) (bytes_eq line unknown_iri) (bytes_eq line unreadable_iri) is

-- ---- a gap names itself

no_urn : (iri : List ℕ) (first : ℕ) (rest stream : List ℕ) → iri ≡ first ∷ rest → first ≡ 104 → HasScheme stream → bytes_eq iri stream ≡ false
no_urn iri first rest stream is http scheme = by_test (bytes_eq iri stream) refl
  where
    by_test : (b : Bool) → bytes_eq iri stream ≡ b → b ≡ false
    by_test true e =
        let same : iri ≡ stream = (bytes_eq-Decides iri stream).0 e in
        let byte : first ≡ 97 = ap (λ l. get_or l 0 0) (sym is ∙ same ∙ scheme.is) in
        absurd (omega (arith, byte, http))
    by_test false e = refl

pub gap_names : (stream : List ℕ) (gap : Target) → HasScheme stream → IsSymbolic gap → target_of stream (name_of stream gap) ≡ Some gap
gap_names stream Stored scheme is = absurd is
gap_names stream Zero scheme is = ap (λ b. cond b (Some Stored) (Some Zero)) (no_urn zero_iri 104 _ stream refl refl scheme)
gap_names stream Unknown scheme is = ap (λ b. cond b (Some Stored) (Some Unknown)) (no_urn unknown_iri 104 _ stream refl refl scheme)
gap_names stream Unreadable scheme is = ap (λ b. cond b (Some Stored) (Some Unreadable)) (no_urn unreadable_iri 104 _ stream refl refl scheme)
