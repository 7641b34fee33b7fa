-- Answers by sound pieces are answers by their publications.
use Rattle.std.proofs.Common.{◌≡◌, ℕ, ◌+◌, ◌<◌, Bool, true, false, cond, Option, None, Some, IfSome, IsTrue, List, [], ◌∷◌, length, map, take, get_or, refl, sym, ap, subst, ◌∙◌, arith, slice_get, All}
use Rattle.std.proofs.lemmas.List.{ext_get_or, length-map, take-map}
use Rattle.std.proofs.lemmas.List.FromFn.{length-map-range_with_len, get_or-map-range_with_len}
use Rattle.std.proofs.lemmas.List.Elements.{All-take}
use Rattle.aff_model.specs.declared.cell.Cell.{Cell}
use Rattle.aff_model.specs.declared.cell.Cell.TheVariants.{Byte, Unreadable}
use Rattle.aff_model.specs.declared.cell.Kind.{Kind}
use Rattle.aff_model.specs.declared.cell.Kind.TheVariants as kind
use Rattle.aff_model.specs.declared.extent.Extent.{Extent}
use Rattle.aff_model.specs.Cells.{cell_by, cell_of, is_bad_at}
use Rattle.aff_model.specs.Content.{Content}
use Rattle.aff_model.specs.History.{Part, Published, publication_of}
use Rattle.aff_model.specs.Kinds.{IsAnswer, kind_at, kind_by}
use Rattle.aff_model.specs.Plan.{Planned, has_place}
use Rattle.aff_spec.specs.Symbols.{fill_of}
use Rattle.aff_image.specs.Sound.{AreSound}
use Rattle.aff_snapshot.specs.Sound.{IsSoundIn}
use Rattle.aff_analyst.specs.Answers.{AreCells}
use Rattle.sha2.specs.Sha256.{sha256}
use Rattle.aff_script.specs.Answered.{Answered}
use Rattle.aff_script.specs.declared.answer.RunLine.{RunLine}
use Rattle.aff_script.specs.declared.script.Request.{Request}
use Rattle.aff_session.specs.Answers.{AreAnswered, AreAnswers, IsAnswered, IsSumOf, content_bytes, run_of}
use Rattle.aff_session.specs.Shown.{AreAnsweredBy, IsAnsweredBy}
use Rattle.aff_session.proofs.Growing.{answers_to}
use Rattle.aff_session.proofs.Rows.{IsLineIn, answer_lines}

-- the cell of a known place is its byte
known_by : (c : Content) (o : Option Extent) (p : Published) (i : ℕ) (others : Kind) (rest : Cell) → (others ≡ kind.Known → rest ≡ Byte (c.byte i)) → kind_by o p i others ≡ kind.Known → cell_by c o p i rest ≡ Byte (c.byte i)
known_by c None p i others rest below is = below is
known_by c (Some e) p i others rest below is = by_place (has_place i e) (is_bad_at e p i) is
  where
    by_place : (has bad : Bool) → cond has (cond bad kind.Unreadable kind.Known) others ≡ kind.Known → cond has (cond bad Unreadable (Byte (c.byte i))) rest ≡ Byte (c.byte i)
    by_place true true one = absurd (cc (one))
    by_place true false one = refl
    by_place false bad one = below one

known_cell : (c : Content) (es : List Extent) (history : List Published) (i : ℕ) → kind_at es history i ≡ kind.Known → cell_of c es history i ≡ Byte (c.byte i)
known_cell c es [] i is = absurd (cc (is))
known_cell c es (p ∷ history) i is = known_by c (slice_get es p.extent) p i (kind_at es history i) (cell_of c es history i) (known_cell c es history i) is

-- the digest of other bytes, where they are the same if they are known
sum_with : (k : Kind) (bytes other sum : List ℕ) → (k ≡ kind.Known → bytes ≡ other) → IsSumOf bytes k sum → IsSumOf other k sum
sum_with kind.Known bytes other sum same is = is ∙ ap sha256 (same refl)
sum_with kind.Unreadable bytes other sum same is = is
sum_with kind.Unknown bytes other sum same is = is

-- the bytes of a known run are the content's
told_bytes : (c : Content) (plan : Planned) {R : Type 0} (pieces : List (Part R)) (at len start n : ℕ) (bytes : List ℕ) (l : RunLine) → IsLineIn (kind_at plan.extents (map publication_of pieces)) start n l → length bytes ≡ l.len → AreCells c plan pieces l.at (length bytes) bytes
    → l.kind ≡ kind.Known → bytes ≡ content_bytes c l.at l.len
told_bytes c plan pieces at len start n bytes l one count cells known =
    ext_get_or 0 bytes (content_bytes c l.at l.len) (count ∙ sym (length-map-range_with_len c.byte l.at l.len)) (λ k low.
    let inside : k < l.len = omega (arith, low, count) in
    let cell = known_cell c plan.extents (map publication_of pieces) (l.at + k) (one.same k inside ∙ known) in
    cells k low ∙ ap (fill_of (l.at + k)) cell ∙ sym (get_or-map-range_with_len c.byte l.at l.len k (l.at + k) 0 inside refl))

-- some first ones of sound pieces are sound
sound_take : (case : Option Content) (plan : Planned) (tells : Bool) {R : Type 0} (told : R → List ℕ) (pieces : List (Part R)) (n : ℕ) → AreSound case plan tells told pieces → AreSound case plan tells told (take n pieces)
sound_take case plan tells told pieces n sound = All-take (IsSoundIn case plan tells told) n pieces sound

told_sums : (case : Option Content) (plan : Planned) (tells : Bool) {R : Type 0} (told : R → List ℕ) (pieces : List (Part R)) (at len : ℕ) (a : Answered) → AreSound case plan tells told (take a.front pieces) → IsAnsweredBy plan tells told pieces at len a
    → IsTrue tells → IfSome case (λ c. All (λ l. IsSumOf (content_bytes c l.at l.len) l.kind l.sha256) a.runs)
told_sums None plan tells told pieces at len a sound is t = tt
told_sums (Some c) plan tells told pieces at len a sound is t = λ k d low.
    let line = is.lines k d low in
    let l : RunLine = get_or a.runs k d in
    let one = answer_lines plan.extents (map publication_of (take a.front pieces)) at len a.runs is.runs is.in_row k d low in
    sum_with l.kind line.bytes (content_bytes c l.at l.len) l.sha256 (λ known. told_bytes c plan (take a.front pieces) at len at len line.bytes l one line.len (line.shown.cells t c sound) known) line.sum

is_answered : (case : Option Content) (plan : Planned) (tells : Bool) {R : Type 0} (told : R → List ℕ) (pieces : List (Part R)) → AreSound case plan tells told pieces → (at len : ℕ) (a : Answered) → IsAnsweredBy plan tells told pieces at len a → IsAnswered case tells plan (map publication_of pieces) at len a
is_answered case plan tells told pieces sound at len a is = record {
  at_is = is.at_is;
  len_is = is.len_is;
  front = omega (arith, is.front, length-map pieces publication_of);
  runs = subst (λ h. IsAnswer plan.extents h at len (map run_of a.runs)) (sym (take-map publication_of a.front pieces)) is.runs;
  in_row = is.in_row;
  sums = λ k d low. (let line = is.lines k d low in (line.bytes, line.sum));
  told = told_sums case plan tells told pieces at len a (sound_take case plan tells told pieces a.front sound) is;
}

-- the answers of a session by sound pieces are its answers by their history
pub answers_by_history : (case : Option Content) (plan : Planned) (tells : Bool) {R : Type 0} (told : R → List ℕ) (pieces : List (Part R)) (requests : List Request) (answers : List Answered) → AreSound case plan tells told pieces → AreAnsweredBy plan tells told pieces requests answers
    → AreAnswered case tells plan (map publication_of pieces) requests answers
answers_by_history case plan tells told pieces requests answers sound all =
    let h : List Published = map publication_of pieces in
    subst (λ n. AreAnswers (IsAnswered case tells plan h) n 0 requests answers) (sym (length-map pieces publication_of)) (answers_to (IsAnsweredBy plan tells told pieces) (IsAnswered case tells plan h) (length pieces) 0 requests answers (is_answered case plan tells told pieces sound) all)
