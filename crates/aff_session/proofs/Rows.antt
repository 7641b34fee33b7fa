-- Runs one behind the other.
use Rattle.std.proofs.Common.{◌≡◌, ℕ, ◌+◌, ◌-◌, ◌<◌, ◌≤◌, List, [], ◌∷◌, length, map, get_or, replicate, refl, sym, ap, ◌∙◌, arith, length-append, All}
use Rattle.std.proofs.lemmas.List.{length-replicate, get_or-replicate, get_or_append_left, get_or-append_right}
use Rattle.std.proofs.lemmas.List.Elements.{All-nil, All-cons}
use Rattle.std.proofs.lemmas.List.FromFn.{length-map-range_with_len, get_or-map-range_with_len}
use Rattle.aff_model.specs.declared.cell.Kind.{Kind}
use Rattle.aff_model.specs.declared.cell.Kind.TheVariants.{Unknown}
use Rattle.aff_model.specs.declared.cell.Run.{Run}
use Rattle.aff_model.specs.declared.extent.Extent.{Extent}
use Rattle.aff_model.specs.History.{Published}
use Rattle.aff_model.specs.Kinds.{IsAnswer, kind_at, spread}
use Rattle.aff_script.specs.declared.answer.RunLine.{RunLine}
use Rattle.aff_session.specs.Answers.{AreInRow, run_of}

-- a run of a range is inside it, and each of its places is of its kind
pub record IsLineIn (kind : ℕ → Kind) (start n : ℕ) (l : RunLine) : Type 0 where
  pub from : start ≤ l.at
  pub to : l.at + l.len ≤ start + n
  pub same : (k : ℕ) → k < l.len → kind (l.at + k) ≡ l.kind

all_later : (kind : ℕ → Kind) (start len n : ℕ) (lines : List RunLine) → len ≤ n → All (IsLineIn kind (start + len) (n - len)) lines → All (IsLineIn kind start n) lines
all_later kind start len n lines few all = λ k d low. (let one = all k d low in record { from = omega (arith, one.from); to = omega (arith, one.to, few); same = one.same })

lines_in : (kind : ℕ → Kind) (lines : List RunLine) (start n : ℕ) → AreInRow start lines → length (spread (map run_of lines)) ≡ n
    → ((k : ℕ) → k < n → get_or (spread (map run_of lines)) k Unknown ≡ kind (start + k)) → All (IsLineIn kind start n) lines
lines_in kind [] start n stand len each = All-nil (IsLineIn kind start n)
lines_in kind (l ∷ lines) start n stand len each =
    let front : List Kind = replicate l.len l.kind in
    let rest : List Kind = spread (map run_of lines) in
    let count : l.len + length rest ≡ n = omega (arith, len, length-append front rest, length-replicate l.len l.kind) in
    let one : IsLineIn kind start n l = record {
      from = omega (arith, stand.0);
      to = omega (arith, stand.0, count);
      same = λ k low. (let small : k < length front = omega (arith, low, length-replicate l.len l.kind) in
          ap (λ i. kind (i + k)) stand.0 ∙ sym (each k (omega (arith, low, count))) ∙ get_or_append_left front rest Unknown k small ∙ get_or-replicate l.len k l.kind Unknown low);
    } in
    let more : (k : ℕ) → k < n - l.len → get_or rest k Unknown ≡ kind (start + l.len + k) =
    λ k low. (let at : l.len + k - l.len ≡ k = omega arith in
    let i : start + (l.len + k) ≡ start + l.len + k = omega arith in
    sym (ap (λ j. get_or rest j Unknown) at) ∙ sym (get_or-append_right front rest l.len (l.len + k) Unknown (length-replicate l.len l.kind) (omega arith)) ∙ each (l.len + k) (omega (arith, low, count)) ∙ ap kind i) in
    All-cons (IsLineIn kind start n) l lines one (all_later kind start l.len n lines (omega (arith, count)) (lines_in kind lines (start + l.len) (n - l.len) stand.1 (omega (arith, count)) more))

-- the runs of an answer cover its range
pub answer_len : (es : List Extent) (history : List Published) (at len : ℕ) (runs : List Run) → IsAnswer es history at len runs → length (spread runs) ≡ len
answer_len es history at len runs is = ap length is.kinds ∙ length-map-range_with_len (kind_at es history) at len

pub answer_lines : (es : List Extent) (history : List Published) (at len : ℕ) (lines : List RunLine) → IsAnswer es history at len (map run_of lines) → AreInRow at lines → All (IsLineIn (kind_at es history) at len) lines
answer_lines es history at len lines is stand =
    lines_in (kind_at es history) lines at len stand (answer_len es history at len (map run_of lines) is)
    (λ k low. ap (λ ks. get_or ks k Unknown) is.kinds ∙ get_or-map-range_with_len (kind_at es history) at len k (at + k) Unknown low refl)
