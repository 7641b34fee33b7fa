-- One run more.
use Rattle.std.proofs.Common.{◌≡◌, ℕ, ◌+◌, ◌-◌, ◌<◌, ◌≤◌, List, [], ◌∷◌, ◌++◌, length, map, take, drop, get_or, replicate, sym, ap, subst, ◌∙◌, arith, length-append}
use Rattle.std.proofs.lemmas.List.{length-replicate, map-append, take_more}
use Rattle.std.proofs.lemmas.List.Elements.{All-push}
use Rattle.std.proofs.lemmas.List.Folds.{length-flat_map-take}
use Rattle.aff_model.specs.declared.cell.Kind.TheVariants.{Known}
use Rattle.aff_model.specs.declared.cell.Run.{Run}
use Rattle.aff_model.specs.Kinds.{spread}
use Rattle.aff_core.proofs.RunLists.{spread-push}
use Rattle.aff_script.specs.declared.answer.RunLine.{RunLine}
use Rattle.aff_session.specs.Answers.{AreInRow, IsSumOf, run_of}
use Rattle.aff_session.specs.Lines.{AreLinesOf, line_bytes}

abbrev pub no_run : Run
no_run = record { len = 0; kind = Known }

-- a run ends inside all of them
pub fits_more : (runs : List Run) (i : ℕ) (d : Run) → i < length runs → length (spread (take i runs)) + (get_or runs i d).len ≤ length (spread runs)
fits_more runs i d low =
    let all = length-flat_map-take (λ (r : Run). replicate r.len r.kind) runs i d low in
    omega (arith, all, length-replicate (get_or runs i d).len (get_or runs i d).kind)

row_push : (at : ℕ) (lines : List RunLine) (l : RunLine) → AreInRow at lines → l.at ≡ at + length (spread (map run_of lines)) → AreInRow at (lines ++ l ∷ [])
row_push at [] l row is = (omega (arith, is), tt)
row_push at (x ∷ lines) l row is =
    let n = length-append (replicate x.len x.kind) (spread (map run_of lines)) in
    (row.0, row_push (at + x.len) lines l row.1 (omega (arith, is, n, length-replicate x.len x.kind)))

-- the lines of runs, with one more
pub lines_push : (at : ℕ) (bytes : List ℕ) (runs : List Run) (r : Run) (lines : List RunLine) (l : RunLine) → AreLinesOf at bytes runs lines → l.at ≡ at + length (spread runs) → run_of l ≡ r → IsSumOf (take r.len (drop (length (spread runs)) bytes)) r.kind l.sha256
    → AreLinesOf at bytes (runs ++ r ∷ []) (lines ++ l ∷ [])
lines_push at bytes runs r lines l are stands is sum =
    let P : RunLine → Type 0 = λ x. IsSumOf (line_bytes at bytes x) x.kind x.sha256 in
    let from : l.at - at ≡ length (spread runs) = omega (arith, stands) in
    let own : P l =
    subst (λ n. IsSumOf (take l.len (drop n bytes)) l.kind l.sha256) (sym from)
    (subst (λ (x : Run). IsSumOf (take x.len (drop (length (spread runs)) bytes)) x.kind l.sha256) (sym is) sum) in
    record {
      same = map-append run_of lines (l ∷ []) ∙ ap (λ xs. xs ++ run_of l ∷ []) are.same ∙ ap (λ x. runs ++ x ∷ []) is;
      in_row = row_push at lines l are.in_row (stands ∙ ap (λ xs. at + length (spread xs)) (sym are.same));
      sums = All-push P lines l are.sums own;
    }

pub record IsOneMore (at : ℕ) (bytes : List ℕ) (runs : List Run) (i from : ℕ) (lines : List RunLine) : Type 0 where
  pub so_far : from ≡ length (spread (take (i + 1) runs))
  pub are : AreLinesOf at bytes (take (i + 1) runs) lines

-- the same as the loop has it
pub lines_more : (at : ℕ) (bytes : List ℕ) (runs : List Run) (i : ℕ) (lines : List RunLine) (l : RunLine) (from : ℕ) (own : List ℕ) → i < length runs → from ≡ length (spread (take i runs)) → AreLinesOf at bytes (take i runs) lines
    → l.at ≡ at + from → run_of l ≡ get_or runs i no_run → own ≡ take (get_or runs i no_run).len (drop from bytes) → IsSumOf own (get_or runs i no_run).kind l.sha256
    → IsOneMore at bytes runs i (from + (get_or runs i no_run).len) (lines ++ l ∷ [])
lines_more at bytes runs i lines l from own low is are stands same part sum =
    let r : Run = get_or runs i no_run in
    let front : List Run = take i runs in
    let more : take (i + 1) runs ≡ front ++ r ∷ [] = take_more runs i no_run low in
    let n = length-append (spread front) (replicate r.len r.kind) in
    let count : from + r.len ≡ length (spread (front ++ r ∷ [])) = omega (arith, is, ap length (spread-push front r), n, length-replicate r.len r.kind) in
    let there : IsSumOf (take r.len (drop (length (spread front)) bytes)) r.kind l.sha256 = subst (λ k. IsSumOf (take r.len (drop k bytes)) r.kind l.sha256) is (subst (λ bs. IsSumOf bs r.kind l.sha256) part sum) in
    record {
      so_far = count ∙ ap (λ xs. length (spread xs)) (sym more);
      are = subst (λ xs. AreLinesOf at bytes xs (lines ++ l ∷ [])) (sym more) (lines_push at bytes front r lines l are (stands ∙ ap (λ k. at + k) is) same there);
    }
