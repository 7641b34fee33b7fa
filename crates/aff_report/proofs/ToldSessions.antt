-- The lines of sessions are read back, with the reads and the runs of each.
use Rattle.std.proofs.Common.{◌≡◌, ℕ, ◌+◌, ◌<◌, ◌≤◌, List, [], ◌∷◌, ◌++◌, codes, refl, sym, ap, ◌∙◌, arith, append_assoc}
use Rattle.std.proofs.lemmas.List.{append_cancel_left}
use Rattle.std.specs.Prelude.{All}
use Rattle.std.specs.Fmt.{decimal}
use Rattle.std.specs.List.{flat_map}
use Rattle.hex.specs.Hex.{encode_lower}
use Rattle.aff_model.specs.declared.cell.Kind.{Kind}
use Rattle.aff_model.specs.declared.cell.Kind.TheVariants.{Known, Unreadable, Unknown}
use Rattle.aff_script.specs.Answered.{Answered}
use Rattle.aff_script.specs.declared.answer.RunLine.{RunLine}
use Rattle.aff_report.specs.Reported.{FitsAnswer, FitsRun, HasItsSum}
use Rattle.aff_report.specs.Sessions.{answer_lines, kind_line, read_line, run_line, session_line, session_lines}
use Rattle.aff_report.proofs.Ranks.{AreRead, numbered, numbered-flat_map, numbered_rank, numbered_tells, rank}
use Rattle.aff_report.proofs.Splits.{byte_differs, split_decimal}
use Rattle.aff_report.proofs.ToldHashes.{split_digest}

known_fields : (at len sum s : List ℕ) → ((codes "known " ++ (at ++ (codes " " ++ len))) ++ (codes " " ++ (sum ++ codes "\n"))) ++ s
    ≡ codes "known " ++ (at ++ (codes " " ++ (len ++ (codes " " ++ (sum ++ (codes "\n" ++ s))))))
known_fields at len sum s = simp append_assoc

unreadable_fields : (at len s : List ℕ) → (codes "unreadable " ++ (at ++ (codes " " ++ (len ++ codes "\n")))) ++ s ≡ codes "unreadable " ++ (at ++ (codes " " ++ (len ++ (codes "\n" ++ s))))
unreadable_fields at len s = simp append_assoc

unknown_fields : (at len s : List ℕ) → (codes "unknown " ++ (at ++ (codes " " ++ (len ++ codes "\n")))) ++ s ≡ codes "unknown " ++ (at ++ (codes " " ++ (len ++ (codes "\n" ++ s))))
unknown_fields at len s = simp append_assoc

kind_rank : (kind : Kind) (at len : ℕ) (sum s : List ℕ) → rank (kind_line kind at len sum ++ s) ≡ 2
kind_rank Known at len sum s = refl
kind_rank Unreadable at len sum s = refl
kind_rank Unknown at len sum s = refl

-- two ranges, each up to some byte that is no digit
record AreSame (q r : RunLine) (s t : List ℕ) : Type 0 where
  pub at : q.at ≡ r.at
  pub len : q.len ≡ r.len
  pub rest : s ≡ t

split_range : (c : ℕ) (q r : RunLine) (s t : List ℕ) → c < 48 → FitsRun q → FitsRun r
    → decimal q.at ++ (32 ∷ (decimal q.len ++ (c ∷ s))) ≡ decimal r.at ++ (32 ∷ (decimal r.len ++ (c ∷ t))) → AreSame q r s t
split_range c q r s t low fit_q fit_r e =
    let at = split_decimal 32 q.at r.at _ _ (omega arith) fit_q.at fit_r.at e in
    let len = split_decimal c q.len r.len _ _ low fit_q.len fit_r.len at.1 in
    record { at = at.0; len = len.0; rest = len.1 }

-- two runs of these kinds
record AreOne (k l : Kind) (q r : RunLine) (s t : List ℕ) : Type 0 where
  pub kind : k ≡ l
  pub at : q.at ≡ r.at
  pub len : q.len ≡ r.len
  pub sum : q.sha256 ≡ r.sha256
  pub rest : s ≡ t

known_tells : (q r : RunLine) (s t : List ℕ) → FitsRun q → FitsRun r → HasItsSum Known q.sha256 → HasItsSum Known r.sha256
    → kind_line Known q.at q.len q.sha256 ++ s ≡ kind_line Known r.at r.len r.sha256 ++ t → AreOne Known Known q r s t
known_tells q r s t fit_q fit_r sum_q sum_r e =
    let whole = sym (known_fields (decimal q.at) (decimal q.len) (encode_lower q.sha256) s) ∙ e ∙ known_fields (decimal r.at) (decimal r.len) (encode_lower r.sha256) t in
    let range = split_range 32 q r _ _ (omega arith) fit_q fit_r (append_cancel_left (codes "known ") _ _ whole) in
    let sum = split_digest 32 q.sha256 r.sha256 _ _ sum_q sum_r range.rest in
    record { kind = refl; at = range.at; len = range.len; sum = sum.0; rest = append_cancel_left (codes "\n") s t sum.1 }

unreadable_tells : (q r : RunLine) (s t : List ℕ) → FitsRun q → FitsRun r → HasItsSum Unreadable q.sha256 → HasItsSum Unreadable r.sha256
    → kind_line Unreadable q.at q.len q.sha256 ++ s ≡ kind_line Unreadable r.at r.len r.sha256 ++ t → AreOne Unreadable Unreadable q r s t
unreadable_tells q r s t fit_q fit_r sum_q sum_r e =
    let whole = sym (unreadable_fields (decimal q.at) (decimal q.len) s) ∙ e ∙ unreadable_fields (decimal r.at) (decimal r.len) t in
    let range = split_range 10 q r s t (omega arith) fit_q fit_r (append_cancel_left (codes "unreadable ") _ _ whole) in
    record { kind = refl; at = range.at; len = range.len; sum = sum_q ∙ sym sum_r; rest = range.rest }

unknown_tells : (q r : RunLine) (s t : List ℕ) → FitsRun q → FitsRun r → HasItsSum Unknown q.sha256 → HasItsSum Unknown r.sha256
    → kind_line Unknown q.at q.len q.sha256 ++ s ≡ kind_line Unknown r.at r.len r.sha256 ++ t → AreOne Unknown Unknown q r s t
unknown_tells q r s t fit_q fit_r sum_q sum_r e =
    let whole = sym (unknown_fields (decimal q.at) (decimal q.len) s) ∙ e ∙ unknown_fields (decimal r.at) (decimal r.len) t in
    let range = split_range 10 q r s t (omega arith) fit_q fit_r (append_cancel_left (codes "unknown ") _ _ whole) in
    record { kind = refl; at = range.at; len = range.len; sum = sum_q ∙ sym sum_r; rest = range.rest }

kind_tells : (k l : Kind) (q r : RunLine) (s t : List ℕ) → FitsRun q → FitsRun r → HasItsSum k q.sha256 → HasItsSum l r.sha256
    → kind_line k q.at q.len q.sha256 ++ s ≡ kind_line l r.at r.len r.sha256 ++ t → AreOne k l q r s t
kind_tells Known Known q r s t fit_q fit_r sum_q sum_r e = known_tells q r s t fit_q fit_r sum_q sum_r e
kind_tells Unreadable Unreadable q r s t fit_q fit_r sum_q sum_r e = unreadable_tells q r s t fit_q fit_r sum_q sum_r e
kind_tells Unknown Unknown q r s t fit_q fit_r sum_q sum_r e = unknown_tells q r s t fit_q fit_r sum_q sum_r e
kind_tells Known Unreadable q r s t fit_q fit_r sum_q sum_r e = absurd (byte_differs 0 107 117 _ _ refl refl (λ h. absurd (omega arith)) e)
kind_tells Known Unknown q r s t fit_q fit_r sum_q sum_r e = absurd (byte_differs 0 107 117 _ _ refl refl (λ h. absurd (omega arith)) e)
kind_tells Unreadable Known q r s t fit_q fit_r sum_q sum_r e = absurd (byte_differs 0 117 107 _ _ refl refl (λ h. absurd (omega arith)) e)
kind_tells Unknown Known q r s t fit_q fit_r sum_q sum_r e = absurd (byte_differs 0 117 107 _ _ refl refl (λ h. absurd (omega arith)) e)
kind_tells Unreadable Unknown q r s t fit_q fit_r sum_q sum_r e = absurd (byte_differs 2 114 107 _ _ refl refl (λ h. absurd (omega arith)) e)
kind_tells Unknown Unreadable q r s t fit_q fit_r sum_q sum_r e = absurd (byte_differs 2 107 114 _ _ refl refl (λ h. absurd (omega arith)) e)

run_tells : (q r : RunLine) (s t : List ℕ) → FitsRun q → FitsRun r → run_line q ++ s ≡ run_line r ++ t → (q ≡ r) × (s ≡ t)
run_tells q r s t fit_q fit_r e =
    let one = kind_tells q.kind r.kind q r s t fit_q fit_r fit_q.sum fit_r.sum e in
    (λ i. record { at = one.at i; len = one.len i; kind = one.kind i; sha256 = one.sum i }, one.rest)

runs : AreRead FitsRun 2 (λ n. run_line)
runs = record {
  begins = λ n l s. kind_rank l.kind l.at l.len l.sha256 s;
  tells = λ n q r s t fit_q fit_r behind_s behind_t e. run_tells q r s t fit_q fit_r e;
}

-- texts of a list with something before them, and what follows
behind_list : {A : Type 0} (text : A → List ℕ) (n : ℕ) (line s : List ℕ) (xs : List A) → (line ++ flat_map text xs) ++ s ≡ line ++ (numbered (λ m. text) n xs ++ s)
behind_list text n line s xs = append_assoc line (flat_map text xs) s ∙ ap (λ v. line ++ (v ++ s)) (numbered-flat_map text n xs)

read_fields : (at len front s : List ℕ) → (codes "read " ++ (at ++ (codes " " ++ (len ++ (codes " " ++ (front ++ codes "\n")))))) ++ s
    ≡ codes "read " ++ (at ++ (codes " " ++ (len ++ (codes " " ++ (front ++ (codes "\n" ++ s))))))
read_fields at len front s = simp append_assoc

answer_tells : (a b : Answered) (s t : List ℕ) → FitsAnswer a → FitsAnswer b → 3 ≤ rank s → 3 ≤ rank t → answer_lines a ++ s ≡ answer_lines b ++ t → (a ≡ b) × (s ≡ t)
answer_tells a b s t fit_a fit_b behind_s behind_t e =
    let more_s = numbered (λ m. run_line) 0 a.runs ++ s in
    let more_t = numbered (λ m. run_line) 0 b.runs ++ t in
    let begun_a = behind_list run_line 0 (read_line a.at a.len a.front) s a.runs ∙ read_fields (decimal a.at) (decimal a.len) (decimal a.front) more_s in
    let begun_b = behind_list run_line 0 (read_line b.at b.len b.front) t b.runs ∙ read_fields (decimal b.at) (decimal b.len) (decimal b.front) more_t in
    let at = split_decimal 32 a.at b.at _ _ (omega arith) fit_a.at fit_b.at (append_cancel_left (codes "read ") _ _ (sym begun_a ∙ e ∙ begun_b)) in
    let len = split_decimal 32 a.len b.len _ _ (omega arith) fit_a.len fit_b.len at.1 in
    let front = split_decimal 10 a.front b.front _ _ (omega arith) fit_a.front fit_b.front len.1 in
    let rest = numbered_tells FitsRun 2 (λ m. run_line) runs 0 a.runs b.runs s t fit_a.runs fit_b.runs (omega arith) (omega arith) front.1 in
    (λ i. record { at = at.0 i; len = len.0 i; front = front.0 i; runs = rest.0 i }, rest.1)

answers : AreRead FitsAnswer 3 (λ n. answer_lines)
answers = record {
  begins = λ n a s. refl;
  tells = λ n a b s t fit_a fit_b behind_s behind_t e. answer_tells a b s t fit_a fit_b behind_s behind_t e;
}

-- a session with its answers
abbrev of_session : ℕ → List Answered → List ℕ
of_session number answers = session_line number ++ flat_map answer_lines answers

session_tells : (n : ℕ) (xs ys : List Answered) (s t : List ℕ) → All FitsAnswer xs → All FitsAnswer ys → 4 ≤ rank s → 4 ≤ rank t → of_session n xs ++ s ≡ of_session n ys ++ t → (xs ≡ ys) × (s ≡ t)
session_tells n xs ys s t fit_xs fit_ys behind_s behind_t e =
    let whole = sym (behind_list answer_lines 0 (session_line n) s xs) ∙ e ∙ behind_list answer_lines 0 (session_line n) t ys in
    numbered_tells FitsAnswer 3 (λ m. answer_lines) answers 0 xs ys s t fit_xs fit_ys (omega arith) (omega arith) (append_cancel_left (session_line n) _ _ whole)

sessions : AreRead (All FitsAnswer) 4 of_session
sessions = record {
  begins = λ n xs s. refl;
  tells = session_tells;
}

as_numbered : (n : ℕ) (script : List (List Answered)) → session_lines n script ≡ numbered of_session n script
as_numbered n [] = refl
as_numbered n (answers ∷ script) = ap (λ v. of_session n answers ++ v) (as_numbered (n + 1) script)

pub sessions_rank : (n : ℕ) (script : List (List Answered)) (s : List ℕ) → 4 < rank s → 4 ≤ rank (session_lines n script ++ s)
sessions_rank n script s behind =
    let high = numbered_rank (All FitsAnswer) 4 of_session sessions n script s behind in
    let same = ap (λ v. rank (v ++ s)) (as_numbered n script) in
    omega arith

pub sessions_tell : (n : ℕ) (xs ys : List (List Answered)) (s t : List ℕ) → All (All FitsAnswer) xs → All (All FitsAnswer) ys → 4 < rank s → 4 < rank t
    → session_lines n xs ++ s ≡ session_lines n ys ++ t → (xs ≡ ys) × (s ≡ t)
sessions_tell n xs ys s t fit_xs fit_ys behind_s behind_t e =
    numbered_tells (All FitsAnswer) 4 of_session sessions n xs ys s t fit_xs fit_ys behind_s behind_t
    (sym (ap (λ v. v ++ s) (as_numbered n xs)) ∙ e ∙ ap (λ v. v ++ t) (as_numbered n ys))
