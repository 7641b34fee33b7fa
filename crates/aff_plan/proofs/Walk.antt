-- The lines of a plan's text, one after another.
use Rattle.std.proofs.Common.{◌≡◌, ℕ, suc, ◌+◌, ◌<◌, ◌≤◌, Bool, true, false, not, cond, nat_lt, List, [], ◌∷◌, ◌++◌, length, take, refl, sym, ap, subst, ◌∙◌, arith, append_assoc, length-append}
use Rattle.std.specs.Prelude.{IfSome, Option, None, Some, position}
use Rattle.std.specs.Borrow.{Bor}
use Rattle.std.specs.List.{AllByRecursion, before_first, position_or_len, prefix_len}
use Rattle.std.specs.Option.{option_map}
use Rattle.std.proofs.lemmas.Bool.Decides.{nat_tests}
use Rattle.aff_plan.specs.Text.{NumberedLine, is_session, is_skipped, kept_lines}

-- the lines that are kept of some, which are numbered from n on and may run into a script
abbrev pub lines_from : ℕ → List (List ℕ) → List NumberedLine
lines_from n lines = kept_lines n (before_first is_session lines)

before_first-yes : (p : List ℕ → Bool) (x : List ℕ) (xs : List (List ℕ)) → p x ≡ true → before_first p (x ∷ xs) ≡ []
before_first-yes p x xs same = ap (λ t. take (cond (not t) (1 + prefix_len (λ y. not (p y)) xs) 0) (x ∷ xs)) same

before_first-no : (p : List ℕ → Bool) (x : List ℕ) (xs : List (List ℕ)) → p x ≡ false → before_first p (x ∷ xs) ≡ x ∷ before_first p xs
before_first-no p x xs other =
    let count = prefix_len (λ y. not (p y)) xs in
    let more : 1 + count ≡ suc count = omega arith in
    ap (λ t. take (cond (not t) (1 + count) 0) (x ∷ xs)) other ∙ ap (λ n. take n (x ∷ xs)) more

-- behind a line that begins a script there is none
pub lines_from-session : (n : ℕ) (line : List ℕ) (lines : List (List ℕ)) → is_session line ≡ true → lines_from n (line ∷ lines) ≡ []
lines_from-session n line lines same = ap (kept_lines n) (before_first-yes is_session line lines same)

-- the lines that are kept of one line and of those behind it
pub kept_lines-one : (n : ℕ) (line : List ℕ) (lines : List (List ℕ)) → kept_lines n (line ∷ lines) ≡ kept_lines n (line ∷ []) ++ kept_lines (n + 1) lines
kept_lines-one n line lines = cases (is_skipped line)
  where
    cases : (t : Bool) → cond (not t) ((n, line) ∷ kept_lines (n + 1) lines) (kept_lines (n + 1) lines) ≡ cond (not t) ((n, line) ∷ []) [] ++ kept_lines (n + 1) lines
    cases true = refl
    cases false = refl

-- another line is kept or skipped, and those behind it have the numbers from the next one on
pub lines_from-line : (n : ℕ) (line : List ℕ) (lines : List (List ℕ)) → is_session line ≡ false
    → lines_from n (line ∷ lines) ≡ kept_lines n (line ∷ []) ++ lines_from (n + 1) lines
lines_from-line n line lines other = ap (kept_lines n) (before_first-no is_session line lines other) ∙ kept_lines-one n line (before_first is_session lines)

-- how many bytes are left to be cut, and one more where some text is left
abbrev pub room : Option (Bor (List ℕ)) → ℕ
room None = 0
room (Some rest) = length rest.now + 1

-- lines of which none begins a script
abbrev pub AreNoSession : List (List ℕ) → Type 0
AreNoSession lines = AllByRecursion (λ line. is_session line ≡ false) lines

pub no_session_more : (lines : List (List ℕ)) (line : List ℕ) → AreNoSession lines → is_session line ≡ false → AreNoSession (lines ++ line ∷ [])
no_session_more [] line none other = (other, tt)
no_session_more (l ∷ lines) line none other = (none.0, no_session_more lines line none.1 other)

place_in : (xs ys : List (List ℕ)) (line : List ℕ) → AreNoSession xs → is_session line ≡ true → position_or_len is_session (xs ++ line ∷ ys) ≡ length xs
place_in [] ys line none same = ap (λ t. cond (not t) (1 + position_or_len is_session ys) 0) same
place_in (x ∷ xs) ys line none same =
    ap (λ t. cond (not t) (1 + position_or_len is_session (xs ++ line ∷ ys)) 0) none.0 ∙ grind (arith, place_in xs ys line none.1 same)

no_place_in : (xs : List (List ℕ)) → AreNoSession xs → position_or_len is_session xs ≡ length xs
no_place_in [] none = refl
no_place_in (x ∷ xs) none = ap (λ t. cond (not t) (1 + position_or_len is_session xs) 0) none.0 ∙ grind (arith, no_place_in xs none.1)

-- the number of the first line that begins a script
pub session_at : (lines xs ys : List (List ℕ)) (line : List ℕ) → lines ≡ xs ++ line ∷ ys → AreNoSession xs → is_session line ≡ true
    → option_map (λ k. k + 1) (position is_session lines) ≡ Some (length xs + 1)
session_at lines xs ys line are none same =
    let whole = xs ++ line ∷ ys in
    let within : nat_lt (length xs) (length whole) ≡ true = grind (arith, nat_tests, length-append xs (line ∷ ys)) in
    let at : position is_session whole ≡ Some (length xs) =
    ap (λ n. cond (nat_lt n (length whole)) (Some n) None) (place_in xs ys line none same) ∙ ap (λ t. cond t (Some (length xs)) None) within in
    ap (λ v. option_map (λ k. k + 1) (position is_session v)) are ∙ ap (option_map (λ k. k + 1)) at

pub no_session : (lines : List (List ℕ)) → AreNoSession lines → option_map (λ k. k + 1) (position is_session lines) ≡ None
no_session lines none =
    let beyond : nat_lt (length lines) (length lines) ≡ false = grind (arith, nat_tests) in
    let at : position is_session lines ≡ None =
    ap (λ n. cond (nat_lt n (length lines)) (Some n) None) (no_place_in lines none) ∙ ap (λ t. cond t (Some (length lines)) None) beyond in
    ap (option_map (λ k. k + 1)) at

-- what is left behind a cut has less room than the whole
pub room_less : (rest : Option (Bor (List ℕ))) (lines : List ℕ) → IfSome rest (λ r. length r.now < length lines) → room rest ≤ length lines
room_less None lines shorter = omega arith
room_less (Some r) lines shorter = omega (arith, shorter)

-- a line that is not skipped is kept
pub kept_one : (n : ℕ) (line : List ℕ) → is_skipped line ≡ false → kept_lines n (line ∷ []) ≡ (n, line) ∷ []
kept_one n line kept = ap (λ t. cond (not t) ((n, line) ∷ []) []) kept
