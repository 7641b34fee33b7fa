-- A written plan's lines say its extents.
use Rattle.std.proofs.Common.{◌≡◌, ℕ, suc, ◌+◌, ◌<◌, ◌≤◌, ◌^◌, ◌==◌, Bool, false, true, cond, not, List, [], ◌∷◌, ◌++◌, length, refl, sym, ap, subst, ◌∙◌, arith, codes, append_assoc, All, get_or}
use Rattle.std.specs.Fmt.{decimal}
use Rattle.std.specs.List.{AllByRecursion, slice_split}
use Rattle.std.specs.Str.Parse.{AllDigits}
use Rattle.std.proofs.lemmas.Fmt.{decimal_is_IsNumeral}
use Rattle.std.proofs.lemmas.List.Elements.{All-append, All-from_recursion}
use Rattle.std.proofs.lemmas.List.Splits.{slice_split_at, slice_split_none}
use Rattle.std.proofs.lemmas.Str.Parse.{digit_from_value}
use Rattle.aff_model.specs.declared.extent.Extent.{Extent}
use Rattle.aff_model.specs.Index.{no_extent}
use Rattle.aff_model.specs.Plan.{IsExtent, IsPlan}
use Rattle.aff_spec.specs.PlanText.{FitsExtent, extent_line, plan_text}
use Rattle.aff_plan.specs.Line.{IsExtentLine, words_of}
use Rattle.aff_plan.specs.Refused.{AreLinesOf, IsTextOf}
use Rattle.aff_plan.specs.Text.{NumberedLine, is_session, is_skipped, kept_lines, numbered_lines}
use Rattle.aff_spec.specs.Lines.{lines_of}
use Rattle.aff_plan.proofs.Walk.{lines_from, lines_from-line}

abbrev Lacks : ℕ → List ℕ → Type 0
Lacks c xs = All (λ b. (b == c) ≡ false) xs

lacks_in : (digits : List ℕ) (c : ℕ) → c < 48 → AllDigits 10 digits → AllByRecursion (λ b. (b == c) ≡ false) digits
lacks_in [] c low all = tt
lacks_in (d ∷ digits) c low all =
    let range = digit_from_value d all.0 in
    let one : (d == c) ≡ false = grind (arith, range.0, range.1, low) in
    (one, lacks_in digits c low all.1)

-- the digits of a number lack what stands below them
lacks : (n c : ℕ) → n < 2 ^ 64 → c < 48 → Lacks c (decimal n)
lacks n c small low = All-from_recursion (λ b. (b == c) ≡ false) (decimal n) (lacks_in (decimal n) c low (decimal_is_IsNumeral n small).0.1)

word_lacks_feed : Lacks 10 (codes "extent ")
word_lacks_feed = All-from_recursion (λ b. (b == 10) ≡ false) (codes "extent ") (refl, (refl, (refl, (refl, (refl, (refl, (refl, tt)))))))

space_lacks_feed : Lacks 10 (codes " ")
space_lacks_feed = All-from_recursion (λ b. (b == 10) ≡ false) (codes " ") (refl, tt)

word_lacks_space : Lacks 32 (codes "extent")
word_lacks_space = All-from_recursion (λ b. (b == 32) ≡ false) (codes "extent") (refl, (refl, (refl, (refl, (refl, (refl, tt))))))

-- an extent's line without its line feed
body : Extent → List ℕ
body e = codes "extent " ++ (decimal e.at ++ (codes " " ++ (decimal e.len ++ (codes " " ++ decimal e.priority))))

body-line : (e : Extent) (rest : List ℕ) → extent_line e ++ rest ≡ body e ++ 10 ∷ rest
unfolding body
body-line e rest = simp append_assoc

body_lacks : (e : Extent) → FitsExtent e → Lacks 10 (body e)
unfolding body
body_lacks e fits =
    All-append (λ b. (b == 10) ≡ false) (codes "extent ") _ word_lacks_feed
    (All-append (λ b. (b == 10) ≡ false) (decimal e.at) _ (lacks e.at 10 fits.at (omega arith))
    (All-append (λ b. (b == 10) ≡ false) (codes " ") _ space_lacks_feed
    (All-append (λ b. (b == 10) ≡ false) (decimal e.len) _ (lacks e.len 10 fits.len (omega arith))
    (All-append (λ b. (b == 10) ≡ false) (codes " ") (decimal e.priority) space_lacks_feed (lacks e.priority 10 (omega (arith, fits.priority)) (omega arith))))))

-- the words of such a line
body_words : (e : Extent) → FitsExtent e → IsExtentLine (body e) e
unfolding body
body_words e fits =
    let P : ℕ → Bool = λ b. b == 32 in
    let back = decimal e.len ++ 32 ∷ decimal e.priority in
    let one : words_of (codes "extent" ++ 32 ∷ (decimal e.at ++ 32 ∷ back)) ≡ codes "extent" ∷ words_of (decimal e.at ++ 32 ∷ back) = slice_split_at P (codes "extent") 32 (decimal e.at ++ 32 ∷ back) word_lacks_space refl in
    let two : words_of (decimal e.at ++ 32 ∷ back) ≡ decimal e.at ∷ words_of back = slice_split_at P (decimal e.at) 32 back (lacks e.at 32 fits.at (omega arith)) refl in
    let three : words_of back ≡ decimal e.len ∷ words_of (decimal e.priority) = slice_split_at P (decimal e.len) 32 (decimal e.priority) (lacks e.len 32 fits.len (omega arith)) refl in
    let four : words_of (decimal e.priority) ≡ decimal e.priority ∷ [] = slice_split_none P (decimal e.priority) (lacks e.priority 32 (omega (arith, fits.priority)) (omega arith)) in
    record {
      words = one ∙ ap (λ v. codes "extent" ∷ v) (two ∙ ap (λ v. decimal e.at ∷ v) (three ∙ ap (λ v. decimal e.len ∷ v) four));
      at = fits.at;
      len = fits.len;
      priority = omega (arith, fits.priority);
    }

body_no_session : (e : Extent) → is_session (body e) ≡ false
unfolding body
body_no_session e = refl

body_kept : (n : ℕ) (e : Extent) → kept_lines n (body e ∷ []) ≡ (n, body e) ∷ []
unfolding body
body_kept n e = refl

lines_of-written : (e : Extent) (es : List Extent) → FitsExtent e → lines_of (plan_text (e ∷ es)) ≡ body e ∷ lines_of (plan_text es)
lines_of-written e es fits = ap lines_of (body-line e (plan_text es)) ∙ slice_split_at (λ b. b == 10) (body e) 10 (plan_text es) (body_lacks e fits) refl

said_from : (n : ℕ) (es : List Extent) → AllByRecursion FitsExtent es → AreLinesOf (lines_from n (lines_of (plan_text es))) es
said_from n [] fits = tt
said_from n (e ∷ es) fits =
    let are : lines_from n (lines_of (plan_text (e ∷ es))) ≡ (n, body e) ∷ lines_from (n + 1) (lines_of (plan_text es)) =
    ap (lines_from n) (lines_of-written e es fits.0) ∙ lines_from-line n (body e) (lines_of (plan_text es)) (body_no_session e)
    ∙ ap (λ v. v ++ lines_from (n + 1) (lines_of (plan_text es))) (body_kept n e) in
    subst (λ v. AreLinesOf v (e ∷ es)) (sym are) (body_words e fits.0, said_from (n + 1) es fits.1)

fits_of : (size block : ℕ) (es : List Extent) → size < 2 ^ 64 → ((k : ℕ) (d : Extent) → k < length es → IsExtent size block (get_or es k d)) → AllByRecursion FitsExtent es
fits_of size block [] small each = tt
fits_of size block (e ∷ es) small each =
    let is = each 0 e (omega arith) in (
      record { at = omega (arith, is.inside, small); len = omega (arith, is.inside, small); priority = omega (arith, is.priority) },
      fits_of size block es small (λ k d below. each (suc k) d (omega (arith, below))),
    )

pub written_said : (size block : ℕ) (es : List Extent) → size < 2 ^ 64 → IsPlan size block es → AreLinesOf (numbered_lines (plan_text es)) es
written_said size block es small plan = said_from 1 es (fits_of size block es small plan.each)

-- a written plan is the text of its extents
pub written_text : (size block : ℕ) (text : List ℕ) (es : List Extent) → size < 2 ^ 64 → IsPlan size block es → text ≡ plan_text es → IsTextOf size block text es
written_text size block text es small plan is =
    record { lines = subst (λ t. AreLinesOf (numbered_lines t) es) (sym is) (written_said size block es small plan); plan = plan }
