-- Where a script begins, as lines are cut off a text.
use Rattle.std.proofs.Common.{◌≡◌, ℕ, ◌+◌, ◌-◌, ◌<◌, ◌≤◌, ◌==◌, inl, inr, Bool, true, false, List, [], ◌∷◌, ◌++◌, length, drop, codes, refl, sym, ap, subst, ◌∙◌, arith, All, append_assoc, length-append}
use Rattle.std.specs.List.{flat_map, join_with_byte}
use Rattle.std.proofs.lemmas.List.{append-nil}
use Rattle.std.proofs.lemmas.List.Concat.{flat_map-append}
use Rattle.std.proofs.lemmas.List.Elements.{All-push}
use Rattle.std.proofs.lemmas.List.Splits.{join_with_byte-slice_split, length-slice_split}
use Rattle.std.proofs.lemmas.Slice.Eq.{bytes_eq-Decides}
use Rattle.aff_plan.specs.Text.{is_session}
use Rattle.aff_script.specs.Split.{AreNoSession, BeginsAt, BeginsNowhere, IsSplit, ended, last_count}
use Rattle.aff_spec.specs.Lines.{lines_of}

join_more : (line : List ℕ) (lines : List (List ℕ)) → 0 < length lines → join_with_byte 10 (line ∷ lines) ≡ line ++ 10 ∷ join_with_byte 10 lines
join_more line [] some = absurd (omega (arith, some))
join_more line (l ∷ lines) some = refl

-- a text whose first line is cut off
pub rest_is : (rest line others : List ℕ) → lines_of rest ≡ line ∷ lines_of others → rest ≡ line ++ 10 ∷ others
rest_is rest line others is =
    sym (join_with_byte-slice_split 10 rest) ∙ ap (join_with_byte 10) is
    ∙ join_more line (lines_of others) (omega (arith, length-slice_split (λ b. b == 10) others))
    ∙ ap (λ v. line ++ 10 ∷ v) (join_with_byte-slice_split 10 others)

-- a text of one line is that line
last_is : (rest line : List ℕ) → lines_of rest ≡ line ∷ [] → rest ≡ line
last_is rest line is = sym (join_with_byte-slice_split 10 rest) ∙ ap (join_with_byte 10) is

drop_front : (xs ys : List ℕ) → drop (length xs) (xs ++ ys) ≡ ys
drop_front [] ys = refl
drop_front (x ∷ xs) ys = drop_front xs ys

pub text_more : (text : List ℕ) (front : List (List ℕ)) (rest line others : List ℕ) → text ≡ ended front ++ rest → rest ≡ line ++ 10 ∷ others → text ≡ ended (front ++ line ∷ []) ++ others
text_more text front rest line others is cut =
    let one : ended front ++ (line ++ 10 ∷ []) ≡ ended (front ++ line ∷ []) =
    ap (λ v. ended front ++ v) (sym (append-nil (line ++ 10 ∷ []))) ∙ sym (flat_map-append (λ l. l ++ 10 ∷ []) front (line ∷ [])) in
    is ∙ ap (λ v. ended front ++ v) (cut ∙ sym (append_assoc line (10 ∷ []) others))
    ∙ sym (append_assoc (ended front) (line ++ 10 ∷ []) others) ∙ ap (λ v. v ++ others) one

pub lines_more : (lines front : List (List ℕ)) (rest others : List (List ℕ)) (line : List ℕ) → lines ≡ front ++ rest → rest ≡ line ∷ others → lines ≡ (front ++ line ∷ []) ++ others
lines_more lines front rest others line is cut = is ∙ ap (λ v. front ++ v) cut ∙ sym (append_assoc front (line ∷ []) others)

pub none_more : (front : List (List ℕ)) (line : List ℕ) → AreNoSession front → is_session line ≡ false → AreNoSession (front ++ line ∷ [])
none_more front line none other = All-push (λ l. is_session l ≡ false) front line none other

pub begins : (text rest line : List ℕ) (front others : List (List ℕ)) (offset number : ℕ) → text ≡ ended front ++ rest → lines_of text ≡ front ++ lines_of rest → AreNoSession front
    → lines_of rest ≡ line ∷ others → is_session line ≡ true → offset ≡ length text - length rest → number ≡ length front + 1 → IsSplit text offset number
begins text rest line front others offset number is lines none cut same at count =
    let session : line ≡ codes "session" = (bytes_eq-Decides line (codes "session")).0 same in
    let first : lines_of rest ≡ codes "session" ∷ others = cut ∙ ap (λ v. v ∷ others) session in
    let offset_is : offset ≡ length (ended front) = omega (arith, at, ap length is, length-append (ended front) rest) in
    let behind : drop offset text ≡ rest = (λ i. drop (offset_is i) (is i)) ∙ drop_front (ended front) rest in
    inl (record {
      front = front;
      others = others;
      lines = lines ∙ ap (λ v. front ++ v) first;
      none = none;
      offset_is = offset_is;
      number_is = count;
      script = ap lines_of behind ∙ first;
    })

pub nowhere : (text rest line : List ℕ) (front : List (List ℕ)) (number : ℕ) → lines_of text ≡ front ++ lines_of rest → AreNoSession front
    → lines_of rest ≡ line ∷ [] → is_session line ≡ false → number ≡ length front + last_count line + 1 → IsSplit text (length text) number
nowhere text rest line front number lines none cut other count =
    let whole : lines_of text ≡ front ++ line ∷ [] = lines ∙ ap (λ v. front ++ v) cut in
    inr (record {
      front = front;
      last = line;
      lines = whole;
      none = subst AreNoSession (sym whole) (none_more front line none other);
      offset_is = refl;
      number_is = count;
    })

some_count : (line : List ℕ) → 0 < length line → last_count line ≡ 1
some_count [] some = absurd (omega (arith, some))
some_count (b ∷ line) some = refl

-- the last line, where a byte of it is left
pub last_some : (rest line : List ℕ) → lines_of rest ≡ line ∷ [] → 0 < length rest → last_count line ≡ 1
last_some rest line is some = some_count line (omega (arith, some, ap length (last_is rest line is)))

-- where no byte is left
empty_lines : (rest : List ℕ) → length rest ≡ 0 → lines_of rest ≡ [] ∷ []
empty_lines [] none = refl
empty_lines (b ∷ rest) none = absurd (omega (arith, none))

pub nowhere_left : (text rest : List ℕ) (front : List (List ℕ)) (number : ℕ) → lines_of text ≡ front ++ lines_of rest → AreNoSession front → length rest ≡ 0 → number ≡ length front + 1
    → IsSplit text (length text) number
nowhere_left text rest front number lines none left count =
    nowhere text rest [] front number lines none (empty_lines rest left) refl (omega (arith, count))
