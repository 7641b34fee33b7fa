-- A line is of one form, and says one thing.
use Rattle.std.proofs.Common.{◌≡◌, ◌≢◌, ℕ, ◌<◌, ◌^◌, ◌==◌, ◌⊎◌, inl, inr, Bool, true, List, [], ◌∷◌, length, refl, sym, ap, subst, ◌∙◌, arith, codes, cond}
use Rattle.std.specs.Prelude.{Option, None, Some, is_some}
use Rattle.std.specs.Borrow.{Bor}
use Rattle.std.specs.Fmt.{decimal}
use Rattle.std.specs.Str.{bytes_eq}
use Rattle.std.proofs.lemmas.Fmt.{decimal_injective, decimal_nonempty}
use Rattle.std.proofs.lemmas.List.Splits.{length-slice_split}
use Rattle.aff_plan.specs.Reading.{parts_behind}
use Rattle.aff_plan.specs.Line.{IsNoNumber, IsNumber, words_of}
use Rattle.aff_script.specs.declared.line.Form.{Form}
use Rattle.aff_script.specs.declared.line.Form.TheVariants as form
use Rattle.aff_script.specs.declared.line.Said.{Said}
use Rattle.aff_script.specs.declared.line.Said.TheVariants.{Begin, Ask}
use Rattle.aff_script.specs.declared.script.Request.{Request}
use Rattle.aff_script.specs.declared.script.Request.TheVariants as request
use Rattle.aff_script.specs.Line.{AreThere, Fits, HasForm, IsLine, LackNumber, LacksNumber, fields_of, form_of, numbers_of, word_of}

-- the form that a word is read as
abbrev named : List ℕ → Form
named word =
    cond (bytes_eq word (codes "session")) form.Session
    (cond (bytes_eq word (codes "read")) form.Read
    (cond (bytes_eq word (codes "raise")) form.Raise
    (cond (bytes_eq word (codes "await")) form.Await form.After)))

named-word : (f : Form) → named (word_of f) ≡ f
named-word form.Session = refl
named-word form.Read = refl
named-word form.Raise = refl
named-word form.Await = refl
named-word form.After = refl

-- a word is that of one form
pub same_form : (f g : Form) → word_of f ≡ word_of g → f ≡ g
same_form f g is = sym (named-word f) ∙ ap named is ∙ named-word g

some_number : (n : ℕ) → n < 2 ^ 64 → decimal n ≢ []
some_number n small none = absurd (omega (arith, decimal_nonempty n small, ap length none))

-- a line that says something is of its form, and its fields are numbers
record Fields (line : List ℕ) (said : Said) : Type 0 where
  a : List ℕ
  b : List ℕ
  has : HasForm line (form_of said) a b

fields_said : (line : List ℕ) (said : Said) → IsLine line said → Fields line said
fields_said line Begin is = record { a = []; b = []; has = record { words = is.words; there = tt } }
fields_said line (Ask (request.Read at len)) is = record {
  a = decimal at;
  b = decimal len;
  has = record { words = is.words; there = (some_number at is.fits.0, some_number len is.fits.1) };
}
fields_said line (Ask (request.Raise at len)) is = record {
  a = decimal at;
  b = decimal len;
  has = record { words = is.words; there = (some_number at is.fits.0, some_number len is.fits.1) };
}
fields_said line (Ask (request.Await count)) is = record {
  a = decimal count;
  b = [];
  has = record { words = is.words; there = some_number count is.fits };
}
fields_said line (Ask request.After) is = record { a = []; b = []; has = record { words = is.words; there = tt } }

pub has_form : (line : List ℕ) (said : Said) → IsLine line said → (a : List ℕ) × (b : List ℕ) × HasForm line (form_of said) a b
has_form line said is = let f = fields_said line said is in (f.a, f.b, f.has)

no_lack : (said : Said) (a b : List ℕ) → fields_of (form_of said) a b ≡ numbers_of said → Fits said → ¬ (LackNumber (form_of said) a b)
no_lack Begin a b is fits lack = lack
no_lack (Ask (request.Read at len)) a b is fits lack =
    let first : a ≡ decimal at = cc is in
    let second : b ≡ decimal len = cc is in
    elim lack [
      | inl none ↦ none at (fits.0, first)
      | inr none ↦ none len (fits.1, second)
    ]
no_lack (Ask (request.Raise at len)) a b is fits lack =
    let first : a ≡ decimal at = cc is in
    let second : b ≡ decimal len = cc is in
    elim lack [
      | inl none ↦ none at (fits.0, first)
      | inr none ↦ none len (fits.1, second)
    ]
no_lack (Ask (request.Await count)) a b is fits lack =
    let first : a ≡ decimal count = cc is in
    lack count (fits, first)
no_lack (Ask request.After) a b is fits lack = lack

-- a line that says something lacks no number
pub says_no_lack : (line : List ℕ) (said : Said) (f : Form) → IsLine line said → ¬ (LacksNumber line f)
says_no_lack line said f is (a, b, has, lack) =
    let word : word_of f ≡ word_of (form_of said) = cc (has.words, is.words) in
    let fields : fields_of f a b ≡ numbers_of said = cc (has.words, is.words) in
    let same : f ≡ form_of said = same_form f (form_of said) word in
    no_lack said a b (subst (λ g. fields_of g a b ≡ numbers_of said) same fields) is.fits (subst (λ g. LackNumber g a b) same lack)

-- of two forms that a line is of
pub one_form : (line : List ℕ) (f g : Form) (a b c d : List ℕ) → HasForm line f a b → HasForm line g c d → f ≡ g
one_form line f g a b c d p q =
    let word : word_of f ≡ word_of g = cc (p.words, q.words) in
    same_form f g word

same_range : (at len from count : ℕ) → decimal at ∷ decimal len ∷ [] ≡ decimal from ∷ decimal count ∷ [] → (at < 2 ^ 64) × (len < 2 ^ 64) → (from < 2 ^ 64) × (count < 2 ^ 64) → (at ≡ from) × (len ≡ count)
same_range at len from count is p q =
    let first : decimal at ≡ decimal from = cc is in
    let second : decimal len ≡ decimal count = cc is in
    (decimal_injective at from p.0 q.0 first, decimal_injective len count p.1 q.1 second)

same_numbers : (s t : Said) → form_of s ≡ form_of t → numbers_of s ≡ numbers_of t → Fits s → Fits t → s ≡ t
same_numbers Begin Begin f is p q = refl
same_numbers Begin (Ask (request.Read at len)) f is p q = absurd (cc f)
same_numbers Begin (Ask (request.Raise at len)) f is p q = absurd (cc f)
same_numbers Begin (Ask (request.Await count)) f is p q = absurd (cc f)
same_numbers Begin (Ask request.After) f is p q = absurd (cc f)
same_numbers (Ask (request.Read at len)) Begin f is p q = absurd (cc f)
same_numbers (Ask (request.Read at len)) (Ask (request.Read from count)) f is p q =
    let same = same_range at len from count is p q in
    λ i. Ask (request.Read (same.0 i) (same.1 i))
same_numbers (Ask (request.Read at len)) (Ask (request.Raise from count)) f is p q = absurd (cc f)
same_numbers (Ask (request.Read at len)) (Ask (request.Await count)) f is p q = absurd (cc f)
same_numbers (Ask (request.Read at len)) (Ask request.After) f is p q = absurd (cc f)
same_numbers (Ask (request.Raise at len)) Begin f is p q = absurd (cc f)
same_numbers (Ask (request.Raise at len)) (Ask (request.Read from count)) f is p q = absurd (cc f)
same_numbers (Ask (request.Raise at len)) (Ask (request.Raise from count)) f is p q =
    let same = same_range at len from count is p q in
    λ i. Ask (request.Raise (same.0 i) (same.1 i))
same_numbers (Ask (request.Raise at len)) (Ask (request.Await count)) f is p q = absurd (cc f)
same_numbers (Ask (request.Raise at len)) (Ask request.After) f is p q = absurd (cc f)
same_numbers (Ask (request.Await n)) Begin f is p q = absurd (cc f)
same_numbers (Ask (request.Await n)) (Ask (request.Read from count)) f is p q = absurd (cc f)
same_numbers (Ask (request.Await n)) (Ask (request.Raise from count)) f is p q = absurd (cc f)
same_numbers (Ask (request.Await n)) (Ask (request.Await m)) f is p q =
    let first : decimal n ≡ decimal m = cc is in
    ap (λ v. Ask (request.Await v)) (decimal_injective n m p q first)
same_numbers (Ask (request.Await n)) (Ask request.After) f is p q = absurd (cc f)
same_numbers (Ask request.After) Begin f is p q = absurd (cc f)
same_numbers (Ask request.After) (Ask (request.Read from count)) f is p q = absurd (cc f)
same_numbers (Ask request.After) (Ask (request.Raise from count)) f is p q = absurd (cc f)
same_numbers (Ask request.After) (Ask (request.Await count)) f is p q = absurd (cc f)
same_numbers (Ask request.After) (Ask request.After) f is p q = refl

-- a line says one thing
pub same_said : (line : List ℕ) (s t : Said) → IsLine line s → IsLine line t → s ≡ t
same_said line s t p q =
    let word : word_of (form_of s) ≡ word_of (form_of t) = cc (p.words, q.words) in
    let numbers : numbers_of s ≡ numbers_of t = cc (p.words, q.words) in
    same_numbers s t (same_form (form_of s) (form_of t) word) numbers p.fits q.fits

-- a line of a form whose fields are these numbers says them
pub line_said : (line : List ℕ) (f : Form) (a b : List ℕ) (said : Said) → HasForm line f a b → f ≡ form_of said → fields_of f a b ≡ numbers_of said → Fits said → IsLine line said
line_said line f a b said has is numbers fits =
    record { words = has.words ∙ (λ i. word_of (is i) ∷ numbers i); fits = fits }

-- one field is not several
pub more_fields : (more : Option (Bor (List ℕ))) → is_some more ≡ true → (xs : List (List ℕ)) (field a : List ℕ) → xs ≡ field ∷ parts_behind 32 more → xs ≢ a ∷ []
more_fields None some xs field a are one = absurd (cc some)
more_fields (Some rest) some xs field a are one = absurd (omega (arith, ap length are, ap length one, length-slice_split (λ b. b == 32) rest.now))

-- where a word is followed by something there is a field
pub some_field : (all : Option (Bor (List ℕ))) (rest : Bor (List ℕ)) (fields : List (List ℕ)) → all ≡ Some rest → fields ≡ [] → parts_behind 32 all ≢ fields
some_field all rest fields is none are =
    let parts : parts_behind 32 (Some rest) ≡ [] = ap (parts_behind 32) (sym is) ∙ are ∙ none in
    absurd (omega (arith, ap length parts, length-slice_split (λ b. b == 32) rest.now))
