-- A line of a script, by itself: one of five forms.
use Rattle.std.specs.Prelude.{◌≡◌, ◌≢◌, ℕ, ◌<◌, ◌^◌, ◌⊎◌, List, [], ◌∷◌, ⊤, codes}
use Rattle.std.specs.Fmt.{decimal}
use Rattle.aff_plan.specs.Line.{IsNoNumber, words_of}
use Rattle.aff_script.specs.declared.line.Form.{Form}
use Rattle.aff_script.specs.declared.line.Form.TheVariants as form
use Rattle.aff_script.specs.declared.line.Said.{Said}
use Rattle.aff_script.specs.declared.line.Said.TheVariants.{Begin, Ask}
use Rattle.aff_script.specs.declared.script.Request.{Request}
use Rattle.aff_script.specs.declared.script.Request.TheVariants as request

-- the first word of each form
abbrev pub word_of : Form → List ℕ
word_of form.Session = codes "session"
word_of form.Read = codes "read"
word_of form.Raise = codes "raise"
word_of form.Await = codes "await"
word_of form.After = codes "after"

-- the fields of each form: two, one or none of these
abbrev pub fields_of : Form → List ℕ → List ℕ → List (List ℕ)
fields_of form.Session a b = []
fields_of form.Read a b = a ∷ b ∷ []
fields_of form.Raise a b = a ∷ b ∷ []
fields_of form.Await a b = a ∷ []
fields_of form.After a b = []

-- no field of the form is empty
abbrev pub AreThere : Form → List ℕ → List ℕ → Type 0
AreThere form.Session a b = ⊤
AreThere form.Read a b = (a ≢ []) × (b ≢ [])
AreThere form.Raise a b = (a ≢ []) × (b ≢ [])
AreThere form.Await a b = a ≢ []
AreThere form.After a b = ⊤

-- the line is of a form: its first word and its fields, with one space between two words and no other space
pub record HasForm (line : List ℕ) (f : Form) (a b : List ℕ) : Type 0 where
  pub words : words_of line ≡ word_of f ∷ fields_of f a b
  pub there : AreThere f a b

-- a field of the form is no number of 64 bits
abbrev pub LackNumber : Form → List ℕ → List ℕ → Type 0
LackNumber form.Session a b = ⊥
LackNumber form.Read a b = IsNoNumber a ⊎ IsNoNumber b
LackNumber form.Raise a b = IsNoNumber a ⊎ IsNoNumber b
LackNumber form.Await a b = IsNoNumber a
LackNumber form.After a b = ⊥

-- the line is of a form, but a field of it is no number
abbrev pub LacksNumber : List ℕ → Form → Type 0
LacksNumber line f = (a : List ℕ) × (b : List ℕ) × HasForm line f a b × LackNumber f a b

-- the form of what a line says
abbrev pub form_of : Said → Form
form_of Begin = form.Session
form_of (Ask (request.Read at len)) = form.Read
form_of (Ask (request.Raise at len)) = form.Raise
form_of (Ask (request.Await count)) = form.Await
form_of (Ask request.After) = form.After

-- the numbers that a line says, in decimal and without leading zeros
abbrev pub numbers_of : Said → List (List ℕ)
numbers_of Begin = []
numbers_of (Ask (request.Read at len)) = decimal at ∷ decimal len ∷ []
numbers_of (Ask (request.Raise at len)) = decimal at ∷ decimal len ∷ []
numbers_of (Ask (request.Await count)) = decimal count ∷ []
numbers_of (Ask request.After) = []

-- they have 64 bits
abbrev pub Fits : Said → Type 0
Fits Begin = ⊤
Fits (Ask (request.Read at len)) = (at < 2 ^ 64) × (len < 2 ^ 64)
Fits (Ask (request.Raise at len)) = (at < 2 ^ 64) × (len < 2 ^ 64)
Fits (Ask (request.Await count)) = count < 2 ^ 64
Fits (Ask request.After) = ⊤

-- the line says this: the first word of its form, and its numbers
pub record IsLine (line : List ℕ) (said : Said) : Type 0 where
  pub words : words_of line ≡ word_of (form_of said) ∷ numbers_of said
  pub fits : Fits said
