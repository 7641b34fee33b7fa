-- For what a script is refused.
use Rattle.std.specs.Prelude.{◌≡◌, ℕ, ◌+◌, ◌<◌, ◌≤◌, Bool, true, false, List, [], ◌∷◌, ◌++◌, length, ⊤, IsTrue}
use Rattle.std.specs.List.{list_any}
use Rattle.aff_model.specs.declared.limits.TheConstants.{MAX_READ, MAX_REQUESTS, MAX_SESSIONS}
use Rattle.aff_plan.specs.Text.{NumberedLine}
use Rattle.aff_script.specs.declared.error.ScriptError.{ScriptError}
use Rattle.aff_script.specs.declared.error.ScriptError.TheVariants.{Shape, Number, TooMany, PastEnd, TooLong, Memory}
use Rattle.aff_script.specs.declared.line.Form.{Form}
use Rattle.aff_script.specs.declared.line.Form.TheVariants as form
use Rattle.aff_script.specs.declared.line.Said.{Said}
use Rattle.aff_script.specs.declared.line.Said.TheVariants.{Begin, Ask}
use Rattle.aff_script.specs.declared.script.Request.{Request}
use Rattle.aff_script.specs.declared.script.Request.TheVariants as request
use Rattle.aff_script.specs.Line.{HasForm, IsLine, LacksNumber, form_of}
use Rattle.aff_script.specs.Script.{AreLinesOf, IsScript, script_lines}

-- the request is `after`
abbrev pub is_after : Request → Bool
is_after (request.Read at len) = false
is_after (request.Raise at len) = false
is_after (request.Await count) = false
is_after request.After = true

-- the session that began last has these requests
abbrev pub EndsWith : List (List Request) → List Request → Type 0
EndsWith sessions requests = (earlier : List (List Request)) × (sessions ≡ earlier ++ requests ∷ [])

-- a line of the form may stand behind these sessions: `session` always, `read` behind a `session`, and the others where
-- their session has no `after` yet
abbrev pub MayStand : List (List Request) → Form → Type 0
MayStand sessions form.Session = ⊤
MayStand sessions form.Read = (requests : List Request) × EndsWith sessions requests
MayStand sessions f = (requests : List Request) × EndsWith sessions requests × (list_any is_after requests ≡ false)

-- the line is of a form that may stand behind these sessions
abbrev pub HasPlace : List (List Request) → List ℕ → Type 0
HasPlace sessions line = (f : Form) × (a : List ℕ) × (b : List ℕ) × HasForm line f a b × MayStand sessions f

-- the line is of such a form, but a field of it is no number
abbrev pub LacksNumberThere : List (List Request) → List ℕ → Type 0
LacksNumberThere sessions line = (f : Form) × MayStand sessions f × LacksNumber line f

-- the line says this behind these sessions
abbrev pub SaysThere : List (List Request) → List ℕ → Said → Type 0
SaysThere sessions line said = IsLine line said × MayStand sessions (form_of said)

-- there are as many sessions as there may be, or the last one has as many requests
abbrev pub IsFull : List (List Request) → Said → Type 0
IsFull sessions Begin = MAX_SESSIONS ≤ length sessions
IsFull sessions (Ask r) = (requests : List Request) × EndsWith sessions requests × (MAX_REQUESTS ≤ length requests)

-- a read of more bytes than there may be
abbrev pub IsTooLong : Said → Type 0
IsTooLong (Ask (request.Read at len)) = MAX_READ < len
IsTooLong said = ⊥

-- a read or a raise that ends behind the device's end
abbrev pub IsPastEnd : ℕ → Said → Type 0
IsPastEnd size (Ask (request.Read at len)) = size < at + len
IsPastEnd size (Ask (request.Raise at len)) = size < at + len
IsPastEnd size said = ⊥

-- what is wrong with line n, behind these sessions: the first of five rules that it breaks
abbrev pub IsWrong : ℕ → ℕ → List (List Request) → List ℕ → ScriptError → Type 0
IsWrong size n sessions line (Shape m) = (m ≡ n) × (¬ (HasPlace sessions line))
IsWrong size n sessions line (Number m) = (m ≡ n) × LacksNumberThere sessions line
IsWrong size n sessions line (TooMany m) = (m ≡ n) × ((said : Said) × SaysThere sessions line said × IsFull sessions said)
IsWrong size n sessions line (TooLong m) =
    (m ≡ n) × ((said : Said) × SaysThere sessions line said × (¬ (IsFull sessions said)) × IsTooLong said)
IsWrong size n sessions line (PastEnd m) =
    (m ≡ n) × ((said : Said) × SaysThere sessions line said × (¬ (IsFull sessions said)) × (¬ (IsTooLong said)) × IsPastEnd size said)
IsWrong size n sessions line Memory = ⊥

-- the error is that of the first line that is wrong: all lines before it are those of a script's sessions
pub record IsFirstWrong (size : ℕ) (lines : List NumberedLine) (error : ScriptError) : Type 0 where
  pub before : List NumberedLine
  pub number : ℕ
  pub line : List ℕ
  pub after : List NumberedLine
  pub are : lines ≡ before ++ (number, line) ∷ after
  pub sessions : List (List Request)
  pub said : AreLinesOf before sessions
  pub script : IsScript size sessions
  pub wrong : IsWrong size number sessions line error

-- for what a text is refused, whose first line has this number
abbrev pub IsScriptRefused : ℕ → ℕ → List ℕ → ScriptError → Type 0
IsScriptRefused size first text error = IsFirstWrong size (script_lines first text) error
