-- What may be asked in a script.
use Rattle.std.specs.Prelude.{ℕ, ◌+◌, ◌≤◌, Bool, true, false, List, [], ◌∷◌, length, map, All, ⊤}
use Rattle.std.specs.List.{AllByRecursion, AllZip, flat_map}
use Rattle.aff_model.specs.declared.limits.TheConstants.{MAX_READ, MAX_REQUESTS, MAX_SESSIONS}
use Rattle.aff_plan.specs.Text.{NumberedLine, kept_lines}
use Rattle.aff_script.specs.declared.line.Said.{Said}
use Rattle.aff_script.specs.declared.line.Said.TheVariants.{Begin, Ask}
use Rattle.aff_script.specs.declared.script.Request.{Request}
use Rattle.aff_script.specs.declared.script.Request.TheVariants.{Read, Raise, Await, After}
use Rattle.aff_script.specs.Line.{IsLine}
use Rattle.aff_spec.specs.Lines.{lines_of}

-- a request that may be asked of a device of this size
abbrev pub IsRequest : ℕ → Request → Type 0
IsRequest size (Read at len) = (len ≤ MAX_READ) × (at + len ≤ size)
IsRequest size (Raise at len) = at + len ≤ size
IsRequest size (Await count) = ⊤
IsRequest size After = ⊤

-- the request is a read
abbrev pub IsRead : Request → Type 0
IsRead (Read at len) = ⊤
IsRead (Raise at len) = ⊥
IsRead (Await count) = ⊥
IsRead After = ⊥

-- behind `after` there are only reads
abbrev pub EndsInReads : List Request → Type 0
EndsInReads [] = ⊤
EndsInReads (Read at len ∷ requests) = EndsInReads requests
EndsInReads (Raise at len ∷ requests) = EndsInReads requests
EndsInReads (Await count ∷ requests) = EndsInReads requests
EndsInReads (After ∷ requests) = AllByRecursion IsRead requests

-- the requests of a session
pub record IsSession (size : ℕ) (requests : List Request) : Type 0 where
  pub few : length requests ≤ MAX_REQUESTS
  pub each : All (IsRequest size) requests
  pub after : EndsInReads requests

-- the sessions of a script for a device of this size
pub record IsScript (size : ℕ) (sessions : List (List Request)) : Type 0 where
  pub few : length sessions ≤ MAX_SESSIONS
  pub each : All (IsSession size) sessions

-- what the lines of some sessions say: each session begins, and then come its requests
abbrev pub said_by : List (List Request) → List Said
said_by sessions = flat_map (λ requests. Begin ∷ map Ask requests) sessions

-- the lines are those of the sessions, one by one
abbrev pub AreLinesOf : List NumberedLine → List (List Request) → Type 0
AreLinesOf lines sessions = AllZip (λ (line : NumberedLine) (said : Said). IsLine line.1 said) lines (said_by sessions)

-- the lines of a script that are not skipped, by their numbers, where the first one of all has this number
abbrev pub script_lines : ℕ → List ℕ → List NumberedLine
script_lines first text = kept_lines first (lines_of text)

-- the text is that of the sessions, and they are a script
pub record IsScriptText (size first : ℕ) (text : List ℕ) (sessions : List (List Request)) : Type 0 where
  pub lines : AreLinesOf (script_lines first text) sessions
  pub script : IsScript size sessions
