-- What a session is answered.
use Rattle.std.specs.Prelude.{◌≡◌, ℕ, ◌+◌, ◌≤◌, Bool, List, [], ◌∷◌, length, take, map, replicate, All, Option, IfSome, IsTrue}
use Rattle.std.specs.List.{AllZip, range_with_len}
use Rattle.sha2.specs.Sha256.{sha256}
use Rattle.aff_model.specs.declared.cell.Kind.{Kind}
use Rattle.aff_model.specs.declared.cell.Kind.TheVariants.{Known, Unreadable, Unknown}
use Rattle.aff_model.specs.declared.cell.Run.{Run}
use Rattle.aff_model.specs.Content.{Content}
use Rattle.aff_model.specs.History.{Published}
use Rattle.aff_model.specs.Kinds.{IsAnswer}
use Rattle.aff_model.specs.Plan.{Planned}
use Rattle.aff_script.specs.Answered.{Answered}
use Rattle.aff_script.specs.declared.answer.RunLine.{RunLine}
use Rattle.aff_script.specs.declared.script.Request.{Request}
use Rattle.aff_script.specs.declared.script.Request.TheVariants.{Read, Raise, Await, After}

-- a run of an answer without its offset and its digest
abbrev pub run_of : RunLine → Run
run_of l = record { len = l.len; kind = l.kind }

-- runs one behind the other, from an offset on
abbrev pub AreInRow : ℕ → List RunLine → Type 0
AreInRow at [] = Unit {0}
AreInRow at (l ∷ lines) = (l.at ≡ at) × AreInRow (at + l.len) lines

-- the digest of a run: that of its bytes where they are known, else 32 zeros
abbrev pub IsSumOf : List ℕ → Kind → List ℕ → Type 0
IsSumOf bytes Known sum = sum ≡ sha256 bytes
IsSumOf bytes Unreadable sum = sum ≡ replicate 32 0
IsSumOf bytes Unknown sum = sum ≡ replicate 32 0

-- the bytes of a range of a device
abbrev pub content_bytes : Content → ℕ → ℕ → List ℕ
content_bytes c at len = map c.byte (range_with_len at len)

-- The answer to a read of a range, by a history: the greatest runs of one kind after its first `front` publications, one behind
-- the other, each with the digest of bytes: of the device's, where the folder tells and what the devices hold is told.
pub record IsAnswered (case : Option Content) (tells : Bool) (plan : Planned) (history : List Published) (at len : ℕ) (a : Answered) : Type 0 where
  pub at_is : a.at ≡ at
  pub len_is : a.len ≡ len
  pub front : a.front ≤ length history
  pub runs : IsAnswer plan.extents (take a.front history) at len (map run_of a.runs)
  pub in_row : AreInRow at a.runs
  pub sums : All (λ l. (bytes : List ℕ) × IsSumOf bytes l.kind l.sha256) a.runs
  pub told : IsTrue tells → IfSome case (λ c. All (λ l. IsSumOf (content_bytes c l.at l.len) l.kind l.sha256) a.runs)

-- The answers of a session, by what an answer to a range is: one for each read, in order; each was answered by at least as much
-- as the one before, and behind `after` by the whole.
abbrev pub AreAnswers : (ℕ → ℕ → Answered → Type 0) → ℕ → ℕ → List Request → List Answered → Type 0
AreAnswers Is whole seen [] [] = Unit {0}
AreAnswers Is whole seen [] (a ∷ answers) = ⊥
AreAnswers Is whole seen (Read at len ∷ requests) [] = ⊥
AreAnswers Is whole seen (Read at len ∷ requests) (a ∷ answers) = Is at len a × (seen ≤ a.front) × AreAnswers Is whole a.front requests answers
AreAnswers Is whole seen (Raise at len ∷ requests) answers = AreAnswers Is whole seen requests answers
AreAnswers Is whole seen (Await count ∷ requests) answers = AreAnswers Is whole seen requests answers
AreAnswers Is whole seen (After ∷ requests) answers = AreAnswers Is whole whole requests answers

-- the answers of a session by a history
abbrev pub AreAnswered : Option Content → Bool → Planned → List Published → List Request → List Answered → Type 0
AreAnswered case tells plan history requests answers = AreAnswers (IsAnswered case tells plan history) (length history) 0 requests answers

-- each session of a script has its answers, by a history
abbrev pub AreSessions : Option Content → Bool → Planned → List Published → List (List Request) → List (List Answered) → Type 0
AreSessions case tells plan history script sessions = AllZip (AreAnswered case tells plan history) script sessions

-- the requests before `after`, which are asked while the image grows, and those behind it
abbrev pub live_of : List Request → List Request
live_of [] = []
live_of (Read at len ∷ requests) = Read at len ∷ live_of requests
live_of (Raise at len ∷ requests) = Raise at len ∷ live_of requests
live_of (Await count ∷ requests) = Await count ∷ live_of requests
live_of (After ∷ requests) = []

abbrev pub late_of : List Request → List Request
late_of [] = []
late_of (Read at len ∷ requests) = late_of requests
late_of (Raise at len ∷ requests) = late_of requests
late_of (Await count ∷ requests) = late_of requests
late_of (After ∷ requests) = requests
