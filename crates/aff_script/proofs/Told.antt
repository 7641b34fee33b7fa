-- What an answer says of a text: it is taken or refused exactly where it has to be.
use Rattle.std.proofs.Common.{◌≡◌, ◌≢◌, ℕ, ◌⊎◌, inl, inr, List, [], ◌∷◌, ◌++◌, refl, sym, ap, subst, ◌∙◌, arith, append_assoc}
use Rattle.std.specs.List.{AllZip}
use Rattle.std.proofs.lemmas.List.{append-nil}
use Rattle.std.proofs.lemmas.List.Elements.{All-nil}
use Rattle.aff_plan.specs.Text.{NumberedLine}
use Rattle.aff_script.specs.declared.error.ScriptError.{ScriptError}
use Rattle.aff_script.specs.declared.error.ScriptError.TheVariants.{Shape, Number, TooMany, PastEnd, TooLong, Memory}
use Rattle.aff_script.specs.declared.line.Said.{Said}
use Rattle.aff_script.specs.declared.script.Request.{Request}
use Rattle.aff_script.specs.Line.{IsLine}
use Rattle.aff_script.specs.Reading.{Adds, AreTaken, IsTaken}
use Rattle.aff_script.specs.Refused.{IsFirstWrong, IsScriptRefused, IsWrong}
use Rattle.aff_script.specs.Script.{AreLinesOf, IsScript, IsScriptText, IsSession, said_by, script_lines}
use Rattle.aff_script.proofs.Forms.{same_said}
use Rattle.aff_script.proofs.Lists.{Longer, cuts, pairs, zip_push}
use Rattle.aff_script.proofs.Sessions.{adds_said, adds_script, same_sessions, stands}
use Rattle.aff_script.proofs.Wrong.{same_wrong, taken_not_wrong}

abbrev Says : NumberedLine → Said → Type 0
Says line said = IsLine line.1 said

same_zip : (lines : List NumberedLine) (ss ts : List Said) → AllZip Says lines ss → AllZip Says lines ts → ss ≡ ts
same_zip [] [] [] p q = refl
same_zip [] [] (t ∷ ts) p q = absurd q
same_zip [] (s ∷ ss) ts p q = absurd p
same_zip (l ∷ lines) [] ts p q = absurd p
same_zip (l ∷ lines) (s ∷ ss) [] p q = absurd q
same_zip (l ∷ lines) (s ∷ ss) (t ∷ ts) p q =
    let first : s ≡ t = same_said l.1 s t p.0 q.0 in
    let rest : ss ≡ ts = same_zip lines ss ts p.1 q.1 in
    λ i. first i ∷ rest i

-- lines are those of one list of sessions
pub one_script : (lines : List NumberedLine) (ps qs : List (List Request)) → AreLinesOf lines ps → AreLinesOf lines qs → ps ≡ qs
one_script lines ps qs p q = same_sessions ps qs (same_zip lines (said_by ps) (said_by qs) p q)

module _ (size : ℕ) where
  -- in the lines of a script none is wrong behind those before it
  not_wrong : (before : List NumberedLine) (n : ℕ) (line : List ℕ) (after : List NumberedLine) (all sessions : List (List Request)) (e : ScriptError)
      → AreLinesOf (before ++ (n, line) ∷ after) all → IsScript size all → AreLinesOf before sessions → ¬ (IsWrong size n sessions line e)
  not_wrong before n line after all sessions e said script front wrong =
      let p = pairs Says before (n, line) after (said_by all) said in
      let s = stands size all p.front p.y p.back p.are script in
      let lines : AreLinesOf before s.earlier = subst (λ v. AllZip Says before v) s.front_is p.before_are in
      let same : s.earlier ≡ sessions = one_script before s.earlier sessions lines front in
      let taken : IsTaken size s.earlier line p.y = record { there = (p.at, s.may); room = s.room; short = s.short; inside = s.inside } in
      taken_not_wrong size n sessions line p.y e (subst (λ v. IsTaken size v line p.y) same taken) wrong

  not_first : (lines : List NumberedLine) (sessions : List (List Request)) (e : ScriptError) → AreLinesOf lines sessions → IsScript size sessions → ¬ (IsFirstWrong size lines e)
  not_first lines sessions e said script w =
      not_wrong w.before w.number w.line w.after sessions w.sessions e (subst (λ v. AreLinesOf v sessions) w.are said) script w.said w.wrong

  not_longer : (lines : List NumberedLine) (e f : ScriptError) (p : IsFirstWrong size lines e) (q : IsFirstWrong size lines f) → ¬ (Longer p.before (p.number, p.line) q.before)
  not_longer lines e f p q longer =
      not_wrong p.before p.number p.line longer.more q.sessions p.sessions e (subst (λ v. AreLinesOf v q.sessions) longer.is q.said) q.script p.said p.wrong

  -- lines are refused for one thing
  same_first : (lines : List NumberedLine) (e f : ScriptError) → IsFirstWrong size lines e → IsFirstWrong size lines f → e ≡ f
  same_first lines e f p q = elim (cuts p.before (p.number, p.line) p.after q.before (q.number, q.line) q.after (sym p.are ∙ q.are)) [
    | inl same ↦
        let said : AreLinesOf p.before q.sessions = subst (λ v. AreLinesOf v q.sessions) (sym same.0) q.said in
        let sessions : q.sessions ≡ p.sessions = one_script p.before q.sessions p.sessions said p.said in
        let number : q.number ≡ p.number = ap (λ (l : NumberedLine). l.0) (sym same.1) in
        let line : q.line ≡ p.line = ap (λ (l : NumberedLine). l.1) (sym same.1) in
        let one : IsWrong size q.number p.sessions q.line f = subst (λ v. IsWrong size q.number v q.line f) sessions q.wrong in
        let two : IsWrong size p.number p.sessions q.line f = subst (λ v. IsWrong size v p.sessions q.line f) number one in
        same_wrong size p.number p.sessions p.line e f p.wrong (subst (λ v. IsWrong size p.number p.sessions v f) line two)
    | inr more ↦ elim more [
      | inl longer ↦ absurd (not_longer lines e f p q longer)
      | inr longer ↦ absurd (not_longer lines f e q p longer)
    ]
  ]

  -- nothing was read yet
  pub taken_none : (lines : List NumberedLine) (sessions : List (List Request)) → sessions ≡ [] → AreTaken size lines lines sessions
  taken_none lines sessions none = subst (AreTaken size lines lines) (sym none) (record {
    before = [];
    are = refl;
    said = tt;
    script = record { few = omega arith; each = All-nil (IsSession size) };
  })

  -- one line more was read
  pub taken_more : (lines : List NumberedLine) (n : ℕ) (line : List ℕ) (after : List NumberedLine) (sessions : List (List Request)) (said : Said) (more : List (List Request))
      → AreTaken size lines ((n, line) ∷ after) sessions → IsTaken size sessions line said → Adds sessions said more → AreTaken size lines after more
  taken_more lines n line after sessions said more read taken adds = record {
    before = read.before ++ (n, line) ∷ [];
    are = read.are ∙ sym (append_assoc read.before ((n, line) ∷ []) after);
    said = subst (λ v. AllZip Says (read.before ++ (n, line) ∷ []) v) (sym (adds_said sessions said more adds))
        (zip_push Says read.before (said_by sessions) (n, line) said read.said taken.there.0);
    script = adds_script size sessions line said more read.script taken adds;
  }

  -- the next line is wrong
  pub wrong_next : (lines : List NumberedLine) (n : ℕ) (line : List ℕ) (after : List NumberedLine) (sessions : List (List Request)) (e : ScriptError)
      → AreTaken size lines ((n, line) ∷ after) sessions → IsWrong size n sessions line e → IsFirstWrong size lines e
  wrong_next lines n line after sessions e read wrong = record {
    before = read.before;
    number = n;
    line = line;
    after = after;
    are = read.are;
    sessions = sessions;
    said = read.said;
    script = read.script;
    wrong = wrong;
  }

  -- all lines were read
  pub all_taken : (first : ℕ) (text : List ℕ) (after : List NumberedLine) (sessions : List (List Request)) → AreTaken size (script_lines first text) after sessions → after ≡ [] → IsScriptText size first text sessions
  all_taken first text after sessions read end = record {
    lines = subst (λ v. AreLinesOf v sessions) (sym (read.are ∙ ap (λ v. read.before ++ v) end ∙ append-nil read.before)) read.said;
    script = read.script;
  }

  module _ (first : ℕ) (text : List ℕ) where
    -- a text that was taken
    pub same_script : (ps qs : List (List Request)) → IsScriptText size first text ps → IsScriptText size first text qs → ps ≡ qs
    same_script ps qs p q = one_script (script_lines first text) ps qs p.lines q.lines

    pub not_refused : (sessions : List (List Request)) (e : ScriptError) → IsScriptText size first text sessions → ¬ (IsScriptRefused size first text e)
    not_refused sessions e is = not_first (script_lines first text) sessions e is.lines is.script

    -- a text that was refused
    pub told_same : (e f : ScriptError) → IsScriptRefused size first text e → IsScriptRefused size first text f → e ≡ f
    told_same e f p q = same_first (script_lines first text) e f p q

pub is_memory : (e : ScriptError) → (e ≡ Memory) ⊎ (e ≢ Memory)
is_memory (Shape n) = inr (λ is. cc)
is_memory (Number n) = inr (λ is. cc)
is_memory (TooMany n) = inr (λ is. cc)
is_memory (PastEnd n) = inr (λ is. cc)
is_memory (TooLong n) = inr (λ is. cc)
is_memory Memory = inl refl

module _ (size first : ℕ) (text : List ℕ) where
  pub taken_unless : (e : ScriptError) (sessions : List (List Request)) → (e ≢ Memory → IsScriptRefused size first text e) → IsScriptText size first text sessions → e ≡ Memory
  taken_unless e sessions refused is = elim (is_memory e) [
    | inl memory ↦ memory
    | inr other ↦ absurd (not_refused size first text sessions e is (refused other))
  ]

  pub told_unless : (e f : ScriptError) → (e ≢ Memory → IsScriptRefused size first text e) → IsScriptRefused size first text f → (e ≡ f) ⊎ (e ≡ Memory)
  told_unless e f refused is = elim (is_memory e) [
    | inl memory ↦ inr memory
    | inr other ↦ inl (told_same size first text e f (refused other) is)
  ]
