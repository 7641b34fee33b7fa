-- How an answer and what is told of it are the outcome of a run.
use Rattle.std.proofs.Common.{◌≡◌, ◌⊎◌, ◌≤◌, ℕ, List, [], ◌∷◌, ◌++◌, length, get_or, map, refl, inl, inr, sym, subst, ap, ◌∙◌, arith}
use Rattle.std.specs.Prelude.{◌<◌, Bool, Contains, Option, Result, Ok, Err, slice_index_or}
use Rattle.std.specs.Arc.{arc_value}
use Rattle.std.specs.declared.vec.Vec.{Vec}
use Rattle.std.proofs.lemmas.List.{get_or-map, length-map}
use Rattle.std.proofs.lemmas.Simd.{map-map}
use Rattle.std.specs.Io.KnownBytes.{Appends, IsAtEnd}
use Rattle.aff_model.specs.Causes.{Rose}
use Rattle.aff_model.specs.Content.{Content}
use Rattle.aff_model.specs.Held.{Held}
use Rattle.aff_model.specs.History.{Published, publication_of}
use Rattle.aff_model.specs.Pieces.{published}
use Rattle.aff_model.specs.Plan.{Planned}
use Rattle.aff_image.specs.Asked.{Asked}
use Rattle.aff_command.specs.CommandLine.{uuid_of}
use Rattle.aff_examine.specs.Folds.{Rule}
use Rattle.aff_examine.specs.Histories.{HasExamined}
use Rattle.aff_run.specs.declared.ending.RunEnd.{RunEnd}
use Rattle.aff_run.specs.declared.ending.RunEnd.TheVariants as run
use Rattle.aff_run.specs.Ends.{HasFailed, IfDone, IsCutOff, IsLeftWhole, asked}
use Rattle.aff_run.specs.Ends.{Leaves as Left}
use Rattle.aff_run.specs.Examiners.{AreExamined}
use Rattle.aff_top.specs.Outcomes.{Request, Facts, Output, Leaves, memory, Writes, IsBegun, IsWrittenInPart, IsResult, HaveNotFallen, IsOccupied, IsPartlyDone, IsAccepted, IsTold, IsOutcome, IsUntouched, IsFaultOf, IsReady, IsDone, IsRun, IsToldAs, IsUnanswered, Says, Script, ShownExaminer, shown_examiner, status_at, code_of, line_of}
use Rattle.aff_top.specs.Texts.{IsRefusedFrom}
use Rattle.aff_top.specs.declared.fault.Fault.{Fault}
use Rattle.aff_top.specs.declared.fault.Fault.TheVariants.{Usage, Devices, Occupied, Source, Text, Folder, Damaged, Memory}

-- whatever the fault, memory may be refused when its line is to be written
or_memory : {F S D R : Type 0} (fault : Fault) (ask : Request R) (old new : Facts F S D) (line : List ℕ) → Leaves (status_at (code_of fault)) ask old new line → Leaves memory ask old new []
or_memory Usage ask old new line left = inl (λ t. ap (λ v. v.held) left.1)
or_memory (Devices refusal) ask old new line left = inl (λ t. ap (λ v. v.held) left.2)
or_memory Occupied ask old new line left = inl left.2.held
or_memory Source ask old new line left = inl left.2.held
or_memory (Text fault) ask old new line left = inl left.2.held
or_memory Folder ask old new line left = elim left.1 [
  | inl failed ↦ elim failed.1 [ inl still ↦ inl still.0.held | inr part ↦ inr (inl part.1) ]
  | inr peek ↦ inr (inr (inl peek.2))
]
or_memory (Damaged chunk recorded found) ask old new line left = inr (inr (inl left.1))
or_memory Memory ask old new line left = left

writes_line : (fault : Fault) (old new : Output) (t : List ℕ) → Appends old.written new.written t ⊎ IsWrittenInPart old new t → Writes (status_at (code_of fault)) old new t
writes_line Memory old new t told = elim told [ inl all ↦ inl all | inr cut ↦ inr (inl cut) ]
writes_line Usage old new t told = told
writes_line (Devices refusal) old new t told = told
writes_line Source old new t told = told
writes_line (Text fault) old new t told = told
writes_line Occupied old new t told = told
writes_line Folder old new t told = told
writes_line (Damaged chunk recorded found) old new t told = told

pub outcome_of : {A F S D R : Type 0} (r : Result (Vec ℕ A) Fault) (ask : Request R) (old new : Facts F S D) (before after : Output) (status : ℕ)
    → IsResult ask old new r → IsTold r before after status → IsOutcome ask old new before after status
outcome_of (Ok report) ask old new before after status answer told = elim told [
  | inl h ↦ subst (IsOutcome ask old new before after) (sym h.0) (record { report = report.items; leaves = answer.0; writes = h.1; later = answer.1 })
  | inr (inl h) ↦ subst (IsOutcome ask old new before after) (sym h.0) (record { report = report.items; leaves = answer.0; writes = h.1; later = answer.1 })
  | inr (inr h) ↦ subst (IsOutcome ask old new before after) (sym h.0) (record { report = []; leaves = inr (inr (inr (report.items, answer.0.1))); writes = inr (inr h.1); later = answer.1 })
]
outcome_of (Err fault) ask old new before after status answer told = elim told [
  | inl h ↦ subst (IsOutcome ask old new before after) (sym h.0) (record {
    report = line_of fault;
    leaves = answer.0;
    writes = subst (Writes (status_at (code_of fault)) before after) answer.1 (writes_line fault before after (line_of fault) h.1);
    later = answer.2;
  })
  | inr h ↦ subst (IsOutcome ask old new before after) (sym h.0) (record { report = []; leaves = or_memory fault ask old new (line_of fault) answer.0; writes = inr (inr h.1); later = answer.2 })
]

-- a count that rose later rose
pub rose_from : (a b c : ℕ) → a ≤ b → Rose b c → Rose a c
rose_from a b c later rose = omega (arith, later, rose)

-- the folder was not taken
pub folder_refused : {F S D R : Type 0} (ask : Request R) (old new : Facts F S D) (fault : Fault) → IsAccepted ask old → IsUntouched ask old new → new.source ≡ old.source → HaveNotFallen old new
    → (fault ≡ Folder → Rose old.folder_faults new.folder_faults) → (fault ≡ Occupied → IsOccupied ask old) → (fault ≡ Occupied) ⊎ ((fault ≡ Folder) ⊎ (fault ≡ Memory))
    → IsFaultOf fault ask old new
folder_refused ask old new fault taken still source later rose occupied which = elim which [
  | inl is ↦ subst (λ f. IsFaultOf f ask old new) (sym is) ((taken, occupied is, still, source), refl, later)
  | inr (inl is) ↦ subst (λ f. IsFaultOf f ask old new) (sym is) ((taken, inl (rose is, inl (still, source))), refl, later)
  | inr (inr is) ↦ subst (λ f. IsFaultOf f ask old new) (sym is) (inl still.held, refl, later)
]

-- no plan was read
pub plan_refused : {F S D R : Type 0} (ask : Request R) (old new : Facts F S D) (fault : Fault) (begun : IsBegun ask old) → IsUntouched ask old new → HaveNotFallen old new
    → (fault ≡ Source → Rose old.source_faults new.source_faults)
    → (fault ≡ Source) ⊎ ((fault ≡ Memory) ⊎ IsRefusedFrom begun.taken.devices.device.size begun.taken.devices.device.block old.left fault)
    → IsFaultOf fault ask old new
plan_refused ask old new fault begun still later rose which = elim which [
  | inl is ↦ subst (λ f. IsFaultOf f ask old new) (sym is) ((begun, rose is, still), refl, later)
  | inr (inl is) ↦ subst (λ f. IsFaultOf f ask old new) (sym is) (inl still.held, refl, later)
  | inr (inr refused) ↦ subst (λ f. IsFaultOf f ask old new) (sym refused.is)
      ((begun, record { fit = begun.taken.devices; fault = refused.why; says = refl; text = refused.refused }, still), refl, later)
]

-- examiners that went through a history did so as they are shown
module _ {E : Type 0} (rule : E → Rule) (text : E → List ℕ → List ℕ) (state : E → List ℕ) where
  abbrev pub shown : E → ShownExaminer
  shown e = shown_examiner (rule e) (text e) (state e)

  pub shown_examined : (case : Option Content) (tells : Bool) (plan : Planned) (history : List Published) (came went : List E) (findings : List (List ℕ)) → AreExamined case tells plan history rule text state came went findings
      → AreExamined case tells plan history (λ (e : ShownExaminer). e.rule) (λ e. e.text) (λ e. e.state) (map shown came) (map shown went) findings
  shown_examined case tells plan history came went findings all = record {
    count = omega (arith, all.count, length-map came shown, length-map went shown);
    each = λ k e below. at came refl k e (omega (arith, below, length-map came shown));
    findings_are = all.findings_are ∙ sym (map-map (λ (e : ShownExaminer). e.text e.state) shown went);
  }
    where
      at : (xs : List E) → xs ≡ came → (k : ℕ) (e : ShownExaminer) → k < length xs
          → HasExamined case tells plan history (get_or (map shown came) k e).rule (get_or (map shown came) k e).state (get_or (map shown went) k e).state
      at [] is k e below = absurd (omega (arith, below))
      at (x ∷ xs) is k e below =
          let there : k < length came = omega (arith, below, ap length is) in
          let back : k < length went = omega (arith, there, all.count) in
          subst (λ (a : ShownExaminer). HasExamined case tells plan history a.rule a.state (get_or (map shown went) k e).state) (sym (get_or-map shown came k x e there))
          (subst (λ (b : ShownExaminer). HasExamined case tells plan history (rule (get_or came k x)) (state (get_or came k x)) b.state) (sym (get_or-map shown went k x e back)) (all.each k x there))

-- what is said of a run, by what it left and how that is told
pub says_of : {A R E : Type 0} (rule : E → Rule) (text : E → List ℕ → List ℕ) (state : E → List ℕ) (came went : List E) (case : Option Content) (tells : Bool) (told : R → List ℕ) (ask : Asked) (script : Script) (held : Held) (folder peek : Type 0) (end : RunEnd R) (r : Result (Vec ℕ A) Fault)
    → Left case tells told ask script held folder peek end → IfDone end (λ a. AreExamined case tells ask.plan (map published a.pieces.items) rule text state came went (map (λ f. f.items) a.findings.items)) → IsToldAs ask.uuid ask.plan end r
    → Says case tells told ask script (map (shown rule text state) came) (map (shown rule text state) went) held folder peek r
says_of rule text state came went case tells told ask script held folder peek (run.Done a) (Ok written) left all is = record {
  history = map published a.pieces.items;
  sessions = map (λ s. s.items) a.sessions.items;
  findings = map (λ f. f.items) a.findings.items;
  hashes = a.hashes;
  acquired = left.0;
  pieces = map arc_value a.pieces.items;
  pieces_are = map-map publication_of arc_value a.pieces.items;
  answered = left.1;
  examined = shown_examined rule text state case tells ask.plan (map published a.pieces.items) came went (map (λ f. f.items) a.findings.items) all;
  is_report = is;
}
says_of {A} rule text state came went case tells told ask script held folder peek (run.Done a) (Err e) left all is =
    subst (λ f. Says {A = A} case tells told ask script (map (shown rule text state) came) (map (shown rule text state) went) held folder peek (Err f)) (sym is)
    (inr (inr (
      _,
      record {
        history = map published a.pieces.items;
        sessions = map (λ s. s.items) a.sessions.items;
        findings = map (λ f. f.items) a.findings.items;
        hashes = a.hashes;
        acquired = left.0;
        pieces = map arc_value a.pieces.items;
        pieces_are = map-map publication_of arc_value a.pieces.items;
        answered = left.1;
        examined = shown_examined rule text state case tells ask.plan (map published a.pieces.items) came went (map (λ f. f.items) a.findings.items) all;
        is_report = refl;
      },
    )))
says_of rule text state came went case tells told ask script held folder peek run.Failed (Ok written) left all is = absurd is
says_of {A} rule text state came went case tells told ask script held folder peek run.Failed (Err e) left all is =
    subst (λ f. Says {A = A} case tells told ask script (map (shown rule text state) came) (map (shown rule text state) went) held folder peek (Err f)) (sym is) left
says_of rule text state came went case tells told ask script held folder peek (run.Damaged chunk recorded found) (Ok written) left all is = absurd is
says_of {A} rule text state came went case tells told ask script held folder peek (run.Damaged chunk recorded found) (Err e) left all is =
    subst (λ f. Says {A = A} case tells told ask script (map (shown rule text state) came) (map (shown rule text state) went) held folder peek (Err f)) (sym is) left
says_of rule text state came went case tells told ask script held folder peek run.Memory (Ok written) left all is = absurd is
says_of {A} rule text state came went case tells told ask script held folder peek run.Memory (Err e) left all is =
    subst (λ f. Says {A = A} case tells told ask script (map (shown rule text state) came) (map (shown rule text state) went) held folder peek (Err f)) (sym is) (elim left [ inl cut ↦ inl cut | inr whole ↦ inr (inl whole) ])

contains_map : {X Y : Type 0} (f : X → Y) (xs : List X) (x : X) → Contains xs x → Contains (map f xs) (f x)
contains_map f xs x there = (there.0, omega (arith, there.1, length-map xs f), get_or-map f xs there.0 x (f x) there.1 ∙ ap f there.2)

-- a peek that failed, by the counts
pub counted : {P : Type 0} (faults : P → ℕ) (peeks : List P) → HasFailed faults peeks → HasFailed (λ (count : ℕ). count) (map (λ p. faults p) peeks)
counted faults peeks failed = record { peek = faults failed.peek; there = contains_map (λ p. faults p) peeks failed.peek failed.there; failed = failed.failed }

-- the answer of a run that could begin
module _ {F S D P R : Type 0} (ask : Request R) (old mid new : Facts F S D) (uuid : List ℕ) (plan : Planned) (script : Script) (workers looking : ℕ) (ready : IsReady ask old mid uuid plan script) (count : workers ≡ length old.devices) (lookers : looking ≡ length old.examiners)
    (left : new.left ≡ mid.left) (source : mid.source_faults ≤ new.source_faults) (folder : mid.folder_faults ≤ new.folder_faults)
    (faults : P → ℕ) (peeks : List P) (peeked : new.peeks ≡ map (λ p. faults p) peeks) where
  later : HaveNotFallen old new
  later = record { folder = omega (arith, ready.later.folder, folder); source = omega (arith, ready.later.source, source) }

  same : asked uuid plan workers looking ≡ asked (uuid_of ask.words) plan (length old.devices) (length old.examiners)
  same = λ i. asked (ready.named i) plan (count i) (lookers i)

  done : (report : List ℕ) → IsRun ask.case ask.tells ask.told (asked uuid plan workers looking) script old.examiners new.examiners new.held report → IsDone ask old new report
  done report run = record {
    plan = plan;
    script = script;
    planned = ready.planned;
    whole = subst IsAtEnd (sym left) ready.whole;
    run = subst (λ a. IsRun ask.case ask.tells ask.told a script old.examiners new.examiners new.held report) same run;
  }

  part : IsCutOff ask.case ask.tells (asked uuid plan workers looking) new.held → IsPartlyDone ask old new
  part cut = record { plan = plan; script = script; planned = ready.planned; cut_off = subst (λ a. IsCutOff ask.case ask.tells a new.held) same cut }

  unanswered : IsLeftWhole ask.case ask.tells (asked uuid plan workers looking) new.held → IsUnanswered ask old new
  unanswered whole = record { plan = plan; script = script; planned = ready.planned; left = subst (λ a. IsLeftWhole ask.case ask.tells a new.held) same whole }

  pub result_of : {A : Type 0} (r : Result (Vec ℕ A) Fault) → Says ask.case ask.tells ask.told (asked uuid plan workers looking) script old.examiners new.examiners new.held (Rose mid.folder_faults new.folder_faults) (HasFailed faults peeks) r → IsResult ask old new r
  result_of (Ok report) says = ((ready.begun, done (report.items) says), later)
  result_of (Err Folder) says = elim says [
    | inl cut ↦ ((ready.begun.taken, inl (rose_from _ _ _ ready.later.folder cut.0, inr (ready.begun, part cut.1))), refl, later)
    | inr whole ↦ ((ready.begun.taken, inr (ready.begun, subst (HasFailed (λ (count : ℕ). count)) (sym peeked) (counted faults peeks whole.0), unanswered whole.1)), refl, later)
  ]
  result_of (Err (Damaged chunk recorded found)) says =
      ((ready.begun, unanswered says.1, record { chunk = chunk; recorded = recorded; found = found; damage = says.0; says = refl }), refl, later)
  result_of (Err Memory) says = (
    elim says [
      | inl cut ↦ inr (inl (part cut))
      | inr rest ↦ elim rest [ inl whole ↦ inr (inr (inl (unanswered whole))) | inr all ↦ inr (inr (inr (all.0, done all.0 all.1))) ]
    ],
    refl,
    later,
  )
  result_of (Err Usage) says = absurd says
  result_of (Err (Devices why)) says = absurd says
  result_of (Err Occupied) says = absurd says
  result_of (Err Source) says = absurd says
  result_of (Err (Text why)) says = absurd says
