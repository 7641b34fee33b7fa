-- How a run may end.
use Rattle.std.specs.Prelude.{◌≡◌, ◌⊎◌, ◌≤◌, ℕ, Bool, List, [], ◌++◌, map, IsTrue, length, take, codes, Option, Result, Ok, Err, IfSome, if◌then◌else◌, ◌==◌}
use Rattle.std.specs.declared.vec.Vec.{Vec}
use Rattle.std.specs.FinMap.{empty}
use Rattle.std.specs.Io.KnownBytes.{Appends, Keeps, IsAtEnd}
use Rattle.aff_model.specs.Causes.{Rose}
use Rattle.aff_model.specs.Content.{Content}
use Rattle.aff_model.specs.Held.{Held}
use Rattle.aff_model.specs.History.{Part, Published, publication_of}
use Rattle.aff_model.specs.Plan.{Planned, IsPlan}
use Rattle.aff_outside.specs.declared.folder.Folder.{Ghosts as FolderGhosts}
use Rattle.aff_outside.specs.declared.text.Source.{Ghosts as SourceGhosts}
use Rattle.aff_outside.specs.declared.text.Sink.{Ghosts as SinkGhosts}
use Rattle.aff_spec.specs.Report.{report_text}
use Rattle.aff_examine.specs.Folds.{Rule}
use Rattle.aff_report.specs.Damage.{damaged_line}
use Rattle.aff_report.specs.Examiners.{examiner_lines}
use Rattle.aff_report.specs.Sessions.{session_lines}
use Rattle.aff_script.specs.Answered.{Answered}
use Rattle.aff_script.specs.declared.script.Request as scripts
use Rattle.aff_script.specs.Script.{IsScript}
use Rattle.aff_image.specs.Asked.{Asked}
use Rattle.aff_finish.specs.HashLines.{hash_lines}
use Rattle.aff_finish.specs.declared.hashes.Hashes.{Hashes}
use Rattle.aff_model.specs.Pieces.{published}
use Rattle.aff_run.specs.declared.ending.RunEnd.{RunEnd}
use Rattle.aff_run.specs.declared.ending.RunEnd.TheVariants as run
use Rattle.aff_run.specs.Examiners.{AreExamined}
use Rattle.aff_run.specs.Ends.{AreAnsweredAll, HasFailed, IsAcquired, IsCutOff, IsDamage, IsLeftWhole, asked}
use Rattle.aff_command.specs.CommandLine.{AreAcquire, uuid_of}
use Rattle.aff_command.specs.Devices.{ShownDevice, IsFit}
use Rattle.aff_command.specs.Refusals.{AreRefused, refusal_line}
use Rattle.aff_command.specs.declared.devices.Refusal.{Refusal}
use Rattle.aff_top.specs.Texts.{IsRunText, IsTextRefused, text_line}
use Rattle.aff_top.specs.declared.fault.Fault.{Fault}
use Rattle.aff_top.specs.declared.fault.Fault.TheVariants.{Usage, Devices, Occupied, Source, Text, Folder, Damaged, Memory}
use Rattle.aff_top.specs.declared.fault.TextFault.{TextFault}

-- what is asked: the words, with what is told of the device's content, whether the folder tells what it holds, and what a
-- receipt of it then tells
pub record Request (R : Type 0) : Type 0 where
  pub words : List (List ℕ)
  pub case : Option Content
  pub tells : Bool
  pub told : R → List ℕ

-- the sessions of a script, each by its requests
abbrev pub Script : Type 0
Script = List (List scripts.Request)

abbrev pub request : {R : Type 0} → List (List ℕ) → Option Content → Bool → (R → List ℕ) → Request R
request words case tells told = record { words = words; case = case; tells = tells; told = told }

-- what an examiner shows at one time: its rule, its text, and its state
pub record ShownExaminer : Type 0 where
  pub rule : Rule
  pub text : List ℕ → List ℕ
  pub state : List ℕ

abbrev pub shown_examiner : Rule → (List ℕ → List ℕ) → List ℕ → ShownExaminer
shown_examiner rule text state = record { rule = rule; text = text; state = state }

-- what a run is handed, and what it shows at one time: the devices as they show and as they are, the examiners, the folder, the
-- source, and how often each peek that it made of the folder failed
pub record Facts (F S D : Type 0) : Type 0 where
  pub devices : List ShownDevice
  pub handed : D
  pub examiners : List ShownExaminer
  pub folder : F
  pub source : S
  pub held : Held
  pub folder_faults : ℕ
  pub left : Option (List ℕ)
  pub source_faults : ℕ
  pub peeks : List ℕ

abbrev pub facts : {F R P S D : Type 0} → FolderGhosts F R P → SourceGhosts S → List ShownDevice → D → List ShownExaminer → F → S → List ℕ → Facts F S D
facts f s devices handed examiners folder source peeks = record {
  devices = devices;
  handed = handed;
  examiners = examiners;
  folder = folder;
  source = source;
  held = f.held folder;
  folder_faults = f.folder_faults folder;
  left = s.left source;
  source_faults = s.source_faults source;
  peeks = peeks;
}

-- an acquisition is asked, from devices that are fit
pub record IsAccepted {F S D R : Type 0} (ask : Request R) (old : Facts F S D) : Type 0 where
  pub words : AreAcquire ask.words
  pub devices : IsFit old.devices

-- and into a folder that has no segment, where it tells
pub record IsBegun {F S D R : Type 0} (ask : Request R) (old : Facts F S D) : Type 0 where
  pub taken : IsAccepted ask old
  pub free : IsTrue ask.tells → old.held ≡ empty

-- the folder has a segment, where it tells
abbrev pub IsOccupied : {F S D R : Type 0} → Request R → Facts F S D → Type 0
IsOccupied ask old = IsTrue ask.tells → ¬ (old.held ≡ empty)

-- the devices are the same values, the examiners are as they were, and a folder that tells holds what it held
pub record IsUntouched {F S D R : Type 0} (ask : Request R) (old new : Facts F S D) : Type 0 where
  pub devices : new.devices ≡ old.devices
  pub handed : new.handed ≡ old.handed
  pub examiners : new.examiners ≡ old.examiners
  pub held : IsTrue ask.tells → new.held ≡ old.held

-- A plan was acquired by so many workers, a script was answered, and examiners that came in went out: the folder is the finished
-- volume of an image of the plan; each examiner's state is the fold of its rule over the image's history, from the state in which
-- it came in; and the report is that of the history, with what each session was answered, the text of each examiner's state, and
-- the hashes that the volume states. The answers are by pieces of that history: the bytes behind each digest have, chunk by chunk,
-- the digest that was recorded when the chunk was stored.
pub record IsRun (case : Option Content) (tells : Bool) {R : Type 0} (told : R → List ℕ) (ask : Asked) (script : Script) (came went : List ShownExaminer) (held : Held) (report : List ℕ) : Type 0 where
  pub history : List Published
  pub sessions : List (List Answered)
  pub findings : List (List ℕ)
  pub hashes : Hashes
  pub acquired : IsAcquired case tells ask script held history sessions hashes
  pub pieces : List (Part R)
  pub pieces_are : map publication_of pieces ≡ history
  pub answered : AreAnsweredAll ask.plan tells told pieces script sessions
  pub examined : AreExamined case tells ask.plan history (λ (e : ShownExaminer). e.rule) (λ e. e.text) (λ e. e.state) came went findings
  pub is_report : report ≡ report_text ask.uuid ask.plan.size (length ask.plan.extents) history ++ (session_lines 1 sessions ++ (examiner_lines 1 findings ++ hash_lines hashes))

-- the text was that of a plan and a script for the devices
pub record IsPlanned (devices : List ShownDevice) (left : Option (List ℕ)) (plan : Planned) (script : Script) : Type 0 where
  pub fit : IsFit devices
  pub size : plan.size ≡ fit.device.size
  pub block : plan.block ≡ fit.device.block
  pub is_plan : IsPlan plan.size plan.block plan.extents
  pub is_script : IsScript plan.size script
  pub is_text : IfSome left (IsRunText plan.size plan.block plan.extents script)

-- the run's plan was acquired, its script answered and its examiners shown all, with this report; the source was read to its end
pub record IsDone {F S D R : Type 0} (ask : Request R) (old new : Facts F S D) (report : List ℕ) : Type 0 where
  pub plan : Planned
  pub script : Script
  pub planned : IsPlanned old.devices old.left plan script
  pub whole : IsAtEnd new.left
  pub run : IsRun ask.case ask.tells ask.told (asked (uuid_of ask.words) plan (length old.devices) (length old.examiners)) script old.examiners new.examiners new.held report

-- the run's plan was not acquired whole
pub record IsPartlyDone {F S D R : Type 0} (ask : Request R) (old new : Facts F S D) : Type 0 where
  pub plan : Planned
  pub script : Script
  pub planned : IsPlanned old.devices old.left plan script
  pub cut_off : IsCutOff ask.case ask.tells (asked (uuid_of ask.words) plan (length old.devices) (length old.examiners)) new.held

-- the run's plan was acquired, the folder is its finished volume, and a session was not answered or an examiner not shown all
pub record IsUnanswered {F S D R : Type 0} (ask : Request R) (old new : Facts F S D) : Type 0 where
  pub plan : Planned
  pub script : Script
  pub planned : IsPlanned old.devices old.left plan script
  pub left : IsLeftWhole ask.case ask.tells (asked (uuid_of ask.words) plan (length old.devices) (length old.examiners)) new.held

-- the folder failed: before anything was made, or while the plan was acquired
abbrev pub HasFolderFailed : {F S D R : Type 0} → Request R → Facts F S D → Facts F S D → Type 0
HasFolderFailed ask old new = Rose old.folder_faults new.folder_faults × ((IsUntouched ask old new × (new.source ≡ old.source)) ⊎ (IsBegun ask old × IsPartlyDone ask old new))

-- a peek of the folder failed, and with it a session or an examiner
abbrev pub HasPeekFailed : {F S D R : Type 0} → Request R → Facts F S D → Facts F S D → Type 0
HasPeekFailed ask old new = IsBegun ask old × HasFailed (λ (count : ℕ). count) new.peeks × IsUnanswered ask old new

-- a chunk was found damaged, of which this is the line
pub record IsDamageLine (tells : Bool) (line : List ℕ) : Type 0 where
  pub chunk : ℕ
  pub recorded : List ℕ
  pub found : List ℕ
  pub damage : IsDamage tells recorded found
  pub says : line ≡ damaged_line chunk recorded found

-- the text is refused for the devices, by this line
pub record IsRefusedBy {F S D : Type 0} (old : Facts F S D) (line : List ℕ) : Type 0 where
  pub fit : IsFit old.devices
  pub fault : TextFault
  pub says : line ≡ text_line fault
  pub text : IfSome old.left (λ text. IsTextRefused fit.device.size fit.device.block text fault)

-- counts do not fall
pub record HaveNotFallen {F S D : Type 0} (old new : Facts F S D) : Type 0 where
  pub folder : old.folder_faults ≤ new.folder_faults
  pub source : old.source_faults ≤ new.source_faults

-- the statuses by their numbers
pub data Status : Type 0 where
  done : Status
  usage : Status
  text : Status
  source : Status
  sink : Status
  folder : Status
  memory : Status
  occupied : Status
  damaged : Status
  devices : Status
  other : Status

abbrev pub status_at : ℕ → Status
status_at n =
    if n == 0 then done
    else (if n == 2 then usage
    else (if n == 3 then text
    else (if n == 4 then source
    else (if n == 5 then sink
    else (if n == 6 then folder
    else (if n == 7 then memory
    else (if n == 8 then occupied
    else (if n == 9 then damaged
    else (if n == 10 then devices else other)))))))))

-- why each status comes, and what it leaves; at `done` and `sink` with this report, at `text`, `damaged` and `devices` with this line
abbrev pub Leaves : {F S D R : Type 0} → Status → Request R → Facts F S D → Facts F S D → List ℕ → Type 0
Leaves done ask old new report = IsBegun ask old × IsDone ask old new report
Leaves usage ask old new report = (¬ (AreAcquire ask.words)) × (new ≡ old)
Leaves text ask old new line = IsBegun ask old × IsRefusedBy old line × IsUntouched ask old new
Leaves source ask old new report = IsBegun ask old × Rose old.source_faults new.source_faults × IsUntouched ask old new
Leaves sink ask old new report = IsBegun ask old × IsDone ask old new report
Leaves folder ask old new report = IsAccepted ask old × (HasFolderFailed ask old new ⊎ HasPeekFailed ask old new)
Leaves memory ask old new report = (IsTrue ask.tells → new.held ≡ old.held) ⊎ (IsPartlyDone ask old new ⊎ (IsUnanswered ask old new ⊎ ((whole : List ℕ) × IsDone ask old new whole)))
Leaves occupied ask old new report = IsAccepted ask old × IsOccupied ask old × IsUntouched ask old new × (new.source ≡ old.source)
Leaves damaged ask old new line = IsBegun ask old × IsUnanswered ask old new × IsDamageLine ask.tells line
Leaves devices ask old new line = AreAcquire ask.words × ((why : Refusal) × AreRefused old.devices why × (line ≡ refusal_line why)) × (new ≡ old)
Leaves other ask old new report = ⊥

-- what is written at each status
abbrev pub text_of : Status → List ℕ → List ℕ
text_of done report = report
text_of usage report = codes "error usage\n"
text_of text line = line
text_of source report = codes "error source\n"
text_of sink report = report
text_of folder report = codes "error folder\n"
text_of memory report = codes "error memory\n"
text_of occupied report = codes "error occupied\n"
text_of damaged line = line
text_of devices line = line
text_of other report = []

-- what a sink shows at one time
pub record Output : Type 0 where
  pub written : Option (List ℕ)
  pub faults : ℕ

abbrev pub output : {K : Type 0} → SinkGhosts K → K → Output
output k s = record { written = k.written s; faults = k.sink_faults s }

-- the sink failed, and has a part of the text
pub record IsWrittenInPart (old new : Output) (text : List ℕ) : Type 0 where
  pub rose : Rose old.faults new.faults
  pub n : ℕ
  pub some : n ≤ length text
  pub part : Appends old.written new.written (take n text)

-- what the sink has at each status: the text whole, a part of it, or at `memory` perhaps nothing
abbrev pub Writes : Status → Output → Output → List ℕ → Type 0
Writes done old new bytes = Appends old.written new.written bytes
Writes sink old new bytes = IsWrittenInPart old new bytes
Writes memory old new bytes = Appends old.written new.written bytes ⊎ (IsWrittenInPart old new bytes ⊎ Keeps old.written new.written)
Writes _ old new bytes = Appends old.written new.written bytes ⊎ IsWrittenInPart old new bytes

-- how a run ends
pub record IsOutcome {F S D R : Type 0} (ask : Request R) (old new : Facts F S D) (before after : Output) (status : ℕ) : Type 0 where
  pub report : List ℕ
  pub leaves : Leaves (status_at status) ask old new report
  pub writes : Writes (status_at status) before after (text_of (status_at status) report)
  pub later : HaveNotFallen old new

-- the status of each fault, and its line
abbrev pub code_of : Fault → ℕ
code_of Usage = 2
code_of (Text fault) = 3
code_of Source = 4
code_of Folder = 6
code_of Memory = 7
code_of Occupied = 8
code_of (Damaged chunk recorded found) = 9
code_of (Devices refusal) = 10

abbrev pub line_of : Fault → List ℕ
line_of Usage = codes "error usage\n"
line_of (Text fault) = text_line fault
line_of Source = codes "error source\n"
line_of Folder = codes "error folder\n"
line_of Memory = codes "error memory\n"
line_of Occupied = codes "error occupied\n"
line_of (Damaged chunk recorded found) = damaged_line chunk recorded found
line_of (Devices refusal) = refusal_line refusal

-- what a fault leaves, and its line
abbrev pub IsFaultOf : {F S D R : Type 0} → Fault → Request R → Facts F S D → Facts F S D → Type 0
IsFaultOf fault ask old new =
    Leaves (status_at (code_of fault)) ask old new (line_of fault) × (line_of fault ≡ text_of (status_at (code_of fault)) (line_of fault)) × HaveNotFallen old new

-- the answer of an acquisition, before anything is written
abbrev pub IsResult : {A F S D R : Type 0} → Request R → Facts F S D → Facts F S D → Result (Vec ℕ A) Fault → Type 0
IsResult ask old new (Ok report) = Leaves done ask old new report.items × HaveNotFallen old new
IsResult ask old new (Err fault) = IsFaultOf fault ask old new

-- What is said of an acquisition: its report; that the folder failed and the run was cut off, or that a peek failed, that a chunk
-- was damaged or that there was no memory, and a session was not answered or an examiner not shown all; or that there was no
-- memory for what is done.
abbrev pub Says : {A R : Type 0} → Option Content → Bool → (R → List ℕ) → Asked → Script → List ShownExaminer → List ShownExaminer → Held → Type 0 → Type 0 → Result (Vec ℕ A) Fault → Type 0
Says case tells told run script came went held failed peeked (Ok report) = IsRun case tells told run script came went held report.items
Says case tells told run script came went held failed peeked (Err Folder) = (failed × IsCutOff case tells run held) ⊎ (peeked × IsLeftWhole case tells run held)
Says case tells told run script came went held failed peeked (Err (Damaged chunk recorded found)) = IsDamage tells recorded found × IsLeftWhole case tells run held
Says case tells told run script came went held failed peeked (Err Memory) = IsCutOff case tells run held ⊎ (IsLeftWhole case tells run held ⊎ ((whole : List ℕ) × IsRun case tells told run script came went held whole))
Says case tells told run script came went held failed peeked (Err fault) = ⊥

-- the end of a run is told: by the report of what was acquired, or by its fault; memory may be refused for the report
abbrev pub IsToldAs : {A R : Type 0} → List ℕ → Planned → RunEnd R → Result (Vec ℕ A) Fault → Type 0
IsToldAs uuid plan (run.Done a) (Ok written) =
    written.items ≡ report_text uuid plan.size (length plan.extents) (map published a.pieces.items)
    ++ (session_lines 1 (map (λ s. s.items) a.sessions.items) ++ (examiner_lines 1 (map (λ f. f.items) a.findings.items) ++ hash_lines a.hashes))
IsToldAs uuid plan (run.Done a) (Err fault) = fault ≡ Memory
IsToldAs uuid plan run.Failed (Ok written) = ⊥
IsToldAs uuid plan run.Failed (Err fault) = fault ≡ Folder
IsToldAs uuid plan (run.Damaged chunk recorded found) (Ok written) = ⊥
IsToldAs uuid plan (run.Damaged chunk recorded found) (Err fault) = fault ≡ Damaged chunk recorded found
IsToldAs uuid plan run.Memory (Ok written) = ⊥
IsToldAs uuid plan run.Memory (Err fault) = fault ≡ Memory

-- a run may begin: by the words and devices that were handed in, with this UUID, and with the plan and the script that all of the
-- source's text is; the folder is as it was
pub record IsReady {F S D R : Type 0} (ask : Request R) (old new : Facts F S D) (uuid : List ℕ) (plan : Planned) (script : Script) : Type 0 where
  pub begun : IsBegun ask old
  pub named : uuid ≡ uuid_of ask.words
  pub planned : IsPlanned old.devices old.left plan script
  pub whole : IsAtEnd new.left
  pub held : IsTrue ask.tells → new.held ≡ old.held
  pub later : HaveNotFallen old new

-- what is written of an answer, and with what status
abbrev pub IsTold : {A : Type 0} → Result (Vec ℕ A) Fault → Output → Output → ℕ → Type 0
IsTold (Ok report) old new status =
    ((status ≡ 0) × Appends old.written new.written (report.items))
    ⊎ (((status ≡ 5) × IsWrittenInPart old new (report.items)) ⊎ ((status ≡ 7) × Keeps old.written new.written))
IsTold (Err fault) old new status =
    ((status ≡ code_of fault) × (Appends old.written new.written (line_of fault) ⊎ IsWrittenInPart old new (line_of fault)))
    ⊎ ((status ≡ 7) × Keeps old.written new.written)
