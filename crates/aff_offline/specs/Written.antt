-- What a command writes.
use Rattle.std.specs.Prelude.{◌≡◌, ◌⊎◌, ◌≤◌, ℕ, List, length, take, Option, Result, Ok, Err, Vec}
use Rattle.std.specs.Io.KnownBytes.{Appends, Keeps}
use Rattle.aff_model.specs.Causes.{Rose}
use Rattle.aff_outside.specs.declared.text.Sink.{Ghosts as SinkGhosts}
use Rattle.aff_offline.specs.Faults.{code_of, line_of}
use Rattle.aff_offline.specs.declared.fault.Fault.{Fault}

-- what a sink shows at one time
pub record ShownSink : Type 0 where
  pub written : Option (List ℕ)
  pub faults : ℕ

abbrev pub shown_sink : {K : Type 0} → SinkGhosts K → K → ShownSink
shown_sink k s = record { written = k.written s; faults = k.sink_faults s }

-- the sink failed, and has a part of the text, from its front
pub record IsWrittenInPart (old new : ShownSink) (text : List ℕ) : Type 0 where
  pub rose : Rose old.faults new.faults
  pub n : ℕ
  pub some : n ≤ length text
  pub part : Appends old.written new.written (take n text)

-- what is written of an answer, and with what status
abbrev pub IsTold : {A : Type 0} → Result (Vec ℕ A) Fault → ShownSink → ShownSink → ℕ → Type 0
IsTold (Ok answer) old new status =
    ((status ≡ 0) × Appends old.written new.written answer.items)
    ⊎ (((status ≡ 5) × IsWrittenInPart old new answer.items) ⊎ ((status ≡ 7) × Keeps old.written new.written))
IsTold (Err fault) old new status =
    ((status ≡ code_of fault) × (Appends old.written new.written (line_of fault) ⊎ IsWrittenInPart old new (line_of fault)))
    ⊎ ((status ≡ 7) × Keeps old.written new.written)
