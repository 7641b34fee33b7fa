-- How an answer and what is told of it are the outcome of a command.
use Rattle.std.proofs.Common.{◌⊎◌, ℕ, List, refl, inl, inr, sym, subst}
use Rattle.std.specs.Prelude.{Bool, Result, Ok, Err, Vec}
use Rattle.std.specs.Io.KnownBytes.{Appends}
use Rattle.aff_offline.specs.Answered.{IsKept, ShownFolder}
use Rattle.aff_offline.specs.Faults.{code_of, line_of}
use Rattle.aff_offline.specs.Outcomes.{IsOfflineOutcome, IsResult, Writes, status_at}
use Rattle.aff_offline.specs.Written.{IsTold, IsWrittenInPart, ShownSink}
use Rattle.aff_offline.specs.declared.fault.Fault.{Fault}
use Rattle.aff_offline.specs.declared.fault.Fault.TheVariants.{Usage, Volume, Range, Damaged, Unsound, Folder, Memory}

-- a line, or a part of it, at the status of its fault
writes_line : (fault : Fault) (old new : ShownSink) (t : List ℕ) → Appends old.written new.written t ⊎ IsWrittenInPart old new t → Writes (status_at (code_of fault)) old new t
writes_line Memory old new t told = elim told [ inl all ↦ inl all | inr cut ↦ inr (inl cut) ]
writes_line Usage old new t told = told
writes_line (Volume e) old new t told = told
writes_line (Range why) old new t told = told
writes_line (Damaged chunk recorded found) old new t told = told
writes_line (Unsound finding) old new t told = told
writes_line Folder old new t told = told

-- what is told of it makes it the outcome
pub outcome_of : {A : Type 0} (words : List (List ℕ)) (tells : Bool) (old new : ShownFolder) (before after : ShownSink) (status : ℕ) (r : Result (Vec ℕ A) Fault) → IsResult words tells old new r
    → IsKept tells old new → IsTold r before after status → IsOfflineOutcome words tells old new before after status
outcome_of words tells old new before after status (Ok text) is kept told = elim told [
  | inl h ↦ subst (IsOfflineOutcome words tells old new before after) (sym h.0) (record { text = text.items; comes = is; writes = h.1; kept = kept })
  | inr (inl h) ↦ subst (IsOfflineOutcome words tells old new before after) (sym h.0) (record { text = text.items; comes = is; writes = h.1; kept = kept })
  | inr (inr h) ↦ subst (IsOfflineOutcome words tells old new before after) (sym h.0) (record { text = _; comes = refl; writes = inr (inr h.1); kept = kept })
]
outcome_of words tells old new before after status (Err fault) is kept told = elim told [
  | inl h ↦ subst (IsOfflineOutcome words tells old new before after) (sym h.0) (record { text = line_of fault; comes = is; writes = writes_line fault before after (line_of fault) h.1; kept = kept })
  | inr h ↦ subst (IsOfflineOutcome words tells old new before after) (sym h.0) (record { text = _; comes = refl; writes = inr (inr h.1); kept = kept })
]
