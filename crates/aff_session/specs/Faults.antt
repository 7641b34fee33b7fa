-- Why a session is not answered.
use Rattle.std.specs.Prelude.{◌≡◌, ℕ, Bool, List}
use Rattle.aff_model.specs.History.{Part}
use Rattle.aff_model.specs.Plan.{Planned}
use Rattle.aff_analyst.specs.Faults.{IsDamaged}
use Rattle.aff_analyst.specs.declared.error.ReadError.{ReadError}
use Rattle.aff_analyst.specs.declared.error.ReadError.TheVariants as error
use Rattle.aff_session.specs.declared.fault.SessionFault.{SessionFault}
use Rattle.aff_session.specs.declared.fault.SessionFault.TheVariants.{Failed, Damaged, Memory}

-- the cause of a session's fault, by the pieces that it had: a chunk of one of them, which some range needs, is damaged; what
-- failed is told by the count of the peek
abbrev pub IsSessionFault : Planned → Bool → {R : Type 0} → List (Part R) → SessionFault → Type 0
IsSessionFault plan tells pieces Failed = Unit {0}
IsSessionFault plan tells pieces Memory = Unit {0}
IsSessionFault plan tells pieces (Damaged chunk recorded found) = (at : ℕ) × (len : ℕ) × IsDamaged plan tells pieces at len chunk recorded found

-- the fault that an error of a read is; a range that may be asked is neither too long nor past the end
abbrev pub IsFaultOf : ReadError → SessionFault → Type 0
IsFaultOf error.TooLong fault = ⊥
IsFaultOf error.PastEnd fault = ⊥
IsFaultOf error.Failed fault = fault ≡ Failed
IsFaultOf (error.Damaged chunk recorded found) fault = fault ≡ Damaged chunk recorded found
