-- Why an examiner is not shown all.
use Rattle.std.specs.Prelude.{◌≡◌, ℕ, Bool, List, [], ◌∷◌, Some, slice_get}
use Rattle.aff_model.specs.History.{Part}
use Rattle.aff_model.specs.Plan.{Planned}
use Rattle.aff_analyst.specs.Faults.{IsDamaged}
use Rattle.aff_analyst.specs.declared.error.ReadError.{ReadError}
use Rattle.aff_analyst.specs.declared.error.ReadError.TheVariants as error
use Rattle.aff_examine.specs.declared.error.FollowError.{FollowError}
use Rattle.aff_examine.specs.declared.error.FollowError.TheVariants.{Failed, Damaged, Memory}

-- the cause of a fault in showing one piece: a chunk of it is damaged; what failed is told by the count of the peek
abbrev pub IsPieceFault : Planned → Bool → {R : Type 0} → Part R → FollowError → Type 0
IsPieceFault plan tells p Failed = Unit {0}
IsPieceFault plan tells p Memory = Unit {0}
IsPieceFault plan tells p (Damaged chunk recorded found) = (at : ℕ) × (len : ℕ) × IsDamaged plan tells (p ∷ []) at len chunk recorded found

-- the cause of a fault, by the pieces of which so many had been shown: the next of them has it
abbrev pub IsFollowFault : Planned → Bool → {R : Type 0} → List (Part R) → ℕ → FollowError → Type 0
IsFollowFault plan tells {R} pieces shown e = (p : Part R) × (slice_get pieces shown ≡ Some p) × IsPieceFault plan tells p e

-- the fault that an error of a read is; a range that may be read is neither too long nor past the end
abbrev pub IsFaultOf : ReadError → FollowError → Type 0
IsFaultOf error.TooLong fault = ⊥
IsFaultOf error.PastEnd fault = ⊥
IsFaultOf error.Failed fault = fault ≡ Failed
IsFaultOf (error.Damaged chunk recorded found) fault = fault ≡ Damaged chunk recorded found
