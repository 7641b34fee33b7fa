-- Why a list of fields is refused.
use Rattle.std.specs.Prelude.{◌≡◌, ◌≢◌, ℕ, ◌%◌, List, length}
use Rattle.aff_fields.specs.declared.error.FieldsError.{FieldsError}
use Rattle.aff_fields.specs.declared.error.FieldsError.TheVariants.{Ragged, Memory}

-- bytes that ought to be fields of a width: `Ragged` tells their number where they are not whole fields, and memory may
-- want only where they are
abbrev pub IsRaggedLength : ℕ → List ℕ → FieldsError → Type 0
IsRaggedLength width bytes (Ragged len) = (length bytes % width ≢ 0) × (len ≡ length bytes)
IsRaggedLength width bytes Memory = length bytes % width ≡ 0
