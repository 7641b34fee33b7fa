-- What an adapter answers for the outcome of a call of the operating system.
use Rattle.std.specs.Prelude.{◌≡◌, ◌≢◌, ◌⊎◌, ℕ, ◌+◌, ◌-◌, ◌^◌, min, Result, Ok, Err}
use Rattle.std.specs.IoError.{error_kind}
use Rattle.std.specs.declared.io.Error.{Error}
use Rattle.std.specs.declared.io.ErrorKind.TheVariants.{OutOfMemory}
use Rattle.aff_outside.specs.declared.folder.FolderError.{FolderError}
use Rattle.aff_outside.specs.declared.folder.FolderError.TheVariants.{Failed, Memory}

-- a count of faults after one more: it stays at its last value
abbrev pub raised : ℕ → ℕ
raised count = min (count + 1) (2 ^ 64 - 1)

-- a value is handed on and leaves the count as it was; every error is answered by `failed` and raises the count
abbrev pub IsCounted : {T E : Type 0} → Result T Error → E → Result T E → ℕ → ℕ → Type 0
IsCounted (Ok value) failed result before now = (result ≡ Ok value) × (now ≡ before)
IsCounted (Err e) failed result before now = (result ≡ Err failed) × (now ≡ raised before)

-- so a folder answers, but for want of memory, which is told as that and is no fault
abbrev pub IsFolderAnswer : {T : Type 0} → Result T Error → Result T FolderError → ℕ → ℕ → Type 0
IsFolderAnswer (Ok value) result before now = (result ≡ Ok value) × (now ≡ before)
IsFolderAnswer (Err e) result before now =
    ((error_kind e ≡ OutOfMemory) × (result ≡ Err Memory) × (now ≡ before))
    ⊎ ((error_kind e ≢ OutOfMemory) × (result ≡ Err Failed) × (now ≡ raised before))
