-- What a session asks workers for.
use Rattle.std.specs.Prelude.{ℕ, List, All, Contains}
use Rattle.aff_model.specs.declared.extent.Extent.{Extent}
use Rattle.aff_analyst.specs.Raised.{Shares}
use Rattle.aff_script.specs.declared.script.Request.{Request}
use Rattle.aff_script.specs.declared.script.Request.TheVariants.{Read, Raise, Await, After}

-- where a request raises a range, each extent that shares a byte with it was asked for
abbrev pub IsAskedFor : List Extent → List ℕ → Request → Type 0
IsAskedFor extents raised (Read at len) = Unit {0}
IsAskedFor extents raised (Raise at len) = (e : ℕ) → Shares extents at len e → Contains raised e
IsAskedFor extents raised (Await count) = Unit {0}
IsAskedFor extents raised After = Unit {0}

abbrev pub AreAskedFor : List Extent → List ℕ → List Request → Type 0
AreAskedFor extents raised requests = All (IsAskedFor extents raised) requests
