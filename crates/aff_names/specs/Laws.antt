-- What a folder is never named.
use Rattle.std.specs.Prelude.{◌≢◌, ℕ, List, codes}
use Rattle.aff_spec.specs.Names.{folder_name}
use Rattle.aff_names.specs.Urn.{IsUrn}

-- no folder of a URN is named `.` or `..`
abbrev pub FoldersAreNoDots : Type 0
FoldersAreNoDots = (urn : List ℕ) → IsUrn urn → (folder_name urn ≢ codes ".") × (folder_name urn ≢ codes "..")
