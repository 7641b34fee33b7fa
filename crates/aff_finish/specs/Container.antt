-- The segments of a volume that say what it is (AFF4 Standard v1.0, containers; their bytes are this project's own).
use Rattle.std.specs.Prelude.{ℕ, List, [], ◌∷◌, codes}
use Rattle.aff_spec.specs.Appends.{Append}
use Rattle.aff_spec.specs.Names.{volume_urn}

abbrev pub version_name : List ℕ
version_name = codes "version.txt"

abbrev pub description_name : List ℕ
description_name = codes "container.description"

abbrev pub information_name : List ℕ
information_name = codes "information.turtle"

-- the version of the format, and the tool that wrote it
unfoldable pub version_text : List ℕ
version_text = codes "major=1\nminor=0\ntool=live-imager 1\n"

-- the last appends of a volume: its version, its URN without a line feed, and its metadata
abbrev pub container_appends : List ℕ → List ℕ → List Append
container_appends uuid information = (version_name, version_text) ∷ (description_name, volume_urn uuid) ∷ (information_name, information) ∷ []
