-- What listed segments lack.
use Rattle.std.specs.Prelude.{◌≡◌, ⊤, ℕ, ◌⊎◌, List, None}
use Rattle.aff_spec.specs.Names.{map_name, idx_name}
use Rattle.aff_bevvy.specs.Segments.{Lengths}
use Rattle.aff_volume.specs.Hashed.{IsFirstUnhashed}
use Rattle.aff_volume.specs.declared.error.VolumeError.{VolumeError}
use Rattle.aff_volume.specs.declared.error.VolumeError.TheVariants.{NoMap, BlockHashes, Failed, Memory}

-- an answer of no call of the folder
abbrev pub IsOfList : VolumeError → Type 0
IsOfList Failed = ⊥
IsOfList e = ⊤

-- a refusal of the tables of an image by their lengths
abbrev pub LacksTables : Lengths → List ℕ → VolumeError → Type 0
LacksTables len image NoMap = (len (map_name image) ≡ None) ⊎ (len (idx_name image) ≡ None)
LacksTables len image Memory = ⊤
LacksTables len image e = ⊥

-- a refusal of the block hashes of a stream of n chunks by their lengths
abbrev pub LacksHashes : Lengths → List ℕ → ℕ → VolumeError → Type 0
LacksHashes len stream n (BlockHashes b) = IsFirstUnhashed len stream n b
LacksHashes len stream n Memory = ⊤
LacksHashes len stream n e = ⊥
