-- Metadata read from triples: the names one after another.
use Rattle.std.specs.Prelude.{◌≡◌, ℕ, zero, suc, ◌+◌, ◌==◌, Bool, false, if◌then◌else◌, List, [], ◌∷◌, length, map, filter, replicate, position, Option, Some, None, Result, Ok, Err, IsSome}
use Rattle.std.specs.List.{list_any}
use Rattle.std.specs.Option.{option_map}
use Rattle.aff_hash.specs.declared.kind.Digests.{Digests}
use Rattle.aff_map.specs.declared.target.Target.TheVariants as targets
use Rattle.aff_turtle.specs.Triples.{Fact}
use Rattle.aff_info.specs.Table.{fits, names}
use Rattle.aff_info.specs.Statements.{One, Only, one_of, Missing as None_, Twice as Many}
use Rattle.aff_info.specs.Accept.{accepted}
use Rattle.aff_info.specs.Faults.{InfoFault, Missing, Twice, and_then, Fails}
use Rattle.aff_info.specs.Found.{Found}
use Rattle.aff_info.specs.declared.draft.PartialInfo.{PartialInfo}
use Rattle.aff_info.specs.declared.error.InfoError.{InfoError}
use Rattle.aff_info.specs.declared.info.Info.{Info}
use Rattle.aff_info.specs.declared.name.InfoName.{InfoName}

-- what is known before anything is read
abbrev pub nothing : PartialInfo
nothing = record {
  volume = None;
  stream = None;
  image = None;
  stream_size = 0;
  image_size = 0;
  gap = targets.Unknown;
  linear = record { md5 = replicate 16 0; sha1 = replicate 20 0; sha256 = replicate 32 0; sha512 = replicate 64 0 };
  block_map = replicate 64 0;
}

-- what is known with the one statement of a name
abbrev pub stated : InfoName → One → PartialInfo → Result PartialInfo InfoFault
stated name None_ d = Err (Missing name)
stated name Many d = Err (Twice name)
stated name (Only t) d = accepted name t d

-- what is known with the statements of these names, one after another
unfoldable pub runs : List InfoName → List Fact → PartialInfo → Result PartialInfo InfoFault
runs [] facts d = Ok d
runs (name ∷ rest) facts d = and_then (stated name (one_of (filter (fits name d) facts)) d) (runs rest facts)

-- where the first statement of each name stands
abbrev pub firsts : List InfoName → List Fact → PartialInfo → List (Option ℕ)
firsts ns facts d = map (λ name. position (fits name d) facts) ns

abbrev pub is_place : ℕ → Option ℕ → Bool
is_place place None = false
is_place place (Some first) = first == place

-- so many places, from one on, but for those at which a name's first statement stands
abbrev pub others : List (Option ℕ) → ℕ → ℕ → List ℕ
others fs place zero = []
others fs place (suc count) = if list_any (is_place place) fs then others fs (place + 1) count else place ∷ others fs (place + 1) count

-- the places at which the first statement of no name stands
unfoldable pub aside : List Fact → PartialInfo → List ℕ
aside facts d = others (firsts names facts d) 0 (length facts)

-- the URNs of the volume, the stream and the image are known
pub record HasUrns (d : PartialInfo) : Type 0 where
  pub volume : IsSome d.volume
  pub stream : IsSome d.stream
  pub image : IsSome d.image

abbrev pub with_urns : PartialInfo → Option (List ℕ) → Option (List ℕ) → Option (List ℕ) → Option Info
with_urns d (Some volume) (Some stream) (Some image) = Some (record {
  volume = volume;
  stream = stream;
  image = image;
  stream_size = d.stream_size;
  image_size = d.image_size;
  gap = d.gap;
  linear = d.linear;
  block_map = d.block_map;
})
with_urns d _ _ _ = None

-- the metadata, where all is known
abbrev pub whole_of : PartialInfo → Option Info
whole_of d = with_urns d d.volume d.stream d.image

-- all names give these metadata, and these places are left
pub record IsInfo (facts : List Fact) (found : Found) : Type 0 where
  pub draft : PartialInfo
  pub read : runs names facts nothing ≡ Ok draft
  pub whole : whole_of draft ≡ Some found.info
  pub rest : found.aside ≡ aside facts draft

-- the first name that is not as it should be has this fault
abbrev pub IsInfoFault : List Fact → InfoFault → Type 0
IsInfoFault facts fault = runs names facts nothing ≡ Err fault

-- an error is that fault, unless memory ran out
abbrev pub IsError : List Fact → InfoError → Type 0
IsError facts e = Fails (runs names facts nothing) e
