-- What holds of metadata.
use Rattle.std.specs.Prelude.{◌≡◌, ◌≢◌, ◌≤◌, ℕ, List, [], length}
use Rattle.hex.specs.Hex.{IsBytes}
use Rattle.aff_map.specs.declared.target.Target.TheVariants as targets
use Rattle.aff_names.specs.Urn.{IsUrn}
use Rattle.aff_info.specs.Schema.{largest_size}
use Rattle.aff_info.specs.Reading.{IsInfo}
use Rattle.aff_info.specs.Writing.{facts_of}
use Rattle.aff_info.specs.declared.info.Info.{Info}

-- a digest of so many bytes
pub record HasDigestSize (size : ℕ) (bytes : List ℕ) : Type 0 where
  pub long : length bytes ≡ size
  pub bytes_are : IsBytes bytes

-- metadata that can be stated
pub record CanBeStated (info : Info) : Type 0 where
  pub volume : IsUrn info.volume
  pub stream : IsUrn info.stream
  pub image : IsUrn info.image
  pub two : info.stream ≢ info.image
  pub stream_fits : info.stream_size ≤ largest_size
  pub image_fits : info.image_size ≤ largest_size
  pub gap : info.gap ≡ targets.Unknown
  pub md5 : HasDigestSize 16 info.linear.md5
  pub sha1 : HasDigestSize 20 info.linear.sha1
  pub sha256 : HasDigestSize 32 info.linear.sha256
  pub sha512 : HasDigestSize 64 info.linear.sha512
  pub block_map : HasDigestSize 64 info.block_map

-- what is stated is read as it was, and nothing is left
abbrev pub ReadsBack : Type 0
ReadsBack = (info : Info) → CanBeStated info → IsInfo (facts_of info) (record { info = info; aside = [] })
