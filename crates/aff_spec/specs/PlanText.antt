-- The text of a plan: one line an extent, each with a line feed.
use Rattle.std.specs.Prelude.{ℕ, ◌<◌, ◌^◌, List, ◌++◌, codes}
use Rattle.std.specs.Fmt.{decimal}
use Rattle.std.specs.List.{flat_map}
use Rattle.aff_model.specs.declared.extent.Extent.{Extent}

-- the numbers are those of the type
pub record FitsExtent (e : Extent) : Type 0 where
  pub at : e.at < 2 ^ 64
  pub len : e.len < 2 ^ 64
  pub priority : e.priority < 2 ^ 8

-- the line of an extent: `extent AT LEN PRIORITY`, numbers in decimal without leading zeros
abbrev pub extent_line : Extent → List ℕ
extent_line e = codes "extent " ++ (decimal e.at ++ (codes " " ++ (decimal e.len ++ (codes " " ++ (decimal e.priority ++ codes "\n")))))

abbrev pub plan_text : List Extent → List ℕ
plan_text extents = flat_map extent_line extents
