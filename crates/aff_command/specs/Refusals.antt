-- Why devices are refused.
use Rattle.std.specs.Prelude.{◌≡◌, ℕ, ◌<◌, List, [], ◌++◌, Some, length, slice_get, codes}
use Rattle.std.specs.Fmt.{decimal}
use Rattle.aff_model.specs.declared.limits.TheConstants.{MAX_DEVICES}
use Rattle.aff_model.specs.Content.{IsBlock}
use Rattle.aff_command.specs.Devices.{ShownDevice, AreAlike, IsDeviceSize}
use Rattle.aff_command.specs.declared.devices.Refusal.{Refusal}
use Rattle.aff_command.specs.declared.devices.Refusal.TheVariants.{Missing, Many, Block, Size, Differs}

-- the first device with a property is this one, and has this number
pub record IsFirst (P : ShownDevice → Type 0) (devices : List ShownDevice) (number : ℕ) (d : ShownDevice) : Type 0 where
  pub there : slice_get devices number ≡ Some d
  pub has : P d
  pub first : (k : ℕ) (e : ShownDevice) → k < number → slice_get devices k ≡ Some e → ¬ (P e)

-- each reason by itself
abbrev pub Holds : List ShownDevice → Refusal → Type 0
Holds devices Missing = devices ≡ []
Holds devices (Many n) = (n ≡ length devices) × (MAX_DEVICES < n)
Holds devices (Block i n) = (d : ShownDevice) × IsFirst (λ e. ¬ (IsBlock e.block)) devices i d × (n ≡ d.block)
Holds devices (Size i n) = (d : ShownDevice) × IsFirst (λ e. ¬ (IsDeviceSize e.block e.size)) devices i d × (n ≡ d.size)
Holds devices (Differs i) = (f : ShownDevice) × (d : ShownDevice) × (slice_get devices 0 ≡ Some f) × IsFirst (λ e. ¬ (AreAlike e f)) devices i d

-- the order in which reasons are looked for
abbrev pub rank : Refusal → ℕ
rank Missing = 0
rank (Many n) = 1
rank (Block i n) = 2
rank (Size i n) = 3
rank (Differs i) = 4

-- the devices are refused for the first reason that holds
pub record AreRefused (devices : List ShownDevice) (why : Refusal) : Type 0 where
  pub holds : Holds devices why
  pub first : (other : Refusal) → rank other < rank why → ¬ (Holds devices other)

-- the line of each reason
abbrev pub refusal_line : Refusal → List ℕ
refusal_line Missing = codes "error devices none\n"
refusal_line (Many n) = codes "error devices many " ++ (decimal n ++ codes "\n")
refusal_line (Block i n) = codes "error devices sector " ++ (decimal i ++ (codes " " ++ (decimal n ++ codes "\n")))
refusal_line (Size i n) = codes "error devices size " ++ (decimal i ++ (codes " " ++ (decimal n ++ codes "\n")))
refusal_line (Differs i) = codes "error devices differ " ++ (decimal i ++ codes "\n")
