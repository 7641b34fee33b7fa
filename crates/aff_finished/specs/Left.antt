-- What a run leaves: the folder of a finished volume, or one that is cut off.
use Rattle.std.specs.Prelude.{◌≡◌, ◌≢◌, ◌≤◌, ◌⊎◌, ℕ, Bool, true, List, [], ◌∷◌, ◌++◌, Option, Some, IsTrue}
use Rattle.std.specs.FinMap.{get}
use Rattle.aff_model.specs.declared.limits.TheConstants.{MAX_SIZE}
use Rattle.aff_model.specs.Content.{Content}
use Rattle.aff_model.specs.Held.{Held}
use Rattle.aff_model.specs.Plan.{IsPlan}
use Rattle.aff_spec.specs.Words.{is_uuid}
use Rattle.aff_image.specs.Asked.{Asked}
use Rattle.aff_image.specs.Image.{Image}
use Rattle.aff_finish.specs.Container.{information_name}
use Rattle.aff_finish.specs.Finished.{IsFinished, IsStopped}
use Rattle.aff_finish.specs.declared.hashes.Hashes.{Hashes}

-- a plan of a device that is accepted was asked for, and the folder tells what it holds
pub record IsAsked (tells : Bool) (asked : Asked) : Type 0 where
  pub is_plan : IsPlan asked.plan.size asked.plan.block asked.plan.extents
  pub small : asked.plan.size ≤ MAX_SIZE
  pub uuid : is_uuid asked.uuid ≡ true
  pub told : IsTrue tells

-- the same segments, with the same bytes, but that the metadata lack their last byte, a line feed
pub record LacksLastFeed (last held : Held) : Type 0 where
  pub text : List ℕ
  pub had : get last information_name ≡ Some (text ++ 10 ∷ [])
  pub has : get held information_name ≡ Some text
  pub others : (name : List ℕ) → name ≢ information_name → get held name ≡ get last name

-- every segment is there in full, but perhaps for that line feed
abbrev pub IsInFull : Held → Held → Type 0
IsInFull last held = (held ≡ last) ⊎ LacksLastFeed last held

-- what a run left that got so far: the finished volume of an image, in full
pub record IsLeftBy (case : Option Content) (tells : Bool) (asked : Asked) (m : Image) (held : Held) (h : Hashes) : Type 0 where
  pub ask : IsAsked tells asked
  pub last : Held
  pub finished : IsFinished case tells asked m last h
  pub full : IsInFull last held

-- what any other run left: the order of appends of an image had got so far
pub record IsCutOffBy (case : Option Content) (tells : Bool) (asked : Asked) (m : Image) (held : Held) : Type 0 where
  pub ask : IsAsked tells asked
  pub stopped : IsStopped case tells asked m held
