-- What the metadata of a folder name.
use Rattle.std.specs.Prelude.{◌≡◌, ℕ, List, Some}
use Rattle.std.specs.FinMap.{get}
use Rattle.aff_model.specs.Held.{Held}
use Rattle.aff_turtle.specs.Triples.{Fact}
use Rattle.aff_turtle.specs.Reading.{IsTurtle}
use Rattle.aff_info.specs.Found.{Found}
use Rattle.aff_info.specs.Reading.{IsInfo}
use Rattle.aff_finish.specs.Container.{information_name}

-- a folder has metadata: its Turtle text says triples, and these state each name once
pub record IsNamed (held : Held) (found : Found) : Type 0 where
  pub text : List ℕ
  pub there : get held information_name ≡ Some text
  pub facts : List Fact
  pub turtle : IsTurtle text facts
  pub stated : IsInfo facts found
