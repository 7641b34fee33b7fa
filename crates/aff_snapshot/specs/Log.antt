-- The log of a list: the names of its pieces. What holds of it at all times, and what a step on it tells.
use Rattle.std.specs.Prelude.{ℕ, ◌≡◌, ◌==◌, true, nat_eq, List, [], ◌∷◌, ◌++◌, length, map, Contains, MatchBool}
use Rattle.std.specs.List.{IsDistinct}
use Rattle.logbook.specs.Pages.{Cell, Step, View, Named}
use Rattle.aff_snapshot.specs.Codes.{Name}
use Rattle.aff_snapshot.specs.Lists.{ListName}

-- no two pieces are of one extent
abbrev pub AreOnce : List Name → Type 0
AreOnce names = IsDistinct nat_eq (map (λ n. n.extent) names)

-- no piece is of this one's extent
abbrev pub IsFirst : List Name → Name → Type 0
IsFirst names n = ¬ (Contains (map (λ m. m.extent) names) n.extent)

-- the log's word counts its names, of which no two are of one extent
pub record IsLog (cells : List Cell) (names : List Name) : Type 0 where
  pub words : cells ≡ (length names, true) ∷ (0, true) ∷ []
  pub once : AreOnce names

-- the word that counts the pieces of a list
abbrev pub count_of : ListName → Named
count_of l = record { tracked = true; key = 0; book = l.book }

-- a name was put behind all that had been seen; or the log was longer than that
abbrev pub Adds : Step Name → View Name ℕ → ℕ → View Name ℕ → Type 0
Adds s v found w = MatchBool (found == s.old) ((w.0 ≡ v.0 ++ s.ask ∷ []) × AreOnce w.0) ((length w.0 ≡ found) × AreOnce w.0)
