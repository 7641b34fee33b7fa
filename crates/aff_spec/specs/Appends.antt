-- Appends, and what a folder holds after them.
use Rattle.std.specs.Prelude.{◌≡◌, ℕ, ◌≤◌, ◌⊎◌, List, [], ◌∷◌, length, take, map}
use Rattle.aff_model.specs.Held.{Held, appended}

-- an append: a segment's name and the bytes that are added at its end
abbrev pub Append : Type 0
Append = List ℕ × List ℕ

-- the folder after some appends
abbrev pub applied : Held → List Append → Held
applied held [] = held
applied held (a ∷ appends) = applied (appended held a.0 a.1) appends

-- a prefix of one append
abbrev pub IsCut : Held → Append → Held → Type 0
IsCut held a now = (n : ℕ) × (n ≤ length a.1) × (now ≡ appended held a.0 (take n a.1))

-- the folder after some first ones of the appends, perhaps none, and perhaps a prefix of the next one
abbrev pub Reaches : Held → List Append → Held → Type 0
Reaches held [] now = now ≡ held
Reaches held (a ∷ appends) now = (now ≡ held) ⊎ (IsCut held a now ⊎ Reaches (appended held a.0 a.1) appends now)

-- one append for each piece of a segment
abbrev pub appends_to : List ℕ → List (List ℕ) → List Append
appends_to name pieces = map (λ piece. (name, piece)) pieces
