-- What a folder holds after some appends.
use Rattle.std.proofs.Common.{◌≡◌, List, [], ◌∷◌, ◌++◌, refl, inl, inr}
use Rattle.aff_model.specs.Held.{Held, appended}
use Rattle.aff_spec.specs.Appends.{Append, applied, Reaches}

pub applied-append : (held : Held) (xs ys : List Append) → applied held (xs ++ ys) ≡ applied (applied held xs) ys
applied-append held [] ys = refl
applied-append held (a ∷ xs) ys = applied-append (appended held a.0 a.1) xs ys

-- what some first appends reach, more of them reach
pub Reaches-more : (held : Held) (xs ys : List Append) (now : Held) → Reaches held xs now → Reaches held (xs ++ ys) now
Reaches-more held [] [] now r = r
Reaches-more held [] (a ∷ ys) now r = inl r
Reaches-more held (a ∷ xs) ys now (inl r) = inl r
Reaches-more held (a ∷ xs) ys now (inr (inl cut)) = inr (inl cut)
Reaches-more held (a ∷ xs) ys now (inr (inr r)) = inr (inr (Reaches-more (appended held a.0 a.1) xs ys now r))

-- what is reached behind some whole appends
pub Reaches-after : (held : Held) (xs ys : List Append) (now : Held) → Reaches (applied held xs) ys now → Reaches held (xs ++ ys) now
Reaches-after held [] ys now r = r
Reaches-after held (a ∷ xs) ys now r = inr (inr (Reaches-after (appended held a.0 a.1) xs ys now r))

-- before any append
pub Reaches-start : (held : Held) (xs : List Append) → Reaches held xs held
Reaches-start held [] = refl
Reaches-start held (a ∷ xs) = inl refl

-- after some whole appends
pub Reaches-whole : (held : Held) (xs ys : List Append) → Reaches held (xs ++ ys) (applied held xs)
Reaches-whole held xs ys = Reaches-after held xs ys (applied held xs) (Reaches-start (applied held xs) ys)
