-- Appends one behind another, and what is said of a call that ends a function.
use Rattle.std.proofs.Common.{◌≡◌, ℕ, List, [], ◌∷◌, ◌++◌, refl, sym, ap, subst, ◌∙◌, codes, Ok, Err}
use Rattle.std.specs.Prelude.{Bool, IsTrue, OnErr, OnOk, Result}
use Rattle.aff_model.specs.Held.{Held}
use Rattle.aff_spec.specs.Appends.{Append, applied, Reaches}
use Rattle.aff_spec.specs.Volumes.{targets_text}
use Rattle.aff_spec.proofs.Appends.{Reaches-after}

-- what follows on an Err, or on an Ok
pub on_err_then : {T E P Q : Type 0} (r : Result T E) → (P → Q) → OnErr r P → OnErr r Q
on_err_then (Ok x) f p = p
on_err_then (Err e) f p = f p

pub on_ok_then : {T E P Q : Type 0} (r : Result T E) → (P → Q) → OnOk r P → OnOk r Q
on_ok_then (Ok x) f p = f p
on_ok_then (Err e) f p = p

-- the third of three appends
pub third_reached : (tells : Bool) (h0 h1 h2 h3 : Held) (a b c : Append) → (IsTrue tells → h1 ≡ applied h0 (a ∷ [])) → (IsTrue tells → h2 ≡ applied h1 (b ∷ []))
    → (IsTrue tells → Reaches h2 (c ∷ []) h3) → IsTrue tells → Reaches h0 (a ∷ b ∷ c ∷ []) h3
third_reached tells h0 h1 h2 h3 a b c first second third t =
    Reaches-after h0 (a ∷ b ∷ []) (c ∷ []) h3 (subst (λ h. Reaches h (c ∷ []) h3) (second t ∙ ap (λ h. applied h (b ∷ [])) (first t)) (third t))

-- the list of targets as it is written: the stream, and what is the same in each volume
pub targets_text_is : (stream : List ℕ) → targets_text stream ≡ stream ++ codes "\nhttp://aff4.org/Schema#Zero\nhttp://aff4.org/Schema#UnreadableData\n"
unfolding targets_text
targets_text_is stream = refl
