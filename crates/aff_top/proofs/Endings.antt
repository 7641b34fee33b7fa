-- All of some appends, and what holds on an error.
use Rattle.std.proofs.Common.{◌≡◌, List, [], ◌++◌, sym, subst, append-nil, Ok, Err}
use Rattle.std.specs.Prelude.{Result, OnErr}
use Rattle.aff_model.specs.Held.{Held}
use Rattle.aff_spec.specs.Appends.{Append, applied, Reaches}
use Rattle.aff_spec.proofs.Appends.{Reaches-whole}

-- all of some appends are some first ones
pub Reaches-all : (old : Held) (appends : List Append) (new : Held) → new ≡ applied old appends → Reaches old appends new
Reaches-all old appends new is =
    subst (λ v. Reaches old v new) (append-nil appends) (subst (λ h. Reaches old (appends ++ []) h) (sym is) (Reaches-whole old appends []))

-- what holds anyhow holds on an error
pub on_err : {T E P : Type 0} (r : Result T E) → P → OnErr r P
on_err (Ok x) p = tt
on_err (Err e) p = p
