-- What was asked for stays asked for.
use Rattle.std.proofs.Common.{◌≡◌, ℕ, ◌+◌, ◌<◌, Option, None, Some, List, length, take, get_or, sym, subst, ◌++◌, Contains}
use Rattle.std.specs.Prelude.{All, IfSome, IsSome}
use Rattle.std.proofs.lemmas.List.{take_more}
use Rattle.std.proofs.lemmas.List.Elements.{All-push, All-weaker, Contains-append_left, Contains-append_right}
use Rattle.aff_model.specs.declared.extent.Extent.{Extent}
use Rattle.aff_claim.specs.declared.view.PassView.{PassView}
use Rattle.aff_analyst.specs.Raised.{HasRaised, Shares}
use Rattle.aff_script.specs.declared.script.Request.{Request}
use Rattle.aff_script.specs.declared.script.Request.TheVariants.{Read, Raise, Await, After}
use Rattle.aff_session.specs.Asked.{AreAskedFor, IsAskedFor}

asked_grows : (extents : List Extent) (olds news : List ℕ) → ((e : ℕ) → Contains olds e → Contains news e) → (r : Request) → IsAskedFor extents olds r → IsAskedFor extents news r
asked_grows extents olds news grows (Read at len) h = tt
asked_grows extents olds news grows (Raise at len) h = λ e s. grows e (h e s)
asked_grows extents olds news grows (Await count) h = tt
asked_grows extents olds news grows After h = tt

-- one request more
pub asked_step : (extents same : List Extent) (olds news : List ℕ) (requests : List Request) (i : ℕ) (e : Request) → same ≡ extents → i < length requests → ((x : ℕ) → Contains olds x → Contains news x)
    → AreAskedFor extents olds (take i requests) → IsAskedFor same news (get_or requests i e) → AreAskedFor extents news (take (i + 1) requests)
asked_step extents same olds news requests i e is low grows had one =
    subst (AreAskedFor extents news) (sym (take_more requests i e low))
    (All-push (IsAskedFor extents news) (take i requests) (get_or requests i e)
    (All-weaker (IsAskedFor extents olds) (IsAskedFor extents news) (asked_grows extents olds news grows) (take i requests) had)
    (subst (λ es. IsAskedFor es news (get_or requests i e)) is one))

-- a request that raises nothing, and one that raised its range
pub asked_read : (extents : List Extent) (raised : List ℕ) (r : Request) (at len : ℕ) → r ≡ Read at len → IsAskedFor extents raised r
asked_read extents raised r at len is = subst (IsAskedFor extents raised) (sym is) tt

pub asked_await : (extents : List Extent) (raised : List ℕ) (r : Request) (count : ℕ) → r ≡ Await count → IsAskedFor extents raised r
asked_await extents raised r count is = subst (IsAskedFor extents raised) (sym is) tt

pub asked_after : (extents : List Extent) (raised : List ℕ) (r : Request) → r ≡ After → IsAskedFor extents raised r
asked_after extents raised r is = subst (IsAskedFor extents raised) (sym is) tt

pub asked_raise : (extents : List Extent) (raised : List ℕ) (r : Request) (at len : ℕ) → r ≡ Raise at len → ((e : ℕ) → Shares extents at len e → Contains raised e) → IsAskedFor extents raised r
asked_raise extents raised r at len is h = subst (IsAskedFor extents raised) (sym is) h

-- a pass that raised has raised no less
pub no_less : (Wanted : ℕ → Type 0) (old new : PassView) → HasRaised Wanted old new → (e : ℕ) → Contains old.raised e → Contains new.raised e
no_less Wanted old new r e c = subst (λ (v : PassView). Contains v.raised e) (sym r.view) (Contains-append_left old.raised r.more e c)

pub no_less_by : {X : Type 0} (o : Option X) (Wanted : X → ℕ → Type 0) (old new : PassView) → IsSome o → IfSome o (λ v. HasRaised (Wanted v) old new) → (e : ℕ) → Contains old.raised e → Contains new.raised e
no_less_by None Wanted old new some h = absurd (cc (some))
no_less_by (Some x) Wanted old new some h = no_less (Wanted x) old new h

-- and what it wanted
pub all_raised : (Wanted : ℕ → Type 0) (old new : PassView) → HasRaised Wanted old new → (e : ℕ) → Wanted e → Contains new.raised e
all_raised Wanted old new r e w = subst (λ (v : PassView). Contains v.raised e) (sym r.view) (Contains-append_right old.raised r.more e ((r.each e).1 w))
