-- What the tests of sessions ask.
use Rattle.std.proofs.Common.{◌≡◌, ℕ, zero, suc, Bool, Option, None, Some, IfSome, List, [], ◌∷◌, map, subst, sym, arith}
use Rattle.std.specs.Prelude.{All, Contains}
use Rattle.aff_model.specs.History.{Part}
use Rattle.aff_model.specs.Plan.{Planned}
use Rattle.aff_snapshot.specs.Lists.{Beginning}
use Rattle.aff_analyst.specs.Values.{MayHaveGrown}
use Rattle.aff_script.specs.Answered.{Answered}
use Rattle.aff_script.specs.Script.{IsRequest, IsSession}
use Rattle.aff_script.specs.declared.script.Request.{Request}
use Rattle.aff_script.specs.declared.script.Request.TheVariants.{Read, Await, After}
use Rattle.aff_session.specs.Shown.{AreLive}

abbrev pub two_reads : List Request
two_reads = Await 7 ∷ Read 0 1024 ∷ After ∷ Read 500 24 ∷ []

each_asked : All (IsRequest 1024) two_reads
each_asked zero d low = tt
each_asked (suc zero) d low = (omega arith, omega arith)
each_asked (suc (suc zero)) d low = tt
each_asked (suc (suc (suc zero))) d low = (omega arith, omega arith)
each_asked (suc (suc (suc (suc k)))) d low = absurd (omega (arith, low))

-- where there was no viewer there is none
pub none_grown : {R : Type 0} (old new : Option (Beginning R)) (P : Beginning R → Type 0) → old ≡ None → MayHaveGrown old new → IfSome new P
none_grown None None P is grown = tt
none_grown None (Some v) P is grown = absurd (cc (grown))
none_grown (Some v) new P is grown = absurd (cc (is))

pub live_same : (plan same : Planned) (tells : Bool) {R : Type 0} (told : R → List ℕ) (viewer : Option (Beginning R)) (requests asked : List Request) (answers : List Answered) → same ≡ plan → asked ≡ requests → AreLive plan tells told viewer requests answers → AreLive same tells told viewer asked answers
live_same plan same tells told viewer requests asked answers p r live = subst (λ x. AreLive x tells told viewer asked answers) (sym p) (subst (λ x. AreLive plan tells told viewer x answers) (sym r) live)

pub is_asked : IsSession 1024 two_reads
is_asked = record { few = omega arith; each = each_asked; after = (tt, tt) }
