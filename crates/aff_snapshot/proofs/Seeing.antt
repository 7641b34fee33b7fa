-- Each step on what is published keeps the rule of what was seen: a publication only makes the list longer.
use Rattle.std.proofs.Common.{◌≡◌, ◌≢◌, ℕ, ◌<◌, List, set, refl, sym, ap, ◌∙◌, subst, ⊎_elim, arith}
use Rattle.std.specs.Prelude.{length}
use mathlib.Core.Option.{some}
use mathlib.Core.List.{IsPrefix}
use lib.ListN.{get_elem?}
use Rattle.crossbeam_utils.specs.Register.{Admits, TurnsAt, Forks, Merges}
use Rattle.atomic_table.proofs.Lists.{at_set, at_snoc}
use Rattle.aff_snapshot.specs.declared.shown.Sight.{Sight}
use Rattle.aff_snapshot.specs.Lists.{Reached, numbers_of}
use Rattle.aff_snapshot.specs.Sights.{blind, HasSeen, HaveSeen, Sees}
use Rattle.aff_snapshot.proofs.Beginnings.{prefix_self, prefix_trans}

blind_has : (shown : Reached) → HasSeen shown blind
blind_has shown = record { list = λ (some : 0 < length blind.list). absurd (omega arith); names = (shown.names, refl) }

has_longer : (old new : Reached) (seen : Sight) → new.list ≡ old.list → IsPrefix old.names new.names → HasSeen old seen → HasSeen new seen
has_longer old new seen same longer has = record {
  list = λ some. has.list some ∙ sym (ap numbers_of same);
  names = prefix_trans seen.names old.names new.names has.names longer;
}

set_has : (shown : Reached) (seats : List Sight) (seat : ℕ) (seen : Sight) → HaveSeen shown seats → HasSeen shown seen → HaveSeen shown (set seats seat seen)
set_has shown seats seat seen rule has j u at =
    ⊎_elim (λ (t : (j ≡ seat) × (seen ≡ u)). subst (HasSeen shown) t.1 has) (λ (t : (j ≢ seat) × (get_elem? seats j ≡ some u)). rule j u t.1) (at_set seats seat j seen u at)

-- a new seat, which is blind
pub admits : Admits HaveSeen blind
admits shown seats rule seat seen at = ⊎_elim (rule seat seen) (λ (e : blind ≡ seen). subst (HasSeen shown) e (blind_has shown)) (at_snoc seats blind seen seat at)

-- a look, or a publication that makes the list longer
pub sees : (seat : ℕ) (seen : Sight) (old new : Reached) → new.list ≡ old.list → IsPrefix old.names new.names → TurnsAt HaveSeen seat seen old new Sees
sees seat seen old new same longer seats rule at =
    let now : Sight = record { list = numbers_of new.list; names = new.names } in
    let all : HaveSeen new seats = λ j u e. has_longer old new u same longer (rule j u e) in (
      now,
      set_has new seats seat now all (record { list = λ some. refl; names = prefix_self new.names }),
      record { had = all seat seen at; list = refl; names = refl },
    )

-- a seat tells what it has seen
pub forks : (seat : ℕ) (seen : Sight) → Forks HaveSeen seat seen seen seen
forks seat seen shown seats rule at j u e =
    ⊎_elim (set_has shown seats seat seen rule (rule seat seen at) j u) (λ (same : seen ≡ u). subst (HasSeen shown) same (rule seat seen at)) (at_snoc (set seats seat seen) seen u j e)

-- and another takes it for its own
pub merges : (seat : ℕ) (seen : Sight) (other : ℕ) (told : Sight) → Merges HaveSeen seat seen other told told blind
merges seat seen other told shown seats rule at apart there =
    let has : HasSeen shown told = ⊎_elim (λ (t : (other ≡ seat) × (told ≡ told)). absurd (apart t.0)) (λ (t : (other ≢ seat) × (get_elem? seats other ≡ some told)). rule other told t.1) (at_set seats seat other told told there) in
    set_has shown (set seats seat told) other blind (set_has shown seats seat told rule has) (blind_has shown)
