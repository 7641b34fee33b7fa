-- A piece of one sector of zeros is sound.
use Rattle.std.proofs.Common.{◌≡◌, ℕ, zero, suc, ◌<◌, false, true≢false, List, [], ◌∷◌, length, replicate, get_or, refl, sym, ap, subst, arith}
use Rattle.std.specs.Prelude.{All, Contains, Err, MatchOption, MatchResult, None, Ok, Result, slice_index_or}
use Rattle.std.proofs.lemmas.List.{get_or-replicate, length-replicate}
use Rattle.std.proofs.lemmas.Option.{slice_get-get_or}
use Rattle.aff_model.specs.declared.limits.TheConstants.{SECTOR}
use Rattle.aff_model.specs.declared.extent.Extent.{Extent}
use Rattle.aff_model.specs.declared.publication.Place.{Place}
use Rattle.aff_model.specs.declared.publication.Place.TheVariants.{Zero}
use Rattle.aff_model.specs.History.{Part}
use Rattle.aff_model.specs.Legal.{Fits}
use Rattle.aff_model.specs.Plan.{Planned, chunk_count}
use Rattle.aff_image.specs.Sound.{IsPlaceIn, IsReading, IsSound}
use Rattle.aff_snapshot.specs.Sound.{IsSoundIn}

abbrev pub zeros : {R : Type 0} → ℕ → Part R
zeros extent = record { extent = extent; claimant = 0; swept = false; bad = []; places = Zero ∷ []; digests = []; receipts = [] }

none_in : (s : ℕ) → Contains [] s → ⊥
none_in s has = let within = has.1 in absurd (omega arith)

placed : (e : Extent) (j : ℕ) (d : Place) → j < 1 → IsPlaceIn e (replicate e.len 0) [] j (slice_index_or (Zero ∷ []) j d)
placed e zero d within = (
  (λ s is has. none_in s has),
  (λ k from to inside. get_or-replicate e.len k 0 0 (subst (λ n. k < n) (length-replicate e.len 0) inside)),
)
placed e (suc j) d within = absurd (omega arith)

fits : (block : ℕ) (e : Extent) → Fits None block e []
fits block e = record {
  rising = λ k within. absurd (omega arith);
  inside = λ k d within. absurd (omega arith);
  together = λ s t has. absurd (none_in s has);
  weak = tt;
  every_bad = tt;
}

reading : (block : ℕ) (e : Extent) → e.len ≡ SECTOR → IsReading None block e (replicate e.len 0) [] (Zero ∷ [])
reading block e len = record {
  len = length-replicate e.len 0;
  fits = fits block e;
  known = tt;
  zero = λ k within has. absurd (none_in _ has);
  count = sym (ap chunk_count len);
  placed = placed e;
}

sound : {R : Type 0} (told : R → List ℕ) (block extent : ℕ) (e : Extent) → e.len ≡ SECTOR → IsSound None block e false told (zeros extent)
sound told block extent e len = record {
  bytes = replicate e.len 0;
  reading = reading block e len;
  digests = refl;
  receipts = refl;
  told_chunks = λ tells. absurd (true≢false (sym tells));
}

no_extent : Extent
no_extent = record { at = 0; len = 0; priority = 0 }

pub zeros_sound : {R : Type 0} (plan : Planned) (told : R → List ℕ) (extent : ℕ) → extent < length plan.extents → All (λ e. e.len ≡ SECTOR) plan.extents
    → IsSoundIn None plan false told (zeros extent)
zeros_sound plan told extent within len =
    let e : Extent = get_or plan.extents extent no_extent in
    subst (λ o. MatchOption o ⊥ (λ e. IsSound None plan.block e false told (zeros extent))) (sym (slice_get-get_or plan.extents extent no_extent within))
    (sound told plan.block extent e (len extent no_extent within))

-- what follows from either answer
pub by_result : {T E P : Type 0} {A : T → Type 0} {B : E → Type 0} (r : Result T E) → ((x : T) → A x → P) → ((e : E) → B e → P) → MatchResult r A B → P
by_result (Ok x) f g h = f x h
by_result (Err e) f g h = g e h
