-- A text has one fault, and a URN has none.
use Rattle.std.proofs.Common.{◌≡◌, ℕ, ◌<◌, Bool, true, List, ◌++◌, refl, ap, subst, ◌∙◌, codes, drop, inl, inr, nat_eq}
use Rattle.std.specs.Prelude.{◌≢◌, ◌↔◌, Result, Ok, Err, slice_get}
use Rattle.std.specs.List.{starts_with}
use Rattle.std.specs.Result.{IsErrAnd}
use Rattle.std.proofs.lemmas.Bool.{both_ways, cases_order}
use Rattle.std.proofs.lemmas.Bool.Decides.{Decides-eqb}
use Rattle.std.proofs.lemmas.Slice.Eq.{starts_is}
use Rattle.aff_names.specs.Refused.{IsNameFault}
use Rattle.aff_names.specs.Urn.{HasScheme, IsFirstBad, IsUrn, may_be_at}
use Rattle.aff_names.specs.declared.error.NameError.{NameError}
use Rattle.aff_names.specs.declared.error.NameError.TheVariants.{NoScheme, BadUuid, Memory}
use Rattle.aff_names.proofs.Places.{good_from_urn}

pub scheme_of_urn : (text : List ℕ) → IsUrn text → HasScheme text
scheme_of_urn text urn = record { rest = urn.uuid ++ urn.path; is = urn.is }

pub urn_has_no_fault : (text : List ℕ) (fault : NameError) → IsUrn text → ¬ IsNameFault text fault
urn_has_no_fault text NoScheme urn h = h (scheme_of_urn text urn)
urn_has_no_fault text (BadUuid at) urn h = both_ways (may_be_at at (slice_get text at)) h.1.bad (good_from_urn text urn at h.1.low h.1.high)
urn_has_no_fault text Memory urn h = h

first_before : (text : List ℕ) (at later : ℕ) → at < later → IsFirstBad text at → ¬ IsFirstBad text later
first_before text at later before first second = both_ways (may_be_at at (slice_get text at)) first.bad (second.before at first.low before)

one_first : (text : List ℕ) (at k : ℕ) → IsFirstBad text at → IsFirstBad text k → at ≡ k
one_first text at k first other =
    elim (cases_order at k) [
      | inl same ↦ same
      | inr apart ↦ elim apart [
        | inl below ↦ absurd (first_before text at k below first other)
        | inr above ↦ absurd (first_before text k at above other first)
      ]
    ]

pub one_fault : (text : List ℕ) (fault other : NameError) → IsNameFault text fault → IsNameFault text other → fault ≡ other
one_fault text NoScheme NoScheme h o = refl
one_fault text NoScheme (BadUuid k) h o = absurd (h o.0)
one_fault text NoScheme Memory h o = absurd o
one_fault text (BadUuid at) NoScheme h o = absurd (o h.0)
one_fault text (BadUuid at) (BadUuid k) h o = ap BadUuid (one_first text at k h.1 o.1)
one_fault text (BadUuid at) Memory h o = absurd o
one_fault text Memory other h o = absurd h

module _ {U : Type 0} (text : List ℕ) (r : Result U NameError) where
  -- an answer with the fault tells the place where a byte is bad
  pub told_by_fault : (fault : NameError) → r ≡ Err fault → IsNameFault text fault → (at : ℕ) → (r ≡ Err (BadUuid at)) ↔ (HasScheme text × IsFirstBad text at)
  told_by_fault fault e h at =
      (λ q. let same : fault ≡ BadUuid at = cc in subst (IsNameFault text) same h, λ bad. e ∙ ap Err (one_fault text fault (BadUuid at) h bad))

  -- an answer to a URN tells no place
  pub told_by_urn : IsUrn text → ((at : ℕ) → r ≢ Err (BadUuid at)) → (at : ℕ) → (r ≡ Err (BadUuid at)) ↔ (HasScheme text × IsFirstBad text at)
  told_by_urn urn other at = (λ q. absurd (other at q), λ bad. absurd (urn_has_no_fault text (BadUuid at) urn bad))

pub memory_is_no_place : {U : Type 0} (r : Result U NameError) → IsErrAnd r (λ e. e ≡ Memory) → (at : ℕ) → r ≢ Err (BadUuid at)
memory_is_no_place (Ok u) h at q = cc
memory_is_no_place (Err e) h at q = cc

-- a text that was tested for the scheme has it
pub scheme_from_test : (text : List ℕ) (r : Bool) → r ≡ starts_with nat_eq text (codes "aff4://") → r ≡ true → HasScheme text
scheme_from_test text r value passed = record { rest = drop 7 text; is = (starts_is Decides-eqb text (codes "aff4://") r value).0 passed }
