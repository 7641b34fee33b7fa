-- One content that all readings witness.
use Rattle.std.proofs.Common.{◌≡◌, ◌≢◌, ℕ, ◌+◌, ◌-◌, ◌<◌, true, false, List, [], ◌∷◌, get_or, refl, sym, ap, ◌∙◌, arith}
use Rattle.std.specs.Prelude.{Option, None, Some, All, AllPairs, IfSome, MatchOption, nat_eq, slice_get, if◌then◌else◌}
use Rattle.std.specs.List.{AllByRecursion}
use Rattle.std.proofs.lemmas.Bool.{false≢true}
use Rattle.std.proofs.lemmas.List.Elements.{All-cons, All-head, All-nil, All-tail}
use Rattle.std.proofs.lemmas.Map.Keys.{IsDistinct-head, IsDistinct-tail}
use Rattle.aff_model.specs.declared.extent.Extent.{Extent}
use Rattle.aff_model.specs.Content.{Content}
use Rattle.aff_model.specs.Plan.{Planned, IsPlan, AreApart, has_place}
use Rattle.aff_model.proofs.Once.{AreOnce, extents_of}
use Rattle.aff_spec.proofs.Plans.{own_place, other_place}
use Rattle.aff_image.specs.Sound.{IsReading}
use Rattle.aff_image.specs.Witnesses.{Witnessed, AreWitnessed, IsWitnessed, history_of}
use Rattle.aff_image.proofs.Rows.{apart_at}

-- the byte of a place by a reading whose extent has it, else by the others
abbrev byte_by : Option Extent → List ℕ → ℕ → ℕ → ℕ
byte_by None bytes i others = others
byte_by (Some e) bytes i others = if has_place i e then get_or bytes (i - e.at) 0 else others

-- the bytes that the readings witness, each in its extent
abbrev byte_of : List Extent → List Witnessed → ℕ → ℕ
byte_of extents [] i = 0
byte_of extents (r ∷ readings) i = byte_by (slice_get extents r.published.extent) r.bytes i (byte_of extents readings i)

-- a function has the bytes that were read of each extent
abbrev Agrees : List Extent → (ℕ → ℕ) → List Witnessed → Type 0
Agrees extents f [] = Unit {0}
Agrees extents f (r ∷ readings) = ((e : Extent) (k : ℕ) → slice_get extents r.published.extent ≡ Some e → k < e.len → get_or r.bytes k 0 ≡ f (e.at + k)) × Agrees extents f readings

pub not_same : (n m : ℕ) → nat_eq n m ≡ false → n ≢ m
not_same n m h = grind (arith, h)

module _ (extents : List Extent) (apart : AllPairs AreApart extents) where
  -- the bytes of another extent change nothing
  agrees_over : (n : ℕ) (o : Option Extent) (bytes : List ℕ) (f : ℕ → ℕ) → slice_get extents n ≡ o → (readings : List Witnessed)
      → AllByRecursion (λ m. nat_eq n m ≡ false) (extents_of (history_of readings)) → Agrees extents f readings → Agrees extents (λ i. byte_by o bytes i (f i)) readings
  agrees_over n None bytes f at readings new agrees = agrees
  agrees_over n (Some e) bytes f at [] new agrees = tt
  agrees_over n (Some e) bytes f at (r ∷ readings) new agrees = (here, agrees_over n (Some e) bytes f at readings new.1 agrees.1)
    where
      here : (x : Extent) (k : ℕ) → slice_get extents r.published.extent ≡ Some x → k < x.len → get_or r.bytes k 0 ≡ byte_by (Some e) bytes (x.at + k) (f (x.at + k))
      here x k there below =
          let lacks : has_place (x.at + k) e ≡ false =
          other_place e x (x.at + k) (omega arith) (omega (arith, below)) (apart_at extents n r.published.extent e x apart (not_same n r.published.extent new.0) at there) in
          agrees.0 x k there below ∙ ap (λ b. if b then get_or bytes (x.at + k - e.at) 0 else f (x.at + k)) (sym lacks)

  agrees_own : (readings : List Witnessed) → AreOnce (history_of readings) → Agrees extents (byte_of extents readings) readings
  agrees_own [] once = tt
  agrees_own (r ∷ readings) once = (
    own,
    agrees_over r.published.extent (slice_get extents r.published.extent) r.bytes (byte_of extents readings) refl readings
        (IsDistinct-head nat_eq r.published.extent (extents_of (history_of readings)) once)
        (agrees_own readings (IsDistinct-tail nat_eq r.published.extent (extents_of (history_of readings)) once)),
  )
    where
      own : (e : Extent) (k : ℕ) → slice_get extents r.published.extent ≡ Some e → k < e.len → get_or r.bytes k 0 ≡ byte_of extents (r ∷ readings) (e.at + k)
      own e k there below =
          let has : has_place (e.at + k) e ≡ true = own_place e (e.at + k) (omega arith) (omega (arith, below)) in
          let back : k ≡ e.at + k - e.at = omega arith in
          ap (λ n. get_or r.bytes n 0) back
          ∙ ap (λ b. if b then get_or r.bytes (e.at + k - e.at) 0 else byte_of extents readings (e.at + k)) (sym has)
          ∙ ap (λ o. byte_by o r.bytes (e.at + k) (byte_of extents readings (e.at + k))) (sym there)

-- the content that readings witness of a device that tells nothing: every sector may fail, and none fails always
abbrev pub witnessed : (plan : Planned) → IsPlan plan.size plan.block plan.extents → List Witnessed → Content
witnessed plan is_plan readings = record {
  block = plan.block;
  byte = byte_of plan.extents readings;
  weak = λ _. true;
  bad = λ _. false;
  is_block = is_plan.is_block;
  bad_is_weak = λ s h. refl;
  weak_together = λ s t h. refl;
  bad_together = λ s t h. refl;
}

-- readings of an untold content are of that one
module _ (plan : Planned) (is_plan : IsPlan plan.size plan.block plan.extents) (all : List Witnessed) where
  reading_of : (r : Witnessed) (o : Option Extent) → slice_get plan.extents r.published.extent ≡ o
      → ((e : Extent) (k : ℕ) → slice_get plan.extents r.published.extent ≡ Some e → k < e.len → get_or r.bytes k 0 ≡ byte_of plan.extents all (e.at + k))
      → MatchOption o ⊥ (λ e. IsReading None plan.block e r.bytes r.published.bad r.published.places)
      → MatchOption o ⊥ (λ e. IsReading (Some (witnessed plan is_plan all)) plan.block e r.bytes r.published.bad r.published.places)
  reading_of r None at agrees reading = reading
  reading_of r (Some e) at agrees reading = record {
    len = reading.len;
    fits = record {
      rising = reading.fits.rising;
      inside = reading.fits.inside;
      together = reading.fits.together;
      weak = λ k d below. refl;
      every_bad = λ s low marked. absurd (false≢true marked);
    };
    known = λ k below read. agrees e k at (omega (arith, below, reading.len));
    zero = reading.zero;
    count = reading.count;
    placed = reading.placed;
  }

  readings_of : (readings : List Witnessed) → Agrees plan.extents (byte_of plan.extents all) readings → All (IsWitnessed None plan) readings
      → All (IsWitnessed (Some (witnessed plan is_plan all)) plan) readings
  readings_of [] agrees each = All-nil (IsWitnessed (Some (witnessed plan is_plan all)) plan)
  readings_of (r ∷ readings) agrees each =
      All-cons (IsWitnessed (Some (witnessed plan is_plan all)) plan) r readings
      (reading_of r (slice_get plan.extents r.published.extent) refl agrees.0 (All-head (IsWitnessed None plan) r readings each))
      (readings_of readings agrees.1 (All-tail (IsWitnessed None plan) r readings each))

-- the readings are of one content: the case's, where that is told, else one whose sectors are all weak and none bad
pub record OneContent (case : Option Content) (plan : Planned) (workers : ℕ) (readings : List Witnessed) : Type 0 where
  pub content : Content
  pub is_case : IfSome case (λ c. content ≡ c)
  pub block : IfSome case (λ c. c.block ≡ plan.block) → content.block ≡ plan.block
  pub untold : case ≡ None → (s : ℕ) → (content.weak s ≡ true) × (content.bad s ≡ false)
  pub are : AreWitnessed (Some content) plan workers readings

pub one_content : (case : Option Content) (plan : Planned) (workers : ℕ) (readings : List Witnessed) → IsPlan plan.size plan.block plan.extents
    → AreWitnessed case plan workers readings → OneContent case plan workers readings
one_content None plan workers readings is_plan are = record {
  content = witnessed plan is_plan readings;
  is_case = tt;
  block = λ h. refl;
  untold = λ h s. (refl, refl);
  are = record {
    each = readings_of plan is_plan readings readings (agrees_own plan.extents is_plan.apart readings are.once) are.each;
    claimants = are.claimants;
    once = are.once;
    numbered = are.numbered;
  };
}
one_content (Some c) plan workers readings is_plan are = record { content = c; is_case = refl; block = λ h. h; untold = λ h. absurd (cc h); are = are }
