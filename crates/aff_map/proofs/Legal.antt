-- A legal history has a map.
use Rattle.std.proofs.Common.{◌≡◌, ℕ, zero, suc, ◌<◌, ◌≤◌, ◌^◌, List, [], ◌∷◌, length, get_or, refl, sym, ap, subst, zero-add, ◌∙◌, arith}
use Rattle.std.specs.Prelude.{Option, Some, None, slice_get, slice_index, MatchOption}
use Rattle.std.specs.List.{All, Contains}
use Rattle.std.proofs.lemmas.List.FromFn.{get_or-range_with_len}
use Rattle.std.proofs.lemmas.List.{get_or_default}
use Rattle.std.proofs.lemmas.List.Elements.{All-cons, All-nil, Contains-append_left, Contains-append_right}
use Rattle.aff_model.specs.declared.extent.Extent.{Extent}
use Rattle.aff_model.specs.declared.publication.Place.{Place}
use Rattle.aff_model.specs.declared.publication.Place.TheVariants.{Zero, Chunk, Nothing}
use Rattle.aff_model.specs.Content.{Content}
use Rattle.aff_model.specs.History.{Published}
use Rattle.aff_model.specs.Legal.{AreCounted, IsLegal, IsPublished, chunk_numbers, numbers_of}
use Rattle.aff_model.specs.Plan.{Planned}
use Rattle.aff_model.proofs.Once.{fresh_ones-once, once-from_readings}
use Rattle.aff_map.specs.Mappable.{AreMappable, IsMappable, IsNumbered}

first_in : {X : Type 0} (x : X) (xs : List X) → Contains (x ∷ xs) x
first_in x xs = (0, omega arith, refl)

later_in : {X : Type 0} (x y : X) (xs : List X) → Contains xs y → Contains (x ∷ xs) y
later_in x y xs c = Contains-append_right (x ∷ []) xs y c

numbered_places : (places : List Place) → ((c : ℕ) → Contains (numbers_of places) c → c < 2 ^ 48) → All IsNumbered places
numbered_places [] below = All-nil IsNumbered
numbered_places (Zero ∷ places) below = All-cons IsNumbered Zero places tt (numbered_places places below)
numbered_places (Nothing ∷ places) below = All-cons IsNumbered Nothing places tt (numbered_places places below)
numbered_places (Chunk c ∷ places) below =
    All-cons IsNumbered (Chunk c) places (below c (first_in c (numbers_of places))) (numbered_places places (λ d inside. below d (later_in c d (numbers_of places) inside)))

-- the numbers of one publication stand among those of the history
in_history : (history : List Published) (k : ℕ) (d : Published) (c : ℕ) → k < length history → Contains (numbers_of (get_or history k d).places) c → Contains (chunk_numbers history) c
in_history [] k d c below inside = absurd (omega (arith, below))
in_history (p ∷ history) zero d c below inside = Contains-append_left (numbers_of p.places) (chunk_numbers history) c inside
in_history (p ∷ history) (suc k) d c below inside = Contains-append_right (numbers_of p.places) (chunk_numbers history) c (in_history history k d c (omega (arith, below)) inside)

-- the numbers 0, 1, 2 and so on are below their count
below_count : (numbers : List ℕ) → AreCounted numbers → (c : ℕ) → Contains numbers c → c < length numbers
below_count numbers counts c inside =
    let at : get_or numbers inside.0 c ≡ inside.0 =
    ap (λ v. get_or v inside.0 c) counts ∙ get_or-range_with_len 0 (length numbers) inside.0 c inside.1 ∙ zero-add inside.0 in
    let same : c ≡ inside.0 = sym inside.2 ∙ at in
    omega (arith, inside.1, same)

mappable_in : (case : Option Content) (block : ℕ) (o : Option Extent) (p : Published) → All IsNumbered p.places → MatchOption o ⊥ (λ e. IsPublished case block e p) → MatchOption o ⊥ (λ e. IsMappable e p)
mappable_in case block None p numbered told = told
mappable_in case block (Some e) p numbered told = record { rising = told.fits.rising; count = told.count; numbered = numbered }

-- of fewer than 2 ^ 48 chunks
pub AreMappable-from_legal : (case : Option Content) (plan : Planned) (workers : ℕ) (history : List Published) → IsLegal case plan workers history → length (chunk_numbers history) ≤ 2 ^ 48
    → AreMappable plan.extents history
AreMappable-from_legal case plan workers history legal few =
    let once = once-from_readings history legal.readings in
    let counted : AreCounted (chunk_numbers history) = subst (λ v. AreCounted (chunk_numbers v)) (fresh_ones-once history once) legal.numbered in
    record {
      once = once;
      published = λ k d below.
          let numbered : All IsNumbered (get_or history k d).places = numbered_places (get_or history k d).places (λ c inside.
          let low : c < length (chunk_numbers history) = below_count (chunk_numbers history) counted c (in_history history k d c below inside) in
          omega (arith, low, few)) in
          mappable_in case plan.block (slice_get plan.extents (get_or history k d).extent) (get_or history k d) numbered (legal.published k d below);
    }
