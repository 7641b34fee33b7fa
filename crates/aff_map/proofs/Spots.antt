-- The spots of a history, by the publications in the order of the image.
use Rattle.std.proofs.Common.{◌≡◌, ℕ, zero, suc, ◌+◌, ◌<◌, ◌≤◌, ◌⊎◌, true, false, cond, List, [], ◌∷◌, length, get_or, map, refl, sym, ap, ◌∙◌, subst, arith, inl, inr}
use Rattle.std.specs.Prelude.{Option, Some, None, slice_get}
use Rattle.std.specs.List.{All}
use Rattle.std.proofs.lemmas.Bool.{cases_lt}
use Rattle.std.proofs.lemmas.Bool.Decides.{nat_tests}
use Rattle.std.proofs.lemmas.List.{get_or_default, length-map}
use Rattle.std.proofs.lemmas.Option.{none-some, same_Some, slice_get_within, get_or_from_slice_get}
use Rattle.aff_model.specs.declared.extent.Extent.{Extent}
use Rattle.aff_model.specs.History.{Part, Published, publication_of}
use Rattle.aff_model.specs.declared.publication.Place.{Place}
use Rattle.aff_model.specs.Plan.{has_place}
use Rattle.aff_model.proofs.Sectors.{IsSectored, IsSectorPlan}
use Rattle.aff_fields.specs.declared.entry.Entry.{Entry}
use Rattle.aff_fields.specs.Entry.{FitsEntry}
use Rattle.aff_spec.specs.Runs.{Spot, AreGreatestRuns, history_spot, published_spot, spot_by}
use Rattle.aff_map.specs.declared.order.Turn.{Turn}
use Rattle.aff_map.specs.Building.{Adds, AreRunsBelow, extent_spot}
use Rattle.aff_map.specs.Mappable.{AreMappable, IsMappable}
use Rattle.aff_map.specs.Turns.{AreTurns, IsTurnOf}
use Rattle.aff_map.proofs.Below.{AreGreatestRuns-from_below, AreRunsBelow-gap, AreRunsBelow-nil}
use Rattle.aff_map.proofs.InOrder.{extent_of}

-- the publication's extent, if there is one, has not the place
Misses : List Extent → ℕ → Published → Type 0
Misses extents i p = (e : Extent) → slice_get extents p.extent ≡ Some e → has_place i e ≡ false

spot_by-misses : (o : Option Extent) (p : Published) (i : ℕ) (others : Option Spot) → ((e : Extent) → o ≡ Some e → has_place i e ≡ false) → spot_by o p i others ≡ others
spot_by-misses None p i others misses = refl
spot_by-misses (Some e) p i others misses = ap (λ b. cond b (published_spot e p i) others) (misses e refl)

-- no publication has the place
history_spot-none : (extents : List Extent) (history : List Published) (i : ℕ) → ((k : ℕ) (p : Published) → slice_get history k ≡ Some p → Misses extents i p) → history_spot extents history i ≡ None
unfolding Misses
history_spot-none extents [] i miss = refl
history_spot-none extents (p ∷ history) i miss =
    spot_by-misses (slice_get extents p.extent) p i (history_spot extents history i) (miss zero p refl)
    ∙ history_spot-none extents history i (λ k q at. miss (suc k) q at)

-- one publication alone has the place
history_spot-one : (extents : List Extent) (history : List Published) (i n : ℕ) (p : Published) (e : Extent) → slice_get history n ≡ Some p → slice_get extents p.extent ≡ Some e → has_place i e ≡ true
    → ((k : ℕ) (q : Published) → slice_get history k ≡ Some q → ¬ (k ≡ n) → Misses extents i q) → history_spot extents history i ≡ published_spot e p i
unfolding Misses
history_spot-one extents [] i n p e at there has others = absurd (none-some p at)
history_spot-one extents (q ∷ history) i zero p e at there has others =
    let same : q ≡ p = same_Some q p at in
    ap (λ (r : Published). spot_by (slice_get extents r.extent) r i (history_spot extents history i)) same
    ∙ ap (λ o. spot_by o p i (history_spot extents history i)) there
    ∙ ap (λ b. cond b (published_spot e p i) (history_spot extents history i)) has
history_spot-one extents (q ∷ history) i (suc n) p e at there has others =
    spot_by-misses (slice_get extents q.extent) q i (history_spot extents history i) (others zero q refl (λ h. omega arith))
    ∙ history_spot-one extents history i n p e at there has (λ k r here differ. others (suc k) r here (λ h. differ (omega arith)))

has_place-before : (i : ℕ) (e : Extent) → i < e.at → has_place i e ≡ false
has_place-before i e h = grind (arith, nat_tests)

has_place-after : (i : ℕ) (e : Extent) → e.at + e.len ≤ i → has_place i e ≡ false
has_place-after i e h = grind (arith, nat_tests)

has_place-within : (i : ℕ) (e : Extent) → e.at ≤ i → i < e.at + e.len → has_place i e ≡ true
has_place-within i e h k = grind (arith, nat_tests)

-- the turn's extent has not the place
IsAside : ℕ → Turn → Type 0
IsAside i t = (t.extent.at + t.extent.len ≤ i) ⊎ (i < t.extent.at)

has_place-aside : (i : ℕ) (e : Extent) → (e.at + e.len ≤ i) ⊎ (i < e.at) → has_place i e ≡ false
has_place-aside i e aside = elim aside [ inl after ↦ has_place-after i e after | inr before ↦ has_place-before i e before ]

-- the extent of a turn is that of its publication
same_extent : (extents : List Extent) (history : List Published) (t : Turn) (p : Published) (e : Extent) → IsTurnOf extents history t → slice_get history t.number ≡ Some p → slice_get extents p.extent ≡ Some e → e ≡ t.extent
same_extent extents history t p e is at there =
    let same : is.0 ≡ p = same_Some is.0 p (sym is.1 ∙ at) in
    same_Some e t.extent (sym there ∙ ap (λ (q : Published). slice_get extents q.extent) (sym same) ∙ is.2)

-- a publication misses a place where its turn does
misses_by_turn : (extents : List Extent) (history : List Published) (turns : List Turn) (i k m : ℕ) (d : Turn) (p : Published) → AreTurns extents history turns → slice_get history k ≡ Some p → m < length turns → (get_or turns m d).number ≡ k → IsAside i (get_or turns m d) → Misses extents i p
unfolding Misses IsAside
misses_by_turn extents history turns i k m d p are at below number aside e there =
    let same : e ≡ (get_or turns m d).extent = same_extent extents history (get_or turns m d) p e (are.each m d below) (ap (slice_get history) number ∙ at) there in
    subst (λ (f : Extent). has_place i f ≡ false) (sym same) (has_place-aside i (get_or turns m d).extent aside)

-- no turn has the place
spot-none : (extents : List Extent) (history : List Published) (turns : List Turn) (i : ℕ) (d : Turn) → AreTurns extents history turns → ((m : ℕ) → m < length turns → IsAside i (get_or turns m d)) → history_spot extents history i ≡ None
spot-none extents history turns i d are aside =
    history_spot-none extents history i (λ k p at.
    let found = are.every k (slice_get_within history k p at) in
    misses_by_turn extents history turns i k found.0 d p are at found.1 (found.2 d) (aside found.0 found.1))

-- the turn at a place of the order has the byte
spot-turn : (extents : List Extent) (history : List Published) (turns : List Turn) (i m : ℕ) (d : Turn) (p : Published) → AreTurns extents history turns → m < length turns → slice_get history (get_or turns m d).number ≡ Some p
    → (get_or turns m d).extent.at ≤ i → i < (get_or turns m d).extent.at + (get_or turns m d).extent.len → history_spot extents history i ≡ published_spot (get_or turns m d).extent p i
unfolding IsAside
spot-turn extents history turns i m d p are below at low high =
    let is : IsTurnOf extents history (get_or turns m d) = are.each m d below in
    let same : is.0 ≡ p = same_Some is.0 p (sym is.1 ∙ at) in
    let there : slice_get extents p.extent ≡ Some (get_or turns m d).extent = ap (λ (q : Published). slice_get extents q.extent) (sym same) ∙ is.2 in
    history_spot-one extents history i (get_or turns m d).number p (get_or turns m d).extent at there (has_place-within i (get_or turns m d).extent low high)
    (λ k q here differ.
    let found = are.every k (slice_get_within history k q here) in
    let other : ¬ (found.0 ≡ m) = λ h. differ (sym (found.2 d) ∙ ap (λ j. (get_or turns j d).number) h) in
    let aside : IsAside i (get_or turns found.0 d) = elim (cases_lt found.0 m) [
      | inl earlier ↦ let order = are.ordered found.0 m d earlier below in inl (omega (arith, order, low))
      | inr later ↦ let order = are.ordered m found.0 d (omega (arith, other, later)) found.1 in inr (omega (arith, order, high))
    ] in
    misses_by_turn extents history turns i k found.0 d q are here found.1 (found.2 d) aside)

-- the first k turns end at or before the place, and the others begin there or behind it
pub record IsBetween (turns : List Turn) (k n : ℕ) : Type 0 where
  pub done : (m : ℕ) (d : Turn) → m < k → m < length turns → (get_or turns m d).extent.at + (get_or turns m d).extent.len ≤ n
  pub rest : (m : ℕ) (d : Turn) → k ≤ m → m < length turns → n ≤ (get_or turns m d).extent.at

-- the map of the first k turns
pub record IsMapOf (extents : List Extent) (history : List Published) (turns : List Turn) (k : ℕ) (entries : List Entry) : Type 0 where
  pub runs : (n : ℕ) → IsBetween turns k n → AreRunsBelow (history_spot extents history) n entries
  pub fits : All FitsEntry entries

aside_between : (turns : List Turn) (k n i m : ℕ) (d : Turn) → IsBetween turns k n → i < n → ((j : ℕ) → j < k → j < length turns → (get_or turns j d).extent.at + (get_or turns j d).extent.len ≤ i) → m < length turns → IsAside i (get_or turns m d)
unfolding IsAside
aside_between turns k n i m d between low done below = elim (cases_lt m k) [
  | inl earlier ↦ inl (done m earlier below)
  | inr later ↦ let h = between.rest m d later below in inr (omega (arith, h, low))
]

any_turn : Turn
any_turn = record { extent = record { at = 0; len = 0; priority = 0 }; number = 0 }

pub IsMapOf-none : (extents : List Extent) (history : List Published) (turns : List Turn) → AreTurns extents history turns → IsMapOf extents history turns 0 []
IsMapOf-none extents history turns are = record {
  runs = λ n between. AreRunsBelow-nil (history_spot extents history) n (λ i low.
      spot-none extents history turns i any_turn are (λ m below. aside_between turns 0 n i m any_turn between low (λ j h k. absurd (omega arith)) below));
  fits = λ k d below. absurd (omega arith);
}

pub IsMapOf-more : (extents : List Extent) (history : List Published) (turns : List Turn) (k : ℕ) (d : Turn) (p : Published) (old new : List Entry) → AreTurns extents history turns → k < length turns → slice_get history (get_or turns k d).number ≡ Some p
    → IsMapOf extents history turns k old
    → Adds (get_or turns k d).extent.at ((get_or turns k d).extent.at + (get_or turns k d).extent.len) (published_spot (get_or turns k d).extent p) old new
    → IsMapOf extents history turns (k + 1) new
IsMapOf-more extents history turns k d p old new are below at map adds = record {
  runs = λ n between.
      let start : ℕ = (get_or turns k d).extent.at in
      let end : ℕ = (get_or turns k d).extent.at + (get_or turns k d).extent.len in
      let here : IsBetween turns k (get_or turns k d).extent.at = record {
        done = λ m f early inside. subst (λ (t : Turn). (get_or turns m f).extent.at + (get_or turns m f).extent.len ≤ t.extent.at) (get_or_default turns k f d below) (are.ordered m k f early below);
        rest = λ m f late inside. elim (cases_lt k m) [
          | inl behind ↦
              let order : (get_or turns k f).extent.at + (get_or turns k f).extent.len ≤ (get_or turns m f).extent.at = are.ordered k m f behind inside in
              let same : get_or turns k f ≡ get_or turns k d = get_or_default turns k f d below in
              subst (λ (t : Turn). t.extent.at ≤ (get_or turns m f).extent.at) same (omega arith)
          | inr not_behind ↦
              let equal : k ≡ m = omega arith in
              subst (λ j. (get_or turns k d).extent.at ≤ (get_or turns j f).extent.at) equal (subst (λ (t : Turn). (get_or turns k d).extent.at ≤ t.extent.at) (sym (get_or_default turns k f d below)) (omega arith))
        ];
      } in
      let ended : (get_or turns k d).extent.at + (get_or turns k d).extent.len ≤ n = between.done k d (omega arith) below in
      let runs : AreRunsBelow (history_spot extents history) ((get_or turns k d).extent.at + (get_or turns k d).extent.len) new =
      adds.runs (history_spot extents history) (map.runs (get_or turns k d).extent.at here) (λ i low high. sym (spot-turn extents history turns i k d p are below at low high)) in
      AreRunsBelow-gap (history_spot extents history) ((get_or turns k d).extent.at + (get_or turns k d).extent.len) n new runs ended
      (λ i low high. spot-none extents history turns i d are (λ m inside. aside_between turns (k + 1) n i m d between high (λ j early lower.
      elim (cases_lt j k) [
        | inl before ↦ let order = are.ordered j k d before below in omega (arith, order, low)
        | inr last ↦ let equal : k ≡ j = omega arith in subst (λ q. (get_or turns q d).extent.at + (get_or turns q d).extent.len ≤ i) equal low
      ]) inside));
  fits = adds.fits map.fits;
}

-- a turn has the number of a piece
pub turn_in_range : {A : Type 0} (view : A → Published) (extents : List Extent) (xs : List A) (t : Turn) → IsTurnOf extents (map view xs) t → t.number < length xs
turn_in_range view extents xs t is = omega (arith, slice_get_within (map view xs) t.number is.0 is.1, length-map xs view)

-- what a plan and a publication say of a turn
pub turn_extent : (size : ℕ) (extents : List Extent) (history : List Published) (t : Turn) → IsSectorPlan size extents → IsTurnOf extents history t → IsSectored size t.extent
turn_extent size extents history t plan is =
    let below : is.0.extent < length extents = slice_get_within extents is.0.extent t.extent is.2 in
    subst (IsSectored size) (get_or_from_slice_get extents is.0.extent t.extent t.extent is.2) (plan.each is.0.extent t.extent below)

pub turn_mappable : (extents : List Extent) (history : List Published) (t : Turn) (p : Published) → AreMappable extents history → IsTurnOf extents history t → slice_get history t.number ≡ Some p → IsMappable t.extent p
turn_mappable extents history t p mappable is at =
    let told = extent_of extents history t.number p mappable at in
    subst (λ (e : Extent). IsMappable e p) (same_extent extents history t p told.0 is at told.1) told.2

turns_end : (size n : ℕ) (extents : List Extent) (history : List Published) (turns : List Turn) → IsSectorPlan size extents → AreTurns extents history turns → size ≤ n → IsBetween turns (length turns) n
turns_end size n extents history turns plan are large = record {
  done = λ m d early below. let inside = (turn_extent size extents history (get_or turns m d) plan (are.each m d below)).inside in omega (arith, inside, large);
  rest = λ m d late below. absurd (omega arith);
}

pub IsMapOf-runs : (size : ℕ) (extents : List Extent) (history : List Published) (turns : List Turn) (entries : List Entry) → IsSectorPlan size extents → AreTurns extents history turns → IsMapOf extents history turns (length turns) entries → AreGreatestRuns (history_spot extents history) entries
IsMapOf-runs size extents history turns entries plan are map =
    AreGreatestRuns-from_below (history_spot extents history) entries (λ n. (n + size, omega arith, map.runs (n + size) (turns_end size (n + size) extents history turns plan are (omega arith))))

pub IsMapOf-inside : (size : ℕ) (extents : List Extent) (history : List Published) (turns : List Turn) (entries : List Entry) → IsSectorPlan size extents → AreTurns extents history turns → IsMapOf extents history turns (length turns) entries → All (λ e. e.at + e.len ≤ size) entries
IsMapOf-inside size extents history turns entries plan are map = (map.runs size (turns_end size size extents history turns plan are (omega arith))).ends

-- the turns, by what the code reads of them
pub AreTurns-read : (extents given : List Extent) (history : List Published) (turns items : List Turn) → AreTurns given history items → given ≡ extents → turns ≡ items → AreTurns extents history turns
AreTurns-read extents given history turns items are same read =
    subst (AreTurns extents history) (sym read) (subst (λ (es : List Extent). AreTurns es history items) same are)

-- the spots of a piece's extent, by what the code reads of the piece
pub Adds-published : {R : Type 0} (e : Extent) (from to : ℕ) (v w : Part R) (bad : List ℕ) (places : List Place) (old new : List Entry) → w ≡ v → bad ≡ w.bad → places ≡ w.places
    → Adds from to (extent_spot e bad places) old new → Adds from to (published_spot e (publication_of v)) old new
Adds-published {R} e from to v w bad places old new same is_bad is_places adds =
    subst (λ (u : Part R). Adds from to (published_spot e (publication_of u)) old new) same
    (subst (λ (ps : List Place). Adds from to (extent_spot e w.bad ps) old new) is_places (subst (λ (bs : List ℕ). Adds from to (extent_spot e bs places) old new) is_bad adds))
