-- Pieces, their extents, and their order in the image.
use Rattle.std.proofs.Common.{◌≡◌, ℕ, ◌+◌, ◌<◌, ◌≤◌, ◌⊎◌, ◌++◌, false, List, [], ◌∷◌, length, get_or, map, refl, sym, ap, ◌∙◌, subst, arith, inl, inr, nat_eq}
use Rattle.std.specs.Prelude.{Option, Some, None, slice_get, AllPairs, MatchOption}
use Rattle.std.specs.Arc.{arc_value}
use Rattle.std.specs.declared.sync.Arc.{Arc}
use Rattle.std.specs.List.{All, Contains, IsDistinct}
use Rattle.std.specs.List.Sorted.{IsNonDecreasingBy, IsPermutation}
use Rattle.std.specs.Option.{option_map}
use Rattle.std.proofs.lemmas.Bool.{cases_lt}
use Rattle.std.proofs.lemmas.Bool.Decides.{nat_tests}
use Rattle.std.proofs.lemmas.List.{get_or_append_left, get_or_default, get_or-map, get_or_push, length-map, length_push}
use Rattle.std.proofs.lemmas.List.Elements.{Contains-get_or}
use Rattle.std.proofs.lemmas.List.Sorted.{All-permutation, Contains-permutation, IsPermutation-map}
use Rattle.std.proofs.lemmas.Map.Keys.{apart_from_distinct, IsDistinct-from_apart, IsDistinct-IsPermutation}
use Rattle.std.proofs.lemmas.Option.{slice_get-get_or, slice_get-map, slice_get_read, slice_get_within, get_or_from_slice_get}
use Rattle.aff_model.specs.declared.extent.Extent.{Extent}
use Rattle.aff_model.specs.History.{Part, Published, publication_of}
use Rattle.aff_model.specs.Plan.{AreApart}
use Rattle.aff_map.specs.declared.order.Turn.{Turn}
use Rattle.aff_model.specs.Pieces.{published}
use Rattle.aff_map.specs.Mappable.{AreMappable, IsMappable}
use Rattle.aff_map.specs.Turns.{AreGathered, AreTurns, IsTurnOf}

-- the publication that is read at a place
pub published_at : {A : Type 0} (view : A → Published) (xs : List A) (k : ℕ) (x : A) → k < length xs → x ≡ get_or xs k x → slice_get (map view xs) k ≡ Some (view x)
published_at view xs k x below read = slice_get-map view xs k ∙ ap (option_map view) (slice_get_read xs (length xs) k x refl below read)

opened : (o : Option Extent) (p : Published) → MatchOption o ⊥ (λ e. IsMappable e p) → (e : Extent) × (o ≡ Some e) × IsMappable e p
opened None p told = absurd told
opened (Some e) p told = (e, refl, told)

-- a publication's extent, by which it has a map
pub extent_of : (extents : List Extent) (history : List Published) (k : ℕ) (p : Published) → AreMappable extents history → slice_get history k ≡ Some p
    → (e : Extent) × (slice_get extents p.extent ≡ Some e) × IsMappable e p
extent_of extents history k p mappable here =
    let below : k < length history = slice_get_within history k p here in
    let same : get_or history k p ≡ p = get_or_from_slice_get history k p p here in
    opened (slice_get extents p.extent) p (subst (λ (q : Published). MatchOption (slice_get extents q.extent) ⊥ (λ e. IsMappable e q)) same (mappable.published k p below))

pub extent_in_range : (extents : List Extent) (history : List Published) (k : ℕ) (p : Published) → AreMappable extents history → slice_get history k ≡ Some p → p.extent < length extents
extent_in_range extents history k p mappable here =
    let e = extent_of extents history k p mappable here in
    slice_get_within extents p.extent e.0 e.1

-- the publications of two numbers are of two extents
distinct_extents : (extents : List Extent) (history : List Published) (j k : ℕ) (p q : Published) → AreMappable extents history → slice_get history j ≡ Some p → slice_get history k ≡ Some q → j < k → ¬ (p.extent ≡ q.extent)
distinct_extents extents history j k p q mappable at_j at_k h same =
    let below : k < length history = slice_get_within history k q at_k in
    let long : length (map (λ (r : Published). r.extent) history) ≡ length history = length-map history (λ (r : Published). r.extent) in
    let told : nat_eq (get_or (map (λ (r : Published). r.extent) history) j 0) (get_or (map (λ (r : Published). r.extent) history) k 0) ≡ false =
    apart_from_distinct nat_eq (map (λ (r : Published). r.extent) history) j k 0 mappable.once h (omega arith) in
    let first : get_or (map (λ (r : Published). r.extent) history) j 0 ≡ p.extent = get_or-map (λ (r : Published). r.extent) history j p 0 (omega arith) ∙ ap (λ (r : Published). r.extent) (get_or_from_slice_get history j p p at_j) in
    let second : get_or (map (λ (r : Published). r.extent) history) k 0 ≡ q.extent = get_or-map (λ (r : Published). r.extent) history k q 0 below ∙ ap (λ (r : Published). r.extent) (get_or_from_slice_get history k q q at_k) in
    let equal : get_or (map (λ (r : Published). r.extent) history) j 0 ≡ get_or (map (λ (r : Published). r.extent) history) k 0 = first ∙ same ∙ sym second in
    grind (arith, nat_tests)

-- two extents of a list whose extents are apart
apart : (extents : List Extent) (j k : ℕ) (e f : Extent) → AllPairs AreApart extents → slice_get extents j ≡ Some e → slice_get extents k ≡ Some f → ¬ (j ≡ k) → (e.at + e.len ≤ f.at) ⊎ (f.at + f.len ≤ e.at)
apart extents j k e f pairs at_j at_k differ =
    let low_j : j < length extents = slice_get_within extents j e at_j in
    let low_k : k < length extents = slice_get_within extents k f at_k in
    let is_e : get_or extents j e ≡ e = get_or_from_slice_get extents j e e at_j in
    let is_f : get_or extents k e ≡ f = get_or_from_slice_get extents k f e at_k in
    elim (cases_lt j k) [
      | inl below ↦ subst (λ (x : Extent). AreApart x f) is_e (subst (λ (y : Extent). AreApart (get_or extents j e) y) is_f (pairs j k e below low_k))
      | inr above ↦
          let h : k < j = omega arith in
          let other : AreApart f e = subst (λ (x : Extent). AreApart x e) is_f (subst (λ (y : Extent). AreApart (get_or extents k e) y) is_e (pairs k j e h low_j)) in
          elim other [ inl a ↦ inr a | inr a ↦ inl a ]
    ]

-- turns of two numbers share no byte
pub turns_apart : (extents : List Extent) (history : List Published) (t u : Turn) → AreMappable extents history → AllPairs AreApart extents → IsTurnOf extents history t → IsTurnOf extents history u → ¬ (t.number ≡ u.number)
    → (t.extent.at + t.extent.len ≤ u.extent.at) ⊎ (u.extent.at + u.extent.len ≤ t.extent.at)
turns_apart extents history t u mappable pairs is_t is_u differ =
    apart extents is_t.0.extent is_u.0.extent t.extent u.extent pairs is_t.2 is_u.2
    (λ same. elim (cases_lt t.number u.number) [
      | inl below ↦ distinct_extents extents history t.number u.number is_t.0 is_u.0 mappable is_t.1 is_u.1 below same
      | inr above ↦ distinct_extents extents history u.number t.number is_u.0 is_t.0 mappable is_u.1 is_t.1 (omega arith) (sym same)
    ])

-- a turn's extent has bytes
turn_some : (extents : List Extent) (history : List Published) (t : Turn) → All (λ (e : Extent). 0 < e.len) extents → IsTurnOf extents history t → 0 < t.extent.len
turn_some extents history t some is =
    let below : is.0.extent < length extents = slice_get_within extents is.0.extent t.extent is.2 in
    subst (λ (e : Extent). 0 < e.len) (get_or_from_slice_get extents is.0.extent t.extent t.extent is.2) (some is.0.extent t.extent below)

nat_eq-flips : (x y : ℕ) → nat_eq x y ≡ nat_eq y x
nat_eq-flips x y = grind (arith, nat_tests)

nat_eq-differ : (x y : ℕ) → x < y → nat_eq x y ≡ false
nat_eq-differ x y h = grind (arith, nat_tests)

same_false : (x y : ℕ) → x ≡ y → ¬ (nat_eq x y ≡ false)
same_false x y same told = grind (arith, nat_tests)

-- the gathered turns have their numbers once, and so have the sorted ones
numbers_once : (extents : List Extent) (history : List Published) (gathered turns : List Turn) → AreGathered extents history gathered → IsPermutation gathered turns → IsDistinct nat_eq (map (λ (t : Turn). t.number) turns)
numbers_once extents history gathered turns is moved =
    let long : length (map (λ (t : Turn). t.number) gathered) ≡ length gathered = length-map gathered (λ (t : Turn). t.number) in
    IsDistinct-IsPermutation nat_eq nat_eq-flips (map (λ (t : Turn). t.number) gathered) (map (λ (t : Turn). t.number) turns) (IsPermutation-map (λ (t : Turn). t.number) gathered turns moved)
    (IsDistinct-from_apart nat_eq (map (λ (t : Turn). t.number) gathered) (λ i j d h below.
    let any : Turn = record { extent = record { at = 0; len = 0; priority = 0 }; number = 0 } in
    let first : get_or (map (λ (t : Turn). t.number) gathered) i d ≡ i = get_or-map (λ (t : Turn). t.number) gathered i any d (omega arith) ∙ is.numbers i any (omega arith) in
    let second : get_or (map (λ (t : Turn). t.number) gathered) j d ≡ j = get_or-map (λ (t : Turn). t.number) gathered j any d (omega arith) ∙ is.numbers j any (omega arith) in
    rw (first, second) (nat_eq-differ i j h)))

-- the turns in the order of the image, by a sort
pub AreTurns-from_sort : (extents : List Extent) (history : List Published) (gathered turns : List Turn) → AreMappable extents history → AllPairs AreApart extents → All (λ (e : Extent). 0 < e.len) extents
    → AreGathered extents history gathered → IsPermutation gathered turns → IsNonDecreasingBy (λ (t : Turn). t.extent.at) turns → AreTurns extents history turns
AreTurns-from_sort extents history gathered turns mappable pairs some is moved rises =
    let each : All (IsTurnOf extents history) turns = All-permutation (IsTurnOf extents history) gathered turns moved is.each in
    let once : IsDistinct nat_eq (map (λ (t : Turn). t.number) turns) = numbers_once extents history gathered turns is moved in
    let long : length (map (λ (t : Turn). t.number) turns) ≡ length turns = length-map turns (λ (t : Turn). t.number) in
    record {
      each = each;
      every = λ k below.
          let any : Turn = record { extent = record { at = 0; len = 0; priority = 0 }; number = 0 } in
          let inside : k < length gathered = omega (arith, is.count) in
          let found : Contains turns (get_or gathered k any) = Contains-permutation gathered turns (get_or gathered k any) moved (Contains-get_or gathered k any inside) in
          (found.0, found.1, λ d. ap (λ (t : Turn). t.number) (get_or_default turns found.0 d (get_or gathered k any) found.1 ∙ found.2) ∙ is.numbers k any inside);
      ordered = λ i j d h below.
          let rise : (get_or turns i d).extent.at ≤ (get_or turns j d).extent.at = rises i j d (omega arith) below in
          let first : get_or (map (λ (t : Turn). t.number) turns) i 0 ≡ (get_or turns i d).number = get_or-map (λ (t : Turn). t.number) turns i d 0 (omega arith) in
          let second : get_or (map (λ (t : Turn). t.number) turns) j 0 ≡ (get_or turns j d).number = get_or-map (λ (t : Turn). t.number) turns j d 0 below in
          let told : nat_eq (get_or (map (λ (t : Turn). t.number) turns) i 0) (get_or (map (λ (t : Turn). t.number) turns) j 0) ≡ false = apart_from_distinct nat_eq (map (λ (t : Turn). t.number) turns) i j 0 once h (omega arith) in
          let bytes : 0 < (get_or turns j d).extent.len = turn_some extents history (get_or turns j d) some (each j d below) in
          elim (turns_apart extents history (get_or turns i d) (get_or turns j d) mappable pairs (each i d (omega arith)) (each j d below) (λ same. same_false _ _ (first ∙ same ∙ sym second) told)) [
            | inl before ↦ before
            | inr behind ↦ absurd (omega arith)
          ];
    }

-- one more turn, while they are gathered
pub gathered_more : (extents : List Extent) (history : List Published) (turns : List Turn) (t : Turn) → ((k : ℕ) (d : Turn) → k < length turns → (get_or turns k d).number ≡ k) → t.number ≡ length turns
    → (k : ℕ) (d : Turn) → k < length (turns ++ t ∷ []) → (get_or (turns ++ t ∷ []) k d).number ≡ k
gathered_more extents history turns t numbers is k d below =
    let long : length (turns ++ t ∷ []) ≡ length turns + 1 = length_push turns t in
    elim (cases_lt k (length turns)) [
      | inl inner ↦ ap (λ (u : Turn). u.number) (get_or_append_left turns (t ∷ []) d k inner) ∙ numbers k d inner
      | inr outer ↦
          let at_end : length turns ≡ k = omega arith in
          ap (λ (u : Turn). u.number) (get_or_push turns t d k at_end) ∙ is ∙ at_end
    ]

-- the publication of the piece that is read at a place
pub piece_at : {R Z : Type 0} (pieces : List (Arc (Part R) Z)) (k : ℕ) (a : Arc (Part R) Z) (v : Part R) → k < length pieces → a ≡ get_or pieces k a → v ≡ arc_value a → slice_get (map published pieces) k ≡ Some (publication_of v)
piece_at {R} pieces k a v below read is = published_at published pieces k a below read ∙ ap (λ (w : Part R). Some (publication_of w)) (sym is)

-- the extent of the piece that is read at a place
pub piece_in_range : {R Z : Type 0} (extents : List Extent) (pieces : List (Arc (Part R) Z)) (k : ℕ) (a : Arc (Part R) Z) (v : Part R) → AreMappable extents (map published pieces) → k < length pieces → a ≡ get_or pieces k a → v ≡ arc_value a → v.extent < length extents
piece_in_range {R} extents pieces k a v mappable below read is =
    subst (λ (w : Part R). w.extent < length extents) (sym is) (extent_in_range extents (map published pieces) k (published a) mappable (published_at published pieces k a below read))

pub turn_of_piece : {R Z : Type 0} (extents : List Extent) (pieces : List (Arc (Part R) Z)) (k : ℕ) (a : Arc (Part R) Z) (v : Part R) (d : Extent) → AreMappable extents (map published pieces) → k < length pieces → a ≡ get_or pieces k a → v ≡ arc_value a
    → IsTurnOf extents (map published pieces) (record { extent = get_or extents v.extent d; number = k })
turn_of_piece {R} extents pieces k a v d mappable below read is =
    let range : v.extent < length extents = piece_in_range extents pieces k a v mappable below read is in
    (published a, published_at published pieces k a below read, ap (λ (w : Part R). slice_get extents w.extent) (sym is) ∙ slice_get-get_or extents v.extent d range)
