-- The devices that were handed in, as they show.
use Rattle.std.proofs.Common.{◌≡◌, ℕ, ◌+◌, ◌<◌, ◌≤◌, List, [], ◌∷◌, length, get_or, map, refl, sym, ap, subst, ◌∙◌, arith, Some, inl, inr}
use Rattle.std.specs.Prelude.{All, slice_get}
use Rattle.std.proofs.lemmas.Bool.Decides.{leb_tells}
use Rattle.std.proofs.lemmas.List.{get_or-map, length-map}
use Rattle.std.proofs.lemmas.Option.{slice_get-get_or, slice_get_cases, get_or_from_slice_get}
use Rattle.aff_model.specs.declared.limits.TheConstants.{MAX_DEVICES}
use Rattle.aff_model.specs.Content.{IsBlock}
use Rattle.aff_command.specs.Devices.{ShownDevice, AreAlike, IsDeviceSize, IsFit}
use Rattle.aff_command.specs.Refusals.{IsFirst, Holds, AreRefused, rank}
use Rattle.aff_command.specs.declared.devices.Refusal.{Refusal}
use Rattle.aff_command.specs.declared.devices.Refusal.TheVariants.{Missing, Many, Block, Size, Differs}

-- what can be said by any element of a list that has one
pub by_element : {D T : Type 0} (xs : List D) (n : ℕ) → n < length xs → (D → T) → T
by_element xs n low say = elim (slice_get_cases xs n).1 [ inl there ↦ say there.0 | inr past ↦ absurd (omega (arith, low, past.0)) ]

module _ {D : Type 0} (f : D → ShownDevice) (P : ShownDevice → Type 0) where
  -- the first n devices have a property
  abbrev pub Before : List D → ℕ → Type 0
  Before xs n = (k : ℕ) (d : D) → k < n → P (f (get_or xs k d))

  pub more : (xs : List D) (n : ℕ) → Before xs n → ((d : D) → P (f (get_or xs n d))) → Before xs (n + 1)
  more xs n before here k d low = elim (leb_tells n k) [
    | inl up ↦ let same : n ≡ k = omega (arith, up.1, low) in subst (λ i. P (f (get_or xs i d))) same (here d)
    | inr less ↦ before k d less.1
  ]

  -- all of them have it
  pub all_have : (xs : List D) → Before xs (length xs) → All P (map f xs)
  all_have xs before i e low =
      let below : i < length xs = omega (arith, low, length-map xs f) in
      by_element xs i below (λ d. subst P (sym (get_or-map f xs i d e below)) (before i d below))

  -- and each has what all have
  pub at_element : (xs : List D) (n : ℕ) (d : D) → n < length xs → All P (map f xs) → P (f (get_or xs n d))
  at_element xs n d low all = subst P (get_or-map f xs n d (f d) low) (all n (f d) (omega (arith, low, length-map xs f)))

  -- the first that has it not
  pub first_without : (xs : List D) (n : ℕ) → n < length xs → Before xs n → ((d : D) → ¬ (P (f (get_or xs n d)))) → (d : D) → IsFirst (λ e. ¬ (P e)) (map f xs) n (f (get_or xs n d))
  first_without xs n low before here d = record {
    there = slice_get-get_or (map f xs) n (f d) (omega (arith, low, length-map xs f)) ∙ ap Some (get_or-map f xs n d (f d) low);
    has = here d;
    first = λ k e less is lacks.
        let below : k < length xs = omega (arith, less, low) in
        let same = get_or-map f xs k d e below in
        lacks (subst P (sym same ∙ get_or_from_slice_get (map f xs) k e e is) (before k d less));
  }

-- what all have, each has
at : (P : ShownDevice → Type 0) (ds : List ShownDevice) (i : ℕ) (d : ShownDevice) → All P ds → slice_get ds i ≡ Some d → P d
at P ds i d all is = elim (slice_get_cases ds i).1 [
  | inl there ↦ subst P (get_or_from_slice_get ds i d d is) (all i d there.1)
  | inr past ↦ absurd (cc (past.1, is))
]

module _ (ds : List ShownDevice) (some : 0 < length ds) where
  before_many : (other : Refusal) → rank other < 1 → ¬ (Holds ds other)
  before_many Missing low none = omega (arith, some, ap length none)
  before_many (Many n) low h = omega (arith, low)
  before_many (Block i n) low h = omega (arith, low)
  before_many (Size i n) low h = omega (arith, low)
  before_many (Differs i) low h = omega (arith, low)

  pub refused_many : MAX_DEVICES < length ds → AreRefused ds (Many (length ds))
  refused_many many = record { holds = (refl, many); first = before_many }

  module _ (few : length ds ≤ MAX_DEVICES) where
    before_block : (other : Refusal) → rank other < 2 → ¬ (Holds ds other)
    before_block Missing low none = omega (arith, some, ap length none)
    before_block (Many n) low h = omega (arith, few, h.0, h.1)
    before_block (Block i n) low h = omega (arith, low)
    before_block (Size i n) low h = omega (arith, low)
    before_block (Differs i) low h = omega (arith, low)

    pub refused_block : (i n : ℕ) → Holds ds (Block i n) → AreRefused ds (Block i n)
    refused_block i n h = record { holds = h; first = before_block }

    module _ (blocks : All (λ d. IsBlock d.block) ds) where
      before_size : (other : Refusal) → rank other < 3 → ¬ (Holds ds other)
      before_size Missing low none = omega (arith, some, ap length none)
      before_size (Many n) low h = omega (arith, few, h.0, h.1)
      before_size (Block i n) low h = h.1.has (at (λ d. IsBlock d.block) ds i h.0 blocks h.1.there)
      before_size (Size i n) low h = omega (arith, low)
      before_size (Differs i) low h = omega (arith, low)

      pub refused_size : (i n : ℕ) → Holds ds (Size i n) → AreRefused ds (Size i n)
      refused_size i n h = record { holds = h; first = before_size }

      module _ (sizes : All (λ d. IsDeviceSize d.block d.size) ds) where
        before_differs : (other : Refusal) → rank other < 4 → ¬ (Holds ds other)
        before_differs Missing low none = omega (arith, some, ap length none)
        before_differs (Many n) low h = omega (arith, few, h.0, h.1)
        before_differs (Block i n) low h = h.1.has (at (λ d. IsBlock d.block) ds i h.0 blocks h.1.there)
        before_differs (Size i n) low h = h.1.has (at (λ d. IsDeviceSize d.block d.size) ds i h.0 sizes h.1.there)
        before_differs (Differs i) low h = omega (arith, low)

        pub refused_differs : (i : ℕ) → Holds ds (Differs i) → AreRefused ds (Differs i)
        refused_differs i h = record { holds = h; first = before_differs }

pub refused_missing : (ds : List ShownDevice) → ds ≡ [] → AreRefused ds Missing
refused_missing ds none = record { holds = none; first = λ other low h. absurd (omega (arith, low)) }

-- the first device, by its block and its size
module _ {D : Type 0} (f : D → ShownDevice) (block size : ℕ) where
  pub differs : (xs : List D) → 0 < length xs → ((d : D) → block ≡ (f (get_or xs 0 d)).block) → ((d : D) → size ≡ (f (get_or xs 0 d)).size) → (i : ℕ)
      → ((e : ShownDevice) → e.block ≡ block → e.size ≡ size → (d : ShownDevice) × IsFirst (λ x. ¬ (AreAlike x e)) (map f xs) i d) → Holds (map f xs) (Differs i)
  differs [] some blocks sizes i other = absurd (omega (arith, some))
  differs (x ∷ xs) some blocks sizes i other = let o = other (f x) (sym (blocks x)) (sym (sizes x)) in (f x, o.0, refl, o.1)

  pub fits : (xs : List D) → 0 < length xs → length xs ≤ MAX_DEVICES → ((d : D) → block ≡ (f (get_or xs 0 d)).block) → ((d : D) → size ≡ (f (get_or xs 0 d)).size)
      → All (λ d. IsBlock d.block) (map f xs) → All (λ d. IsDeviceSize d.block d.size) (map f xs)
      → ((e : ShownDevice) → e.block ≡ block → e.size ≡ size → All (λ x. AreAlike x e) (map f xs)) → IsFit (map f xs)
  fits [] some few blocks sizes are_blocks are_sizes alike = absurd (omega (arith, some))
  fits (x ∷ xs) some few blocks sizes are_blocks are_sizes alike = record {
    device = f x;
    others = map f xs;
    are = refl;
    few = omega (arith, few, length-map (x ∷ xs) f);
    is_block = are_blocks 0 (f x) (omega arith);
    accepted = are_sizes 0 (f x) (omega arith);
    alike = alike (f x) (sym (blocks x)) (sym (sizes x));
  }
