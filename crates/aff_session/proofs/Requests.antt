-- The requests before `after` and those behind it.
use Rattle.std.proofs.Common.{◌≡◌, ◌≢◌, ◌⊎◌, ℕ, zero, suc, ◌+◌, ◌<◌, ◌≤◌, List, [], ◌∷◌, ◌++◌, ◌↔◌, Bool, true, false, cond, IsTrue, length, take, drop, get_or, refl, sym, ap, ◌∙◌, arith, inl, inr, All}
use Rattle.std.proofs.lemmas.Bool.{false≢true}
use Rattle.std.proofs.lemmas.Bool.Decides.{leb_tells}
use Rattle.std.proofs.lemmas.List.{get_or_default}
use Rattle.std.proofs.lemmas.List.Elements.{All-nil, All-cons, All-head, All-tail}
use Rattle.aff_script.specs.declared.script.Request.{Request}
use Rattle.aff_script.specs.declared.script.Request.TheVariants.{Read, Raise, Await, After}
use Rattle.aff_session.specs.Answers.{late_of, live_of}

pub live_live : (requests : List Request) → live_of (live_of requests) ≡ live_of requests
live_live [] = refl
live_live (Read at len ∷ requests) = ap (λ (l : List Request). Read at len ∷ l) (live_live requests)
live_live (Raise at len ∷ requests) = ap (λ (l : List Request). Raise at len ∷ l) (live_live requests)
live_live (Await count ∷ requests) = ap (λ (l : List Request). Await count ∷ l) (live_live requests)
live_live (After ∷ requests) = refl

-- first ones of requests without `after` are such
pub live_take : (requests : List Request) (k : ℕ) → live_of requests ≡ requests → live_of (take k requests) ≡ take k requests
live_take requests zero live = refl
live_take [] (suc k) live = refl
live_take (Read at len ∷ requests) (suc k) live = ap (λ (l : List Request). Read at len ∷ l) (live_take requests k (cc (live)))
live_take (Raise at len ∷ requests) (suc k) live = ap (λ (l : List Request). Raise at len ∷ l) (live_take requests k (cc (live)))
live_take (Await count ∷ requests) (suc k) live = ap (λ (l : List Request). Await count ∷ l) (live_take requests k (cc (live)))
live_take (After ∷ requests) (suc k) live = absurd (cc (live))

further : (request : Request) (requests live late : List Request) → ((live ++ After ∷ []) ++ late ≡ requests) ⊎ ((live ≡ requests) × (late ≡ [])) → (((request ∷ live) ++ After ∷ []) ++ late ≡ request ∷ requests) ⊎ ((request ∷ live ≡ request ∷ requests) × (late ≡ []))
further request requests live late (inl is) = inl (ap (λ (l : List Request). request ∷ l) is)
further request requests live late (inr is) = inr (ap (λ (l : List Request). request ∷ l) is.0, is.1)

-- all are those before `after`, `after` and those behind it, or those before it alone
pub live_late : (requests : List Request) → ((live_of requests ++ After ∷ []) ++ late_of requests ≡ requests) ⊎ ((live_of requests ≡ requests) × (late_of requests ≡ []))
live_late [] = inr (refl, refl)
live_late (Read at len ∷ requests) = further (Read at len) requests (live_of requests) (late_of requests) (live_late requests)
live_late (Raise at len ∷ requests) = further (Raise at len) requests (live_of requests) (late_of requests) (live_late requests)
live_late (Await count ∷ requests) = further (Await count) requests (live_of requests) (late_of requests) (live_late requests)
live_late (After ∷ requests) = inl refl

rest : (request : Request) (requests : List Request) (n : ℕ) (late : List Request) → drop (n + 1) requests ≡ late → drop (suc n + 1) (request ∷ requests) ≡ late
rest request requests n late is =
    let more : suc n + 1 ≡ suc (n + 1) = omega arith in
    ap (λ i. drop i (request ∷ requests)) more ∙ is

-- at the first `after`, or behind all requests, the first part ends
pub parts_at : (requests : List Request) (n : ℕ) → n ≤ length requests → ((k : ℕ) (d : Request) → k < n → get_or requests k d ≢ After) → ((d : Request) → n < length requests → get_or requests n d ≡ After)
    → (take n requests ≡ live_of requests) × (drop (n + 1) requests ≡ late_of requests)
parts_at [] zero low none here = (refl, refl)
parts_at [] (suc n) low none here = absurd (omega (arith, low))
parts_at (After ∷ requests) zero low none here = (refl, refl)
parts_at (Read at len ∷ requests) zero low none here = absurd (cc (here After (omega arith)))
parts_at (Raise at len ∷ requests) zero low none here = absurd (cc (here After (omega arith)))
parts_at (Await count ∷ requests) zero low none here = absurd (cc (here After (omega arith)))
parts_at (After ∷ requests) (suc n) low none here = absurd (none 0 After (omega arith) refl)
parts_at (Read at len ∷ requests) (suc n) low none here =
    let r = parts_at requests n (omega (arith, low)) (λ k d b. none (suc k) d (omega (arith, b))) (λ d b. here d (omega (arith, b))) in (ap (λ (l : List Request). Read at len ∷ l) r.0, rest (Read at len) requests n (late_of requests) r.1)
parts_at (Raise at len ∷ requests) (suc n) low none here =
    let r = parts_at requests n (omega (arith, low)) (λ k d b. none (suc k) d (omega (arith, b))) (λ d b. here d (omega (arith, b))) in (ap (λ (l : List Request). Raise at len ∷ l) r.0, rest (Raise at len) requests n (late_of requests) r.1)
parts_at (Await count ∷ requests) (suc n) low none here =
    let r = parts_at requests n (omega (arith, low)) (λ k d b. none (suc k) d (omega (arith, b))) (λ d b. here d (omega (arith, b))) in (ap (λ (l : List Request). Await count ∷ l) r.0, rest (Await count) requests n (late_of requests) r.1)

-- what holds of all requests holds of each part
pub all_live : (P : Request → Type 0) (requests : List Request) → All P requests → All P (live_of requests)
all_live P [] all = All-nil P
all_live P (Read at len ∷ requests) all = All-cons P (Read at len) (live_of requests) (All-head P (Read at len) requests all) (all_live P requests (All-tail P (Read at len) requests all))
all_live P (Raise at len ∷ requests) all = All-cons P (Raise at len) (live_of requests) (All-head P (Raise at len) requests all) (all_live P requests (All-tail P (Raise at len) requests all))
all_live P (Await count ∷ requests) all = All-cons P (Await count) (live_of requests) (All-head P (Await count) requests all) (all_live P requests (All-tail P (Await count) requests all))
all_live P (After ∷ requests) all = All-nil P

pub all_late : (P : Request → Type 0) (requests : List Request) → All P requests → All P (late_of requests)
all_late P [] all = All-nil P
all_late P (Read at len ∷ requests) all = all_late P requests (All-tail P (Read at len) requests all)
all_late P (Raise at len ∷ requests) all = all_late P requests (All-tail P (Raise at len) requests all)
all_late P (Await count ∷ requests) all = all_late P requests (All-tail P (Await count) requests all)
all_late P (After ∷ requests) all = All-tail P After requests all

pub all_left : (b : Bool) (P : Request → Type 0) (requests : List Request) → All P requests → All P (cond b (late_of requests) requests)
all_left true P requests all = all_late P requests all
all_left false P requests all = all

-- one request more that is not `after`
pub none_more : (requests : List Request) (n : ℕ) (b : Bool) (e : Request) → IsTrue b ↔ (get_or requests n e ≡ After) → b ≡ false → n < length requests → ((k : ℕ) (d : Request) → k < n → get_or requests k d ≢ After) → (k : ℕ) (d : Request) → k < n + 1 → get_or requests k d ≢ After
none_more requests n b e means off low none k d small is =
    elim (leb_tells n k) [
      | inl x ↦ (
          let here : n ≡ k = omega (arith, small, x.1) in
          false≢true (sym off ∙ means.1 (get_or_default requests n e d low ∙ ap (λ j. get_or requests j d) here ∙ is)))
      | inr y ↦ none k d y.1 is
    ]

-- the place of the first `after`
pub at_after : (requests : List Request) (n : ℕ) (b : Bool) (e : Request) → IsTrue b ↔ (get_or requests n e ≡ After) → b ≡ true → n < length requests → ((k : ℕ) (d : Request) → k < n → get_or requests k d ≢ After)
    → (take n requests ≡ live_of requests) × (drop (n + 1) requests ≡ late_of requests)
at_after requests n b e means on low none = parts_at requests n (omega (arith, low)) none (λ d inside. get_or_default requests n d e low ∙ means.0 on)

-- no `after`
pub at_end : (requests : List Request) (n : ℕ) → length requests ≤ n → ((k : ℕ) (d : Request) → k < n → get_or requests k d ≢ After)
    → (take (length requests) requests ≡ live_of requests) × (drop (length requests + 1) requests ≡ late_of requests)
at_end requests n low none = parts_at requests (length requests) (omega arith) (λ k d inside. none k d (omega (arith, inside, low))) (λ d inside. absurd (omega (arith, inside)))
