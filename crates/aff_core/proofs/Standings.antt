-- The claimants and the places that standings give.
use Rattle.std.proofs.Common.{◌≡◌, ◌≢◌, ℕ, ◌<◌, zero, suc, Option, None, Some, List, [], ◌∷◌, ◌++◌, length, get_or, map, set, replicate, refl, sym, ap, ◌∙◌, arith, Contains, slice_get, option_map}
use Rattle.std.proofs.lemmas.List.{length-map}
use Rattle.std.proofs.Math.Seq.{map-set_same}
use Rattle.std.proofs.lemmas.Option.{slice_get-get_or, slice_get-map, slice_get_within, same_Some, get_or_from_slice_get}
use Rattle.aff_core.specs.declared.standing.Standing.{Standing}
use Rattle.aff_core.specs.declared.standing.Standing.TheVariants.{Free, Claimed, Published}
use Rattle.aff_core.specs.Kept.{Tracks, claim_of, place_of}
use Rattle.aff_core.proofs.Tracks.{tracks-free, tracks-taken}

abbrev pub free : Standing
free = Free

-- each place is one of so many publications
abbrev pub AreInside : List Standing → ℕ → Type 0
AreInside standings n = (e q : ℕ) → slice_get (map place_of standings) e ≡ Some (Some q) → q < n

pub inside-tracked : (out : List ℕ) (standings : List Standing) → Tracks out (map place_of standings) → AreInside standings (length out)
inside-tracked out standings t e q h = (t.found e q h).0

slice_get-before : (xs more : List ℕ) (k : ℕ) → k < length xs → slice_get (xs ++ more) k ≡ slice_get xs k
slice_get-before [] more k b = absurd (omega arith)
slice_get-before (x ∷ xs) more zero b = refl
slice_get-before (x ∷ xs) more (suc k) b = slice_get-before xs more k (omega arith)

slice_get-last : (xs : List ℕ) (x : ℕ) → slice_get (xs ++ x ∷ []) (length xs) ≡ Some x
slice_get-last [] x = refl
slice_get-last (y ∷ xs) x = slice_get-last xs x

-- nothing is claimed and nothing has a place where all is free
pub claims-start : (n : ℕ) → map (claim_of []) (replicate n free) ≡ replicate n None
claims-start zero = refl
claims-start (suc n) = ap (λ l. None ∷ l) (claims-start n)

pub places-start : (n : ℕ) → map place_of (replicate n free) ≡ replicate n None
places-start zero = refl
places-start (suc n) = ap (λ l. None ∷ l) (places-start n)

-- a claim changes no place
pub places-claimed : (standings : List Standing) (e by : ℕ) → slice_get standings e ≡ Some Free → map place_of (set standings e (Claimed by)) ≡ map place_of standings
places-claimed standings e by h = map-set_same place_of standings e (Claimed by) Free (sym (ap place_of (get_or_from_slice_get standings e Free Free h)))

claims-more : (claimants more : List ℕ) (standings : List Standing) → AreInside standings (length claimants) → map (claim_of (claimants ++ more)) standings ≡ map (claim_of claimants) standings
claims-more claimants more [] h = refl
claims-more claimants more (Free ∷ standings) h = ap (λ l. None ∷ l) (claims-more claimants more standings (λ e. h (suc e)))
claims-more claimants more (Claimed by ∷ standings) h = ap (λ l. Some by ∷ l) (claims-more claimants more standings (λ e. h (suc e)))
claims-more claimants more (Published q ∷ standings) h =
    ap (λ x. x ∷ map (claim_of (claimants ++ more)) standings) (slice_get-before claimants more q (h 0 q refl))
    ∙ ap (λ l. slice_get claimants q ∷ l) (claims-more claimants more standings (λ e. h (suc e)))

-- a publication by an extent's claimant changes no claim
pub claims-published : (claimants : List ℕ) (standings : List Standing) (e by : ℕ) → AreInside standings (length claimants) → slice_get standings e ≡ Some (Claimed by) → map (claim_of (claimants ++ by ∷ [])) (set standings e (Published (length claimants))) ≡ map (claim_of claimants) standings
claims-published claimants standings e by inside h =
    map-set_same (claim_of (claimants ++ by ∷ [])) standings e (Published (length claimants)) Free (slice_get-last claimants by ∙ sym (ap (claim_of (claimants ++ by ∷ [])) (get_or_from_slice_get standings e (Claimed by) Free h)))
    ∙ claims-more claimants (by ∷ []) standings inside

at_of : {B : Type 0} (f : Standing → B) (standings : List Standing) (e : ℕ) (x : Standing) → slice_get standings e ≡ Some x → slice_get (map f standings) e ≡ Some (f x)
at_of f standings e x h = slice_get-map f standings e ∙ ap (option_map f) h

standing_at : {B : Type 0} (f : Standing → B) (standings : List Standing) (e : ℕ) (y : B) → slice_get (map f standings) e ≡ Some y → slice_get standings e ≡ Some (get_or standings e Free)
standing_at f standings e y h =
    let inside = slice_get_within (map f standings) e y h in
    slice_get-get_or standings e Free (omega (arith, inside, length-map standings f))

pub place-claimed : (standings : List Standing) (e by : ℕ) → slice_get standings e ≡ Some (Claimed by) → slice_get (map place_of standings) e ≡ Some None
place-claimed standings e by h = at_of place_of standings e (Claimed by) h

-- an extent is free where it has no claimant, and only there
free-from_claim : (claimants out : List ℕ) (standings : List Standing) (e : ℕ) (x : Standing) → Tracks out (map place_of standings) → length claimants ≡ length out → slice_get standings e ≡ Some x → slice_get (map (claim_of claimants) standings) e ≡ Some None → slice_get standings e ≡ Some Free
free-from_claim claimants out standings e Free t n is h = is
free-from_claim claimants out standings e (Claimed by) t n is h = let wrong : ◌≡◌ {A = Option (Option ℕ)} (Some (Some by)) (Some None) = sym (at_of (claim_of claimants) standings e (Claimed by) is) ∙ h in cc
free-from_claim claimants out standings e (Published q) t n is h =
    let inside = inside-tracked out standings t e q (at_of place_of standings e (Published q) is) in
    let some : slice_get claimants q ≡ Some (get_or claimants q 0) = slice_get-get_or claimants q 0 (omega arith) in
    let none : slice_get claimants q ≡ None = same_Some (slice_get claimants q) None (sym (at_of (claim_of claimants) standings e (Published q) is) ∙ h) in
    let wrong : ◌≡◌ {A = Option ℕ} (Some (get_or claimants q 0)) None = sym some ∙ none in cc

pub free-iff : (claimants out : List ℕ) (standings : List Standing) (e : ℕ) → Tracks out (map place_of standings) → length claimants ≡ length out → (slice_get standings e ≡ Some Free → slice_get (map (claim_of claimants) standings) e ≡ Some None) × (slice_get (map (claim_of claimants) standings) e ≡ Some None → slice_get standings e ≡ Some Free)
free-iff claimants out standings e t n = (
  λ h. at_of (claim_of claimants) standings e Free h,
  λ h. free-from_claim claimants out standings e (get_or standings e Free) t n (standing_at (claim_of claimants) standings e None h) h,
)

-- an extent is claimed by one who has it and has not published it, and only by such
abbrev pub IsAwaited : List (Option ℕ) → List ℕ → ℕ → ℕ → Type 0
IsAwaited claims out e by = (slice_get claims e ≡ Some (Some by)) × ¬ (Contains out e)

awaited-from_claimed : (claimants out : List ℕ) (standings : List Standing) (e by : ℕ) → Tracks out (map place_of standings) → slice_get standings e ≡ Some (Claimed by) → IsAwaited (map (claim_of claimants) standings) out e by
awaited-from_claimed claimants out standings e by t h = (at_of (claim_of claimants) standings e (Claimed by) h, tracks-free out (map place_of standings) e t (at_of place_of standings e (Claimed by) h))

claimed-from_awaited : (claimants out : List ℕ) (standings : List Standing) (e by : ℕ) (x : Standing) → Tracks out (map place_of standings) → slice_get standings e ≡ Some x → IsAwaited (map (claim_of claimants) standings) out e by → slice_get standings e ≡ Some (Claimed by)
claimed-from_awaited claimants out standings e by Free t is h = let wrong : ◌≡◌ {A = Option (Option ℕ)} (Some None) (Some (Some by)) = sym (at_of (claim_of claimants) standings e Free is) ∙ h.0 in cc
claimed-from_awaited claimants out standings e by (Claimed other) t is h =
    let same : ◌≡◌ {A = Option (Option ℕ)} (Some (Some other)) (Some (Some by)) = sym (at_of (claim_of claimants) standings e (Claimed other) is) ∙ h.0 in
    is ∙ ap (λ k. Some (Claimed k)) (same_Some other by (same_Some (Some other) (Some by) same))
claimed-from_awaited claimants out standings e by (Published q) t is h = absurd (h.1 (tracks-taken out (map place_of standings) e q t (at_of place_of standings e (Published q) is)))

pub awaited-iff : (claimants out : List ℕ) (standings : List Standing) (e by : ℕ) → Tracks out (map place_of standings) → (slice_get standings e ≡ Some (Claimed by) → IsAwaited (map (claim_of claimants) standings) out e by) × (IsAwaited (map (claim_of claimants) standings) out e by → slice_get standings e ≡ Some (Claimed by))
awaited-iff claimants out standings e by t = (
  awaited-from_claimed claimants out standings e by t,
  λ h. claimed-from_awaited claimants out standings e by (get_or standings e Free) t (standing_at (claim_of claimants) standings e (Some by) h.0) h,
)

none_of : (x : Standing) → ((q : ℕ) → x ≢ Published q) → place_of x ≡ None
none_of Free h = refl
none_of (Claimed by) h = refl
none_of (Published q) h = absurd (h q refl)

-- for the places of a plan's extents
pub placed-none : (standings : List Standing) (n : ℕ) → n < length standings → ((q : ℕ) → get_or standings n Free ≢ Published q) → slice_get (map place_of standings) n ≡ Some None
placed-none standings n b h = at_of place_of standings n (get_or standings n Free) (slice_get-get_or standings n Free b) ∙ ap Some (none_of (get_or standings n Free) h)

pub placed-at : (standings : List Standing) (n q : ℕ) → n < length standings → get_or standings n Free ≡ Published q → slice_get (map place_of standings) n ≡ Some (Some q)
placed-at standings n q b h = at_of place_of standings n (Published q) (slice_get-get_or standings n Free b ∙ ap Some h)
