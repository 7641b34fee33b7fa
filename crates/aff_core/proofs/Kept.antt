-- What a state keeps, through each event.
use Rattle.std.proofs.Common.{◌≡◌, ℕ, ◌<◌, ◌≤◌, inl, inr, Bool, true, false, Option, None, Some, List, [], ◌∷◌, ◌++◌, length, map, set, replicate, sym, ap, subst, ◌∙◌, arith, Contains, slice_get, leb}
use Rattle.std.proofs.lemmas.Bool.Decides.{leb_tells, nat_tests}
use Rattle.std.proofs.lemmas.List.{length-set, length-replicate, length-map, map-append, map-set}
use Rattle.std.proofs.lemmas.Option.{slice_get_within}
use Rattle.aff_model.specs.Plan.{Planned, IsPlan}
use Rattle.aff_model.specs.History.{Published}
use Rattle.aff_core.specs.declared.standing.Standing.{Standing}
use Rattle.aff_core.specs.declared.standing.Standing.TheVariants.{Free, Claimed}
use Rattle.aff_core.specs.declared.standing.Standing as stands
use Rattle.aff_core.specs.Steps.{CoreState, IsStep, MayClaim, MayPublish, extents_out, start}
use Rattle.aff_core.specs.declared.event.Event.{Event}
use Rattle.aff_core.specs.Kept.{Tracks, IsKept, claim_of, place_of}
use Rattle.aff_core.proofs.Standings.{awaited-iff, claims-published, claims-start, free, free-iff, inside-tracked, place-claimed, places-claimed, places-start}
use Rattle.aff_core.proofs.Tracks.{tracks-complete, tracks-incomplete, tracks-more, tracks-room, tracks-start}

pub kept-start : (plan : Planned) (standings : List Standing) (out : List ℕ) (room : ℕ) → IsPlan plan.size plan.block plan.extents → standings ≡ replicate (length plan.extents) Free → out ≡ [] → length plan.extents ≤ room → IsKept plan standings out room
kept-start plan standings out room valid p o r = record {
  plan_valid = valid;
  count = ap length p ∙ length-replicate (length plan.extents) free;
  tracks = (
      let P : List (Option ℕ) → Type 0 = λ l. Tracks [] l in
      let Q : List ℕ → Type 0 = λ l. Tracks l (map place_of standings) in
      subst Q (sym o) (subst P (sym (ap (map place_of) p ∙ places-start (length plan.extents))) (tracks-start (length plan.extents))));
  room_left = r;
}

pub kept-claimed : (plan : Planned) (standings : List Standing) (out : List ℕ) (room e by : ℕ) → IsKept plan standings out room → slice_get standings e ≡ Some Free → IsKept plan (set standings e (Claimed by)) out room
kept-claimed plan standings out room e by k h = record {
  plan_valid = k.plan_valid;
  count = length-set standings e (Claimed by) ∙ k.count;
  tracks = (let P : List (Option ℕ) → Type 0 = λ l. Tracks out l in subst P (sym (places-claimed standings e by h)) k.tracks);
  room_left = k.room_left;
}

kept-more : (plan : Planned) (standings : List Standing) (out : List ℕ) (room more e by : ℕ) → IsKept plan standings out room → slice_get standings e ≡ Some (Claimed by) → room ≤ more → IsKept plan (set standings e (stands.TheVariants.Published (length out))) (out ++ e ∷ []) more
kept-more plan standings out room more e by k h m = record {
  plan_valid = k.plan_valid;
  count = length-set standings e (stands.TheVariants.Published (length out)) ∙ k.count;
  tracks = (
      let P : List (Option ℕ) → Type 0 = λ l. Tracks (out ++ e ∷ []) l in
      subst P (sym (map-set place_of standings e (stands.TheVariants.Published (length out)))) (tracks-more out (map place_of standings) e k.tracks (place-claimed standings e by h)));
  room_left = omega (arith, k.room_left);
}

pub complete-iff : (plan : Planned) (standings : List Standing) (out : List ℕ) (room : ℕ) (b : Bool) → IsKept plan standings out room → b ≡ leb (length standings) (length out) → (b ≡ true → (k : ℕ) → k < length plan.extents → Contains out k) × (((k : ℕ) → k < length plan.extents → Contains out k) → b ≡ true)
complete-iff plan standings out room b k is =
    let places = map place_of standings in
    let n : length places ≡ length standings = length-map standings place_of in (
      λ e i inside.
          let all = leb_tells (length standings) (length out) in
          let few : length standings ≤ length out = grind (arith, nat_tests) in
          tracks-complete out places k.tracks (omega arith) i (omega (arith, k.count)),
      λ all. elim (leb_tells (length standings) (length out)) [
        | inl x ↦ is ∙ x.0
        | inr y ↦ absurd (tracks-incomplete out places k.tracks (omega (arith, y.1)) (λ i inside. all i (omega (arith, k.count))))
      ],
    )

-- the claimants of a history
abbrev claimants_of : List Published → List ℕ
claimants_of history = map (λ p. p.claimant) history

-- what is known of a publication that may join the history: s and p are t and q as the code has them
pub record IsNext (s : CoreState) (p : Published) (standings : List Standing) (room : ℕ) : Type 0 where
  pub held : slice_get standings p.extent ≡ Some (Claimed p.claimant)
  pub planned : p.extent < length standings
  pub room_left : length s.history < room
  pub few : length s.history < 65536

next_at : (s : CoreState) (p : Published) (standings : List Standing) (room : ℕ) → s.claims ≡ map (claim_of (claimants_of s.history)) standings → IsKept s.plan standings (extents_out s.history) room → MayPublish s p → IsNext s p standings room
next_at s p standings room is k may =
    let claimed = ap (λ l. slice_get l p.extent) (sym is) ∙ may.claimed in
    let held = (awaited-iff (claimants_of s.history) (extents_out s.history) standings p.extent p.claimant k.tracks).1 (claimed, may.unpublished) in
    let inside = slice_get_within standings p.extent (Claimed p.claimant) held in
    let left = tracks-room (extents_out s.history) (map place_of standings) p.extent k.tracks (place-claimed standings p.extent p.claimant held) in
    let n : length (map place_of standings) ≡ length standings = length-map standings place_of in
    let m : length (extents_out s.history) ≡ length s.history = length-map s.history (λ q. q.extent) in
    record {
      held = held;
      planned = inside;
      room_left = omega (arith, left, n, m, k.room_left, k.count);
      few = omega (arith, left, n, m, k.plan_valid.few, k.count);
    }

pub publish-next : (s t : CoreState) (p q : Published) (standings : List Standing) (room : ℕ) → s ≡ t → p ≡ q → s.claims ≡ map (claim_of (claimants_of s.history)) standings → IsKept s.plan standings (extents_out s.history) room → MayPublish t q → IsNext s p standings room
publish-next s t p q standings room st pq is k may =
    let P : CoreState → Type 0 = λ u. MayPublish u p in
    let Q : Published → Type 0 = λ u. MayPublish t u in
    next_at s p standings room is k (subst P (sym st) (subst Q (sym pq) may))

pub kept-published : (plan : Planned) (standings : List Standing) (before after : List Published) (p : Published) (room more e n by : ℕ) → IsKept plan standings (extents_out before) room → slice_get standings e ≡ Some (Claimed by) → after ≡ before ++ p ∷ [] → p.extent ≡ e → n ≡ length before → room ≤ more → IsKept plan (set standings e (stands.TheVariants.Published n)) (extents_out after) more
kept-published plan standings before after p room more e n by k held joined is count m =
    let out : extents_out after ≡ extents_out before ++ e ∷ [] = ap extents_out joined ∙ map-append (λ q. q.extent) before (p ∷ []) ∙ ap (λ x. extents_out before ++ x ∷ []) is in
    let same : n ≡ length (extents_out before) = count ∙ sym (length-map before (λ q. q.extent)) in
    let P : List ℕ → Type 0 = λ o. IsKept plan (set standings e (stands.TheVariants.Published n)) o more in
    let Q : ℕ → Type 0 = λ x. IsKept plan (set standings e (stands.TheVariants.Published x)) (extents_out before ++ e ∷ []) more in
    subst P (sym out) (subst Q (sym same) (kept-more plan standings (extents_out before) room more e by k held m))

-- a publication that joins the history changes no claim
pub claims-joined : (standings : List Standing) (before after : List Published) (p : Published) (e n by : ℕ) → Tracks (extents_out before) (map place_of standings) → slice_get standings e ≡ Some (Claimed by) → after ≡ before ++ p ∷ [] → p.claimant ≡ by → n ≡ length before → map (claim_of (claimants_of after)) (set standings e (stands.TheVariants.Published n)) ≡ map (claim_of (claimants_of before)) standings
claims-joined standings before after p e n by t held joined is count =
    let m : length (claimants_of before) ≡ length before = length-map before (λ q. q.claimant) in
    let k : length (extents_out before) ≡ length before = length-map before (λ q. q.extent) in
    let out : claimants_of after ≡ claimants_of before ++ by ∷ [] = ap claimants_of joined ∙ map-append (λ q. q.claimant) before (p ∷ []) ∙ ap (λ x. claimants_of before ++ x ∷ []) is in
    ap (λ l. map (claim_of l) (set standings e (stands.TheVariants.Published n))) out
    ∙ ap (λ x. map (claim_of (claimants_of before ++ by ∷ [])) (set standings e (stands.TheVariants.Published x))) (count ∙ sym m)
    ∙ claims-published (claimants_of before) standings e by (λ f q h. omega (arith, inside-tracked (extents_out before) standings t f q h)) held

-- the states that the code makes are those of the steps: s is the fields' and t as a caller has it
pub state-start : (plan : Planned) (passes sessions : ℕ) (standings : List Standing) (history : List Published) → standings ≡ replicate (length plan.extents) Free → history ≡ [] → record { plan = plan; passes = passes; sessions = sessions; claims = map (claim_of (claimants_of history)) standings; history = history; finished = false } ≡ start plan passes sessions
state-start plan passes sessions standings history all none =
    let claims = ap (λ h. map (claim_of (claimants_of h)) standings) none ∙ ap (λ l. map (claim_of []) l) all ∙ claims-start (length plan.extents) in
    let F : List (Option ℕ) → List Published → CoreState = λ l h. record { plan = plan; passes = passes; sessions = sessions; claims = l; history = h; finished = false } in
    ap (λ l. F l history) claims ∙ ap (λ h. F (replicate (length plan.extents) None) h) none

pub free-next : (s t : CoreState) (standings : List Standing) (room e : ℕ) → s ≡ t → s.claims ≡ map (claim_of (claimants_of s.history)) standings → IsKept s.plan standings (extents_out s.history) room → slice_get t.claims e ≡ Some None → slice_get standings e ≡ Some Free
free-next s t standings room e st is k h =
    let n : length (claimants_of s.history) ≡ length (extents_out s.history) = length-map s.history (λ q. q.claimant) ∙ sym (length-map s.history (λ q. q.extent)) in
    (free-iff (claimants_of s.history) (extents_out s.history) standings e k.tracks n).1 (ap (λ l. slice_get l e) (sym is) ∙ ap (λ u. slice_get u.claims e) st ∙ h)

pub step-claimed : (s t : CoreState) (standings : List Standing) (room by e : ℕ) → s ≡ t → s.claims ≡ map (claim_of (claimants_of s.history)) standings → IsKept s.plan standings (extents_out s.history) room → s.finished ≡ false → by < s.passes → slice_get t.claims e ≡ Some None → IsStep t (Event.Claim by e) (record s { claims = map (claim_of (claimants_of s.history)) (set standings e (Claimed by)) })
step-claimed s t standings room by e st is k going pass h =
    let inside = slice_get_within standings e Free (free-next s t standings room e st is k h) in
    let claims : map (claim_of (claimants_of s.history)) (set standings e (Claimed by)) ≡ set s.claims e (Some by) = map-set (claim_of (claimants_of s.history)) standings e (Claimed by) ∙ ap (λ l. set l e (Some by)) (sym is) in
    let P : CoreState → Type 0 = λ u. slice_get u.claims e ≡ Some None in
    let may : MayClaim s by e = record { going = going; pass = pass; planned = omega (arith, inside, k.count); free = subst P (sym st) h } in
    let Q : CoreState → Type 0 = λ u. IsStep u (Event.Claim by e) (record s { claims = map (claim_of (claimants_of s.history)) (set standings e (Claimed by)) }) in
    subst Q st (may, ap (λ l. record s { claims = l }) claims)

pub step-published : (s t : CoreState) (p : Published) (claims : List (Option ℕ)) (after : List Published) → s ≡ t → MayPublish t p → claims ≡ s.claims → after ≡ s.history ++ p ∷ [] → IsStep t (Event.Publish p) (record s { claims = claims; history = after })
step-published s t p claims after st may same joined =
    let F : List (Option ℕ) → List Published → CoreState = λ l h. record s { claims = l; history = h } in
    let G : CoreState → CoreState = λ u. record u { history = u.history ++ p ∷ [] } in
    (may, ap (λ l. F l after) same ∙ ap (λ h. F s.claims h) joined ∙ ap (λ u. G u) st)
