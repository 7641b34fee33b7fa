-- The greatest runs below a place, and what one more run makes of them.
use Rattle.std.proofs.Common.{◌≡◌, ℕ, ◌+◌, ◌-◌, ◌<◌, ◌≤◌, List, [], ◌∷◌, ◌++◌, length, get_or, refl, sym, ap, ◌∙◌, subst, arith, inl, inr}
use Rattle.std.specs.Prelude.{Option, Some, None}
use Rattle.std.specs.List.{AllAdjacentBelow}
use Rattle.std.proofs.lemmas.Bool.{cases_lt}
use Rattle.std.proofs.lemmas.List.{get_or_append_left, get_or_push, length_push}
use Rattle.std.proofs.lemmas.List.Elements.{All-nil, All-push, All-weaker}
use Rattle.std.proofs.lemmas.List.Quantifiers.{all_pairs_push}
use Rattle.aff_fields.specs.declared.entry.Entry.{Entry}
use Rattle.aff_spec.specs.Runs.{Spot, AreGreatestRuns, AreJoined, spot_in}
use Rattle.aff_map.specs.Building.{AreRunsBelow, IsBefore}
use Rattle.aff_map.proofs.Lookup.{lookup-past, lookup-push_before, lookup-push_within}

-- an empty map
pub AreRunsBelow-nil : (spot : ℕ → Option Spot) (n : ℕ) → ((i : ℕ) → i < n → spot i ≡ None) → AreRunsBelow spot n []
AreRunsBelow-nil spot n none = record {
  spots = λ i h. sym (none i h);
  ends = All-nil (λ e. e.at + e.len ≤ n);
  some = All-nil (λ e. 0 < e.len);
  sorted = λ i j d h below. absurd (omega arith);
  greatest = λ k d below. absurd (omega arith);
}

-- a gap behind the runs
pub AreRunsBelow-gap : (spot : ℕ → Option Spot) (n m : ℕ) (entries : List Entry) → AreRunsBelow spot n entries → n ≤ m → ((i : ℕ) → n ≤ i → i < m → spot i ≡ None) → AreRunsBelow spot m entries
AreRunsBelow-gap spot n m entries runs h none = record {
  spots = λ i below. elim (cases_lt i n) [
    | inl early ↦ runs.spots i early
    | inr late ↦ lookup-past i n entries runs.ends late ∙ sym (none i late below)
  ];
  ends = All-weaker (λ e. e.at + e.len ≤ n) (λ e. e.at + e.len ≤ m) (λ e end. omega arith) entries runs.ends;
  some = runs.some;
  sorted = runs.sorted;
  greatest = runs.greatest;
}

-- one more entry, which is not joined to the last one
split_push : (entries : List Entry) (run : Entry) → AllAdjacentBelow (λ e f. ¬ (AreJoined e f)) entries (length entries)
    → ((d : Entry) → 0 < length entries → ¬ (AreJoined (get_or entries (length entries - 1) d) run))
    → AllAdjacentBelow (λ e f. ¬ (AreJoined e f)) (entries ++ run ∷ []) (length (entries ++ run ∷ []))
split_push entries run old last k d below = elim (cases_lt (k + 1) (length entries)) [
  | inl inner ↦
      let same : get_or (entries ++ run ∷ []) k d ≡ get_or entries k d = get_or_append_left entries (run ∷ []) d k (omega arith) in
      let next : get_or (entries ++ run ∷ []) (k + 1) d ≡ get_or entries (k + 1) d = get_or_append_left entries (run ∷ []) d (k + 1) inner in
      λ joined. old k d inner (subst (λ e. AreJoined e (get_or entries (k + 1) d)) same (subst (λ f. AreJoined (get_or (entries ++ run ∷ []) k d) f) next joined))
  | inr outer ↦
      let long : length (entries ++ run ∷ []) ≡ length entries + 1 = length_push entries run in
      let at_end : length entries ≡ k + 1 = omega arith in
      let before : k ≡ length entries - 1 = omega arith in
      let same : get_or (entries ++ run ∷ []) k d ≡ get_or entries (length entries - 1) d = get_or_append_left entries (run ∷ []) d k (omega arith) ∙ ap (λ j. get_or entries j d) before in
      let next : get_or (entries ++ run ∷ []) (k + 1) d ≡ run = get_or_push entries run d (k + 1) at_end in
      λ joined. last d (omega arith) (subst (λ e. AreJoined e run) same (subst (λ f. AreJoined (get_or (entries ++ run ∷ []) k d) f) next joined))
]

-- one more entry, which is no part of the last one's run
pub AreRunsBelow-push : (spot : ℕ → Option Spot) (entries : List Entry) (run : Entry) → AreRunsBelow spot run.at entries → 0 < run.len
    → ((i : ℕ) → run.at ≤ i → i < run.at + run.len → Some (spot_in i run) ≡ spot i)
    → ((d : Entry) → 0 < length entries → ¬ (AreJoined (get_or entries (length entries - 1) d) run))
    → AreRunsBelow spot (run.at + run.len) (entries ++ run ∷ [])
AreRunsBelow-push spot entries run runs some here split = record {
  spots = λ i below. elim (cases_lt i run.at) [
    | inl early ↦ lookup-push_before i entries run early ∙ runs.spots i early
    | inr late ↦ lookup-push_within i run.at entries run runs.ends late late below ∙ here i late below
  ];
  ends = All-push (λ e. e.at + e.len ≤ run.at + run.len) entries run (All-weaker (λ e. e.at + e.len ≤ run.at) (λ e. e.at + e.len ≤ run.at + run.len) (λ e end. omega arith) entries runs.ends) (omega arith);
  some = All-push (λ e. 0 < e.len) entries run runs.some some;
  sorted = all_pairs_push IsBefore entries run runs.sorted runs.ends;
  greatest = split_push entries run runs.greatest split;
}

-- the runs without the last entry
AreRunsBelow-pop : (spot : ℕ → Option Spot) (n : ℕ) (init : List Entry) (last : Entry) → AreRunsBelow spot n (init ++ last ∷ []) → AreRunsBelow spot last.at init
AreRunsBelow-pop spot n init last runs =
    let long : length (init ++ last ∷ []) ≡ length init + 1 = length_push init last in
    let at_last : (d : Entry) → get_or (init ++ last ∷ []) (length init) d ≡ last = λ d. get_or_push init last d (length init) refl in
    let at : (k : ℕ) (d : Entry) → k < length init → get_or (init ++ last ∷ []) k d ≡ get_or init k d = λ k d below. get_or_append_left init (last ∷ []) d k below in
    let last_end : last.at + last.len ≤ n = subst (λ (e : Entry). e.at + e.len ≤ n) (at_last last) (runs.ends (length init) last (omega arith)) in
    record {
      spots = λ i below. sym (lookup-push_before i init last below) ∙ runs.spots i (omega arith);
      ends = λ k d below. subst (λ (e : Entry). e.at + e.len ≤ last.at) (at k d below) (subst (λ (f : Entry). (get_or (init ++ last ∷ []) k d).at + (get_or (init ++ last ∷ []) k d).len ≤ f.at) (at_last d) (runs.sorted k (length init) d below (omega arith)));
      some = λ k d below. subst (λ (e : Entry). 0 < e.len) (at k d below) (runs.some k d (omega arith));
      sorted = λ i j d h below. subst (λ (e : Entry). e.at + e.len ≤ (get_or init j d).at) (at i d (omega arith)) (subst (λ (f : Entry). (get_or (init ++ last ∷ []) i d).at + (get_or (init ++ last ∷ []) i d).len ≤ f.at) (at j d below) (runs.sorted i j d h (omega arith)));
      greatest = λ k d below joined. runs.greatest k d (omega arith) (subst (λ e. AreJoined e (get_or (init ++ last ∷ []) (k + 1) d)) (sym (at k d (omega arith))) (subst (λ f. AreJoined (get_or init k d) f) (sym (at (k + 1) d below)) joined));
    }

-- no entry of the rest is joined to the last one
split_last : (spot : ℕ → Option Spot) (n : ℕ) (init : List Entry) (last : Entry) → AreRunsBelow spot n (init ++ last ∷ []) → (d : Entry) → 0 < length init → ¬ (AreJoined (get_or init (length init - 1) d) last)
split_last spot n init last runs d some joined =
    let long : length (init ++ last ∷ []) ≡ length init + 1 = length_push init last in
    let same : get_or (init ++ last ∷ []) (length init - 1) d ≡ get_or init (length init - 1) d = get_or_append_left init (last ∷ []) d (length init - 1) (omega arith) in
    let next : get_or (init ++ last ∷ []) (length init - 1 + 1) d ≡ last = get_or_push init last d (length init - 1 + 1) (omega arith) in
    runs.greatest (length init - 1) d (omega arith) (subst (λ e. AreJoined e (get_or (init ++ last ∷ []) (length init - 1 + 1) d)) (sym same) (subst (λ f. AreJoined (get_or init (length init - 1) d) f) (sym next) joined))

-- the entry with more bytes
abbrev pub longer : Entry → ℕ → Entry
longer e more = record e { len = e.len + more }

-- the last entry's run goes on
pub AreRunsBelow-join : (spot : ℕ → Option Spot) (init : List Entry) (last run : Entry) → AreRunsBelow spot run.at (init ++ last ∷ []) → AreJoined last run → 0 < run.len
    → ((i : ℕ) → run.at ≤ i → i < run.at + run.len → Some (spot_in i run) ≡ spot i)
    → AreRunsBelow spot (run.at + run.len) (init ++ longer last run.len ∷ [])
AreRunsBelow-join spot init last run runs joined some here =
    let image : last.at + last.len ≡ run.at = joined.image in
    let target : last.target ≡ run.target = joined.target in
    let place : last.target_at + last.len ≡ run.target_at = joined.place in
    let end : last.at + (last.len + run.len) ≡ run.at + run.len = omega arith in
    let before : AreRunsBelow spot last.at init = AreRunsBelow-pop spot run.at init last runs in
    let spots : (i : ℕ) → last.at ≤ i → i < last.at + (last.len + run.len) → Some (spot_in i last) ≡ spot i = λ i low high. elim (cases_lt i run.at) [
      | inl early ↦ sym (lookup-push_within i last.at init last before.ends low low (omega arith)) ∙ runs.spots i early
      | inr late ↦
          let same : last.target_at + (i - last.at) ≡ run.target_at + (i - run.at) = omega arith in
          (λ j. Some (target j, same j)) ∙ here i late (omega arith)
    ] in
    subst (λ n. AreRunsBelow spot n (init ++ longer last run.len ∷ [])) end
    (AreRunsBelow-push spot init (longer last run.len) before (omega arith) spots
    (λ d h linked. split_last spot run.at init last runs d h (record { image = linked.image; target = linked.target; place = linked.place })))

-- what a map has that ends nowhere
pub AreGreatestRuns-from_below : (spot : ℕ → Option Spot) (entries : List Entry) → ((n : ℕ) → (m : ℕ) × (n ≤ m) × AreRunsBelow spot m entries) → AreGreatestRuns spot entries
AreGreatestRuns-from_below spot entries runs = record {
  spots = λ i. let r = runs (i + 1) in r.2.spots i (omega (arith, r.1));
  some = (runs 0).2.some;
  sorted = λ k d below. (runs 0).2.sorted k (k + 1) d (omega arith) below;
  greatest = λ k d below. (runs 0).2.greatest k d below;
}
