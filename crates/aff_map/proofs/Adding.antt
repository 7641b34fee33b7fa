-- What a run adds to a map, and what several do one after another.
use Rattle.std.proofs.Common.{◌≡◌, ℕ, suc, ◌+◌, ◌-◌, ◌<◌, ◌≤◌, ◌^◌, List, [], ◌∷◌, ◌++◌, length, take, get_or, set, sym, ap, ◌∙◌, subst, arith}
use Rattle.std.specs.Prelude.{Option, Some}
use Rattle.std.proofs.lemmas.List.{drop_all, set_split, take-append-drop, drop_more}
use Rattle.std.proofs.lemmas.List.Elements.{All-push, All-set}
use Rattle.aff_fields.specs.declared.entry.Entry.{Entry}
use Rattle.aff_fields.specs.Entry.{FitsEntry}
use Rattle.aff_spec.specs.Runs.{Spot, AreJoined, spot_in}
use Rattle.aff_map.specs.Building.{Adds, Agree, AreRunsBelow}
use Rattle.aff_map.proofs.Below.{AreRunsBelow-join, AreRunsBelow-push, longer}

-- a run that is not joined to the last entry
pub Adds-push : (old : List Entry) (run : Entry) → 0 < run.len → FitsEntry run
    → ((d : Entry) → 0 < length old → ¬ (AreJoined (get_or old (length old - 1) d) run))
    → Adds run.at (run.at + run.len) (λ i. Some (spot_in i run)) old (old ++ run ∷ [])
Adds-push old run some fits split = record {
  runs = λ spot below same. AreRunsBelow-push spot old run below some same split;
  fits = λ all. All-push FitsEntry old run all fits;
}

-- a list with another last element
set_last : {X : Type 0} (xs : List X) (y d : X) → 0 < length xs → set xs (length xs - 1) y ≡ take (length xs - 1) xs ++ y ∷ []
set_last xs y d some =
    set_split xs (length xs - 1) y (omega arith)
    ∙ ap (λ rest. take (length xs - 1) xs ++ y ∷ rest) (drop_all (suc (length xs - 1)) xs (omega arith))

split_last : {X : Type 0} (xs : List X) (d : X) → 0 < length xs → xs ≡ take (length xs - 1) xs ++ get_or xs (length xs - 1) d ∷ []
split_last xs d some =
    sym (take-append-drop (length xs - 1) xs)
    ∙ ap (λ rest. take (length xs - 1) xs ++ rest) (drop_more xs (length xs - 1) d (omega arith))
    ∙ ap (λ rest. take (length xs - 1) xs ++ get_or xs (length xs - 1) d ∷ rest) (drop_all (length xs - 1 + 1) xs (omega arith))

-- a run that is joined to the last entry
pub Adds-join : (old : List Entry) (last run : Entry) → 0 < length old → get_or old (length old - 1) last ≡ last → 0 < run.len → run.at + run.len < 2 ^ 64 → AreJoined last run
    → Adds run.at (run.at + run.len) (λ i. Some (spot_in i run)) old (set old (length old - 1) (longer last run.len))
Adds-join old last run some is more end joined =
    let split : old ≡ take (length old - 1) old ++ last ∷ [] = split_last old last some ∙ ap (λ e. take (length old - 1) old ++ e ∷ []) is in
    let image : last.at + last.len ≡ run.at = joined.image in
    record {
      runs = λ spot below same. subst (AreRunsBelow spot (run.at + run.len)) (sym (set_last old (longer last run.len) last some))
          (AreRunsBelow-join spot (take (length old - 1) old) last run (subst (AreRunsBelow spot run.at) split below) joined more same);
      fits = λ all.
          let fit : FitsEntry last = subst FitsEntry is (all (length old - 1) last (omega arith)) in
          All-set FitsEntry old (length old - 1) (longer last run.len) (record { at = fit.at; len = omega arith; target_at = fit.target_at; target = fit.target }) all;
    }

-- nothing
pub Adds-none : (from : ℕ) (spots : ℕ → Option Spot) (old : List Entry) → Adds from from spots old old
Adds-none from spots old = record { runs = λ spot below same. below; fits = λ all. all }

-- one range behind another
pub Adds-then : (from mid to : ℕ) (spots : ℕ → Option Spot) (old between new : List Entry) → from ≤ mid → mid ≤ to → Adds from mid spots old between → Adds mid to spots between new → Adds from to spots old new
Adds-then from mid to spots old between new h k first second = record {
  runs = λ spot below same. second.runs spot (first.runs spot below (λ i low high. same i low (omega arith))) (λ i low high. same i (omega arith) high);
  fits = λ all. second.fits (first.fits all);
}

-- the same spots, said otherwise
pub Adds-same : (from to : ℕ) (spots others : ℕ → Option Spot) (old new : List Entry) → Agree from to spots others → Adds from to spots old new → Adds from to others old new
Adds-same from to spots others old new agree adds = record {
  runs = λ spot below same. adds.runs spot below (λ i low high. agree i low high ∙ same i low high);
  fits = adds.fits;
}

-- the same bounds, said otherwise
pub Adds-bounds : (from from' to to' : ℕ) (spots : ℕ → Option Spot) (old new : List Entry) → from ≡ from' → to ≡ to' → Adds from to spots old new → Adds from' to' spots old new
Adds-bounds from from' to to' spots old new a b adds = subst (λ n. Adds n to' spots old new) a (subst (λ n. Adds from n spots old new) b adds)

-- the two by what the code reads of the map
pub Adds-pushed : (old seen new : List Entry) (run : Entry) → seen ≡ old → new ≡ old ++ run ∷ [] → 0 < run.len → FitsEntry run
    → ((d : Entry) → 0 < length seen → ¬ (AreJoined (get_or seen (length seen - 1) d) run))
    → Adds run.at (run.at + run.len) (λ i. Some (spot_in i run)) old new
Adds-pushed old seen new run same is some fits split =
    subst (Adds run.at (run.at + run.len) (λ i. Some (spot_in i run)) old) (sym is)
    (Adds-push old run some fits (subst (λ (es : List Entry). (d : Entry) → 0 < length es → ¬ (AreJoined (get_or es (length es - 1) d) run)) same split))

pub Adds-joined : (old seen new : List Entry) (n : ℕ) (last run : Entry) → seen ≡ old → n ≡ length old → last ≡ get_or old (n - 1) last → new ≡ set old (n - 1) (longer last run.len) → 0 < run.len → run.at + run.len < 2 ^ 64
    → 0 < length seen → ((d : Entry) → AreJoined (get_or seen (length seen - 1) d) run)
    → Adds run.at (run.at + run.len) (λ i. Some (spot_in i run)) old new
Adds-joined old seen new n last run same count read is more end some joined =
    let some_old : 0 < length old = subst (λ (es : List Entry). 0 < length es) same some in
    let joined_old : AreJoined (get_or old (length old - 1) last) run = subst (λ (es : List Entry). AreJoined (get_or es (length es - 1) last) run) same (joined last) in
    let read_old : get_or old (length old - 1) last ≡ last = ap (λ k. get_or old (k - 1) last) (sym count) ∙ sym read in
    subst (Adds run.at (run.at + run.len) (λ i. Some (spot_in i run)) old) (ap (λ k. set old (k - 1) (longer last run.len)) (sym count) ∙ sym is)
    (Adds-join old last run some_old read_old more end (subst (λ e. AreJoined e run) read_old joined_old))
