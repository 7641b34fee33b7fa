-- What a place of an opened map leads to, by the entry that covers it or by the gap.
use Rattle.std.proofs.Common.{◌≡◌, ℕ, ◌+◌, ◌-◌, ◌^◌, ◌<◌, ◌≤◌, List, length, sym, ap, subst, arith}
use Rattle.std.specs.Prelude.{Option, Some, None, find}
use Rattle.std.specs.Option.{option_map}
use Rattle.aff_fields.specs.declared.entry.Entry.{Entry}
use Rattle.aff_fields.specs.Entry.{entries_of}
use Rattle.aff_spec.specs.Runs.{covers, lookup, spot_in}
use Rattle.aff_spec.proofs.Lookups.{covered_from, found_passes}
use Rattle.aff_map.specs.declared.map.Spot.{Spot}
use Rattle.aff_map.specs.declared.target.Target.{Target}
use Rattle.aff_map.specs.declared.target.Target.TheVariants.{Stored, Zero, Unknown, Unreadable}
use Rattle.aff_map.specs.Finding.{EndsAt, GoesOn, IsGapEnd, LeadsTo, ReachesInto}
use Rattle.aff_map.specs.Mapped.{IsEntry, IsMap, Mapped, numbered_target, target_end}
use Rattle.aff_map.proofs.Covering.{covered_to, goes_on-covered, goes_on-gap}

-- a map by its parts
abbrev pub mapped : List Entry → List Target → ℕ → ℕ → Target → Mapped
mapped entries targets size stream_size gap =
    record { entries = entries; targets = targets; size = size; stream_size = stream_size; gap = gap }

pub target_end-small : (stream_size : ℕ) (t : Target) → stream_size < 2 ^ 64 → target_end stream_size t ≤ 2 ^ 64
target_end-small stream_size Stored small = omega (arith, small)
target_end-small stream_size Zero small = omega arith
target_end-small stream_size Unknown small = omega arith
target_end-small stream_size Unreadable small = omega arith

-- all that is told of a spot
pub record IsTold (m : Mapped) (at : ℕ) (s : Spot) : Type 0 where
  pub leads : LeadsTo m at (lookup m.entries at) s
  pub ends : EndsAt m at (find (covers at) m.entries) (at + s.len)
  pub some : 0 < s.len
  pub inside : at + s.len ≤ m.size
  pub reaches : ReachesInto m (lookup m.entries at) s
  pub goes_on : GoesOn m.entries at s.len

-- what an entry is that covers a place
pub record Covers (m : Mapped) (at : ℕ) (e : Entry) : Type 0 where
  pub entry : IsEntry m.size m.stream_size m.targets e
  pub from : e.at ≤ at
  pub to : at < e.at + e.len

pub found_covers : (m : Mapped) → IsMap m → (at : ℕ) (e : Entry) → find (covers at) m.entries ≡ Some e → Covers m at e
found_covers m legal at e found =
    let f = found_passes (IsEntry m.size m.stream_size m.targets) (covers at) m.entries e legal.each found in
    record { entry = f.0; from = covered_from at e f.1; to = covered_to at e f.1 }

pub told-covered : (m : Mapped) → IsMap m → (at : ℕ) (e : Entry) (s : Spot) → find (covers at) m.entries ≡ Some e → s.target ≡ numbered_target m.targets e.target → s.target_at ≡ e.target_at + (at - e.at) → at + s.len ≡ e.at + e.len → IsTold m at s
told-covered m legal at e s found target place end =
    let c = found_covers m legal at e found in
    let looked : lookup m.entries at ≡ Some (spot_in at e) = ap (option_map (spot_in at)) found in
    let low = c.from in
    let high = c.to in
    let reach : s.target_at + s.len ≤ target_end m.stream_size (numbered_target m.targets e.target) = omega (arith, c.entry.reaches, place, end, low, high) in
    record {
      leads = subst (λ o. LeadsTo m at o s) (sym looked) (target, place);
      ends = subst (λ o. EndsAt m at o (at + s.len)) (sym found) end;
      some = omega (arith, end, high);
      inside = omega (arith, end, c.entry.inside);
      reaches = subst (λ o. ReachesInto m o s) (sym looked) (subst (λ t. s.target_at + s.len ≤ target_end m.stream_size t) (sym target) reach);
      goes_on = goes_on-covered m.entries legal.apart at s.len e found (omega (arith, end));
    }

pub told-gap : (m : Mapped) (at : ℕ) (s : Spot) (end : ℕ) → find (covers at) m.entries ≡ None → IsGapEnd m.entries m.size at end → s.target ≡ m.gap → s.target_at ≡ at → at + s.len ≡ end → IsTold m at s
told-gap m at s end found gap target place is =
    let looked : lookup m.entries at ≡ None = ap (option_map (spot_in at)) found in
    let gap_at : IsGapEnd m.entries m.size at (at + s.len) = subst (IsGapEnd m.entries m.size at) (sym is) gap in
    record {
      leads = subst (λ o. LeadsTo m at o s) (sym looked) (target, place);
      ends = subst (λ o. EndsAt m at o (at + s.len)) (sym found) gap_at;
      some = omega (arith, gap_at.behind);
      inside = gap_at.inside;
      reaches = subst (λ o. ReachesInto m o s) (sym looked) tt;
      goes_on = goes_on-gap m.entries m.size at s.len found gap_at;
    }
