-- Where a map leads is where the image reads from.
use Rattle.std.proofs.Common.{◌≡◌, ℕ, ◌+◌, ◌-◌, ◌<◌, List, refl, sym, ap, ◌∙◌, get_or}
use Rattle.std.specs.Prelude.{Option, Some, None, find}
use Rattle.std.specs.Option.{option_map, option_and_then}
use Rattle.aff_model.specs.Held.{Held, bytes_of}
use Rattle.aff_fields.specs.declared.entry.Entry.{Entry}
use Rattle.aff_fields.specs.Entry.{entries_of}
use Rattle.aff_info.specs.declared.info.Info.{Info}
use Rattle.aff_map.specs.declared.map.Spot.{Spot}
use Rattle.aff_map.specs.declared.target.Target.TheVariants.{Stored}
use Rattle.aff_map.specs.Finding.{GoesOn, LeadsTo}
use Rattle.aff_map.specs.Mapped.{IsEntry, Mapped, numbered_target}
use Rattle.aff_map.specs.Targets.{targets_of}
use Rattle.aff_spec.specs.Names.{idx_name, map_name}
use Rattle.aff_spec.specs.Runs.{covers, lookup, spot_in}
use Rattle.aff_spec.specs.Volumes.{spot_byte, target_byte, volume_byte}
use Rattle.aff_spec.proofs.Lookups.{found_passes}
use Rattle.aff_volume.specs.Image.{name_of, named_by, spot_offset, stored_offset, stream_offset}
use Rattle.aff_volume.specs.Opened.{IsFit}
use Rattle.aff_volume.specs.Reading.{IsMapped}
use Rattle.aff_volume.proofs.Lines.{byte_of, gap_names, line_byte, line_names, line_offset, offset_of}

module _ (held : Held) (info : Info) (map : Mapped) (fit : IsFit info) (is : IsMapped held info map) (at : ℕ) (s : Spot) (goes : GoesOn map.entries at s.len) where
  idx : List ℕ
  idx = bytes_of held (idx_name info.image)

  abbrev here : List Entry
  here = entries_of (bytes_of held (map_name info.image))

  entries_are : map.entries ≡ here
  entries_are = ap (λ (m : Mapped). m.entries) is.map

  targets_are : map.targets ≡ targets_of info.stream (bytes_of held (idx_name info.image))
  targets_are = ap (λ (m : Mapped). m.targets) is.map

  gap_is : map.gap ≡ info.gap
  gap_is = ap (λ (m : Mapped). m.gap) is.map

  -- what a byte of a run and its offset are
  record Reads (j : ℕ) : Type 0 where
    byte : volume_byte held (named_by info) (at + j) ≡ byte_of held info.stream s.target (s.target_at + j)
    offset : stored_offset held (named_by info) (at + j) ≡ offset_of s.target (s.target_at + j)

  goes_here : (j : ℕ) (o : Option (ℕ × ℕ)) → j < s.len → lookup map.entries at ≡ o → lookup here (at + j) ≡ option_map (λ f. (f.0, f.1 + j)) o
  goes_here j o low found = ap (λ es. lookup es (at + j)) (sym entries_are) ∙ goes j low ∙ ap (option_map (λ f. (f.0, f.1 + j))) found

  in_gap : (j : ℕ) → j < s.len → lookup map.entries at ≡ None → s.target ≡ map.gap → s.target_at ≡ at → Reads j
  in_gap j low none target place =
      let names = gap_names info.stream info.gap fit.stream fit.gap in
      let there = goes_here j None low none in
      let own : s.target ≡ info.gap = target ∙ gap_is in
      record {
        byte = ap (spot_byte held (named_by info) (at + j)) there ∙ line_byte held (named_by info) (name_of info.stream info.gap) info.gap (at + j) names ∙ (λ i. byte_of held info.stream (sym own i) (sym place i + j));
        offset = ap (spot_offset held (named_by info) (at + j)) there ∙ line_offset held (named_by info) (name_of info.stream info.gap) info.gap (at + j) names ∙ (λ i. offset_of (sym own i) (sym place i + j));
      }

  in_entry : (j : ℕ) (e : Entry) → j < s.len → find (covers at) map.entries ≡ Some e → s.target ≡ numbered_target map.targets e.target → s.target_at ≡ e.target_at + (at - e.at) → Reads j
  in_entry j e low found target place =
      let there = goes_here j (Some (spot_in at e)) low (ap (option_map (spot_in at)) found) in
      let entry : IsEntry info.image_size info.stream_size (targets_of info.stream (bytes_of held (idx_name info.image))) e =
      (found_passes (IsEntry info.image_size info.stream_size (targets_of info.stream (bytes_of held (idx_name info.image)))) (covers at) here e is.there.map.each (ap (find (covers at)) (sym entries_are) ∙ found)).0 in
      let line = line_names info.stream (bytes_of held (idx_name info.image)) e.target is.there.map.named entry.known in
      let own : s.target ≡ get_or (targets_of info.stream (bytes_of held (idx_name info.image))) e.target Stored = target ∙ ap (λ ts. get_or ts e.target Stored) targets_are in
      record {
        byte =
            ap (spot_byte held (named_by info) (at + j)) there
            ∙ ap (option_and_then (λ l. target_byte held (named_by info) l (e.target_at + (at - e.at) + j))) line.1
            ∙ line_byte held (named_by info) line.0 (get_or (targets_of info.stream (bytes_of held (idx_name info.image))) e.target Stored) (e.target_at + (at - e.at) + j) line.2
            ∙ (λ i. byte_of held info.stream (sym own i) (sym place i + j));
        offset =
            ap (spot_offset held (named_by info) (at + j)) there
            ∙ ap (option_and_then (λ l. stream_offset (named_by info) l (e.target_at + (at - e.at) + j))) line.1
            ∙ line_offset held (named_by info) line.0 (get_or (targets_of info.stream (bytes_of held (idx_name info.image))) e.target Stored) (e.target_at + (at - e.at) + j) line.2
            ∙ (λ i. offset_of (sym own i) (sym place i + j));
      }

  reads : (o : Option Entry) → find (covers at) map.entries ≡ o → LeadsTo map at (option_map (spot_in at) o) s → (j : ℕ) → j < s.len → Reads j
  reads None found leads j low = in_gap j low (ap (option_map (spot_in at)) found) leads.0 leads.1
  reads (Some e) found leads j low = in_entry j e low found leads.0 leads.1

  pub run_byte : LeadsTo map at (lookup map.entries at) s → (j : ℕ) → j < s.len → volume_byte held (named_by info) (at + j) ≡ byte_of held info.stream s.target (s.target_at + j)
  run_byte leads j low = (reads (find (covers at) map.entries) refl leads j low).byte

  pub run_offset : LeadsTo map at (lookup map.entries at) s → (j : ℕ) → j < s.len → stored_offset held (named_by info) (at + j) ≡ offset_of s.target (s.target_at + j)
  run_offset leads j low = (reads (find (covers at) map.entries) refl leads j low).offset
