-- The appends of an acquisition, and the segments that they make.
use Rattle.std.specs.Prelude.{ℕ, List, [], ◌∷◌, ◌++◌}
use Rattle.std.specs.List.{range_with_len, flat_map}
use Rattle.aff_fields.specs.declared.entry.Entry.{Entry}
use Rattle.aff_fields.specs.Entry.{entry_bytes}
use Rattle.aff_spec.specs.Bevvies.{bevvy_count, bevvy_segments, bevvies_appends, ending}
use Rattle.aff_spec.specs.Names.{stream_urn, image_urn, map_name, idx_name}
use Rattle.aff_spec.specs.Appends.{Append}
use Rattle.aff_spec.specs.Volumes.{targets_text}

-- the appends of a run: the stream bevvy by bevvy, the map with these entries, and the list of targets
abbrev pub map_appends : List ℕ → List Entry → List Append
map_appends uuid entries = (map_name (image_urn uuid), flat_map entry_bytes entries) ∷ (idx_name (image_urn uuid), targets_text (stream_urn uuid)) ∷ []

abbrev pub volume_appends : List ℕ → List (List ℕ) → List Entry → List Append
volume_appends uuid chunks entries = bevvies_appends (stream_urn uuid) chunks ++ map_appends uuid entries

-- those that are left when all chunks are written: what ends the stream, the map and the targets
abbrev pub end_appends : List ℕ → List (List ℕ) → List Entry → List Append
end_appends uuid chunks entries = ending (stream_urn uuid) chunks ++ map_appends uuid entries

-- the segments of a volume of n stored chunks: those of each bevvy, the map and the list of targets
abbrev pub segment_names : List ℕ → ℕ → List (List ℕ)
segment_names uuid n =
    flat_map (bevvy_segments (stream_urn uuid)) (range_with_len 0 (bevvy_count n)) ++ map_name (image_urn uuid) ∷ idx_name (image_urn uuid) ∷ []
