use Rattle.std.proofs.Common.{◌≡◌, ℕ, List, [], ◌∷◌, codes, refl, ap, ◌∙◌}
use Rattle.std.specs.Prelude.{Option, Some, unwrap_or, slice_get}
use Rattle.std.specs.Option.{option_map, option_and_then}
use Rattle.std.specs.Ordering.{nat_cmp}
use Rattle.std.specs.Cmp.Lexicographic.{slice_cmp}
use Rattle.std.specs.FinMap.{get-from_sorted}
use Rattle.aff_model.specs.declared.cell.Cell.TheVariants.{Byte}
use Rattle.aff_model.specs.Held.{bytes_of}
use Rattle.aff_fields.specs.Entry.{entries_of}
use Rattle.aff_fields.specs.Point.{point_at}
use Rattle.aff_spec.specs.Names.{bevvy_name, index_name, map_name, idx_name, stream_urn, image_urn}
use Rattle.aff_spec.specs.Runs.{lookup}
use Rattle.aff_spec.specs.Streams.{part_of}
use Rattle.aff_spec.specs.Lines.{lines_of}
use Rattle.aff_spec.specs.Volumes.{spot_cell, spot_byte, target_cell, target_byte, volume_of}
use Rattle.aff_rows.specs.Small.{four_bytes, four_bytes_segments, uuid}
use Rattle.aff_rows.proofs.cases.a_volume_of_four_bytes.Goals as goal

map_bytes : List ℕ
map_bytes = 2 ∷ 0 ∷ 0 ∷ 0 ∷ 0 ∷ 0 ∷ 0 ∷ 0 ∷ 3 ∷ 0 ∷ 0 ∷ 0 ∷ 0 ∷ 0 ∷ 0 ∷ 0 ∷ 1 ∷ 0 ∷ 0 ∷ 0 ∷ 0 ∷ 0 ∷ 0 ∷ 0 ∷ 0 ∷ 0 ∷ 0 ∷ 0 ∷ []

map_is : bytes_of four_bytes (map_name (image_urn uuid)) ≡ map_bytes
unfolding map_bytes
map_is = ap (λ o. unwrap_or o []) (get-from_sorted (slice_cmp nat_cmp) four_bytes_segments (map_name (image_urn uuid)) tt)

idx_is : bytes_of four_bytes (idx_name (image_urn uuid)) ≡ codes "aff4://11111111-2222-4333-8444-555555555555/data\nhttp://aff4.org/Schema#Zero\n"
idx_is = ap (λ o. unwrap_or o []) (get-from_sorted (slice_cmp nat_cmp) four_bytes_segments (idx_name (image_urn uuid)) tt)

bevvy_is : bytes_of four_bytes (bevvy_name (stream_urn uuid) 0) ≡ 9 ∷ 8 ∷ 7 ∷ 6 ∷ []
bevvy_is = ap (λ o. unwrap_or o []) (get-from_sorted (slice_cmp nat_cmp) four_bytes_segments (bevvy_name (stream_urn uuid) 0) tt)

index_is : bytes_of four_bytes (index_name (stream_urn uuid) 0) ≡ 0 ∷ 0 ∷ 0 ∷ 0 ∷ 0 ∷ 0 ∷ 0 ∷ 0 ∷ 4 ∷ 0 ∷ 0 ∷ 0 ∷ []
index_is = ap (λ o. unwrap_or o []) (get-from_sorted (slice_cmp nat_cmp) four_bytes_segments (index_name (stream_urn uuid) 0) tt)

-- byte j of the stream, by its bevvy and index
byte_is : (j : ℕ) (b : Option ℕ) → slice_get (part_of (point_at (0 ∷ 0 ∷ 0 ∷ 0 ∷ 0 ∷ 0 ∷ 0 ∷ 0 ∷ 4 ∷ 0 ∷ 0 ∷ 0 ∷ []) 0) (9 ∷ 8 ∷ 7 ∷ 6 ∷ [])) j ≡ b
    → slice_get (part_of (point_at (bytes_of four_bytes (index_name (stream_urn uuid) 0)) 0) (bytes_of four_bytes (bevvy_name (stream_urn uuid) 0))) j ≡ b
byte_is j b e = (λ i. slice_get (part_of (point_at (index_is i) 0) (bevvy_is i)) j) ∙ e

first_target : slice_get (lines_of (bytes_of four_bytes (idx_name (image_urn uuid)))) 0 ≡ Some (stream_urn uuid)
first_target = ap (λ v. slice_get (lines_of v) 0) idx_is

pub returns-clause-before : goal.returns-clause-before
unfolding map_bytes
returns-clause-before c = ap (λ v. spot_cell four_bytes (volume_of uuid) 1 (lookup (entries_of v) 1)) map_is

pub returns-clause-behind : goal.returns-clause-behind
unfolding map_bytes
returns-clause-behind c = ap (λ v. spot_cell four_bytes (volume_of uuid) 5 (lookup (entries_of v) 5)) map_is

pub returns-clause-letter : goal.returns-clause-letter
unfolding map_bytes
returns-clause-letter c = ap (λ v. spot_byte four_bytes (volume_of uuid) 1 (lookup (entries_of v) 1)) map_is

pub returns-clause-first : goal.returns-clause-first
unfolding map_bytes
returns-clause-first c =
    ap (λ v. spot_cell four_bytes (volume_of uuid) 2 (lookup (entries_of v) 2)) map_is
    ∙ ap (option_and_then (λ target. target_cell four_bytes (volume_of uuid) target 1)) first_target
    ∙ ap (option_map Byte) (byte_is 1 (Some 8) refl)

pub returns-clause-last : goal.returns-clause-last
unfolding map_bytes
returns-clause-last c =
    ap (λ v. spot_cell four_bytes (volume_of uuid) 4 (lookup (entries_of v) 4)) map_is
    ∙ ap (option_and_then (λ target. target_cell four_bytes (volume_of uuid) target 3)) first_target
    ∙ ap (option_map Byte) (byte_is 3 (Some 6) refl)

pub returns-clause-byte : goal.returns-clause-byte
unfolding map_bytes
returns-clause-byte c =
    ap (λ v. spot_byte four_bytes (volume_of uuid) 3 (lookup (entries_of v) 3)) map_is
    ∙ ap (option_and_then (λ target. target_byte four_bytes (volume_of uuid) target 2)) first_target
    ∙ byte_is 2 (Some 7) refl
