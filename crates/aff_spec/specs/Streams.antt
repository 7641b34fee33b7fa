-- Streams: what the bevvies of a folder and their indexes read as (AFF4 Standard v1.0, image streams; the points of an
-- index are this project's own). A stream is named by its URN.
use Rattle.std.specs.Prelude.{ℕ, ◌*◌, ◌/◌, ◌%◌, List, take, drop, map, Option, slice_get}
use Rattle.std.specs.List.{range_with_len}
use Rattle.aff_model.specs.declared.limits.TheConstants.{BEVVY, CHUNK}
use Rattle.aff_model.specs.Held.{Held, bytes_of}
use Rattle.aff_fields.specs.declared.point.Point.{Point}
use Rattle.aff_fields.specs.Point.{point_at}
use Rattle.aff_spec.specs.Names.{bevvy_name, index_name}

-- the part of a bevvy that a point names
abbrev pub part_of : Point → List ℕ → List ℕ
part_of p bevvy = take p.len (drop p.at bevvy)

-- chunk c of a stream: the part of bevvy c / 1024 that point c mod 1024 of its index names
abbrev pub chunk_of : Held → List ℕ → ℕ → List ℕ
chunk_of held stream c = part_of (point_at (bytes_of held (index_name stream (c / BEVVY))) (c % BEVVY)) (bytes_of held (bevvy_name stream (c / BEVVY)))

-- byte j of a stream: byte j mod 32,768 of chunk j / 32,768
abbrev pub stream_byte : Held → List ℕ → ℕ → Option ℕ
stream_byte held stream j = slice_get (chunk_of held stream (j / CHUNK)) (j % CHUNK)

-- the points of an index whose n chunks stand one after another
abbrev pub full_points : ℕ → List Point
full_points n = map (λ k. record { at = CHUNK * k; len = CHUNK }) (range_with_len 0 n)
