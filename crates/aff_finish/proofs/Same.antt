-- An image that is read from two folders whose segments, in the folders of URNs, are the same.
use Rattle.std.proofs.Common.{◌≡◌, ℕ, ◌*◌, ◌/◌, ◌%◌, List, ◌++◌, sym, ap, ◌∙◌, codes}
use Rattle.std.specs.Prelude.{Option, None, Some, if◌then◌else◌, ◌==◌, map, slice_get, unwrap_or}
use Rattle.std.specs.List.{flat_map, range_with_len}
use Rattle.std.specs.Option.{option_map, option_and_then}
use Rattle.std.specs.Str.{bytes_eq}
use Rattle.md5.specs.Md5.{md5}
use Rattle.sha1.specs.Sha1.{sha1}
use Rattle.sha2.specs.Sha256.{sha256}
use Rattle.sha2.specs.Sha512.{sha512}
use Rattle.aff_model.specs.declared.cell.Cell.{Cell}
use Rattle.aff_model.specs.declared.cell.Cell.TheVariants.{Byte, Unreadable, Unknown}
use Rattle.aff_model.specs.declared.limits.TheConstants.{BEVVY, CHUNK}
use Rattle.aff_model.specs.Held.{Held, bytes_of}
use Rattle.aff_fields.specs.Entry.{entries_of}
use Rattle.aff_fields.specs.Point.{point_at}
use Rattle.aff_spec.specs.BlockHashes.{HasBlockHashes, chunks_in, digests_from}
use Rattle.aff_spec.specs.Names.{eight_digits, segment_in, map_name, idx_name, zero_iri, unknown_iri, unreadable_iri}
use Rattle.aff_spec.specs.Lines.{lines_of}
use Rattle.aff_spec.specs.Runs.{Spot, lookup}
use Rattle.aff_spec.specs.Streams.{part_of, chunk_of, stream_byte}
use Rattle.aff_spec.specs.Symbols.{unknown_byte, unreadable_byte}
use Rattle.aff_spec.specs.Volumes.{Volume, spot_byte, spot_cell, target_byte, target_cell, volume_byte, volume_bytes, volume_cell}
use Rattle.aff_finish.specs.BlockMap.{block_map_digests}

-- the segments in the folders of URNs are the same
abbrev pub AreAlike : Held → Held → Type 0
AreAlike h g = (urn x : List ℕ) → bytes_of h (segment_in urn x) ≡ bytes_of g (segment_in urn x)

module _ (h g : Held) (same : AreAlike h g) where
  chunk_same : (stream : List ℕ) (c : ℕ) → chunk_of h stream c ≡ chunk_of g stream c
  chunk_same stream c = λ i.
      part_of (point_at (same stream (eight_digits (c / BEVVY) ++ codes ".index") i) (c % BEVVY)) (same stream (eight_digits (c / BEVVY)) i)

  byte_same : (stream : List ℕ) (j : ℕ) → stream_byte h stream j ≡ stream_byte g stream j
  byte_same stream j = ap (λ chunk. slice_get chunk (j % CHUNK)) (chunk_same stream (j / CHUNK))

  module _ (v : Volume) where
    target_cell_same : (target : List ℕ) (place : ℕ) → target_cell h v target place ≡ target_cell g v target place
    target_cell_same target place =
        ap (λ o.
        if bytes_eq target v.stream then option_map Byte o
        else (if bytes_eq target zero_iri then Some (Byte 0)
        else (if bytes_eq target unreadable_iri then Some Unreadable
        else (if bytes_eq target unknown_iri then Some Unknown else None)))) (byte_same v.stream place)

    target_byte_same : (target : List ℕ) (place : ℕ) → target_byte h v target place ≡ target_byte g v target place
    target_byte_same target place =
        ap (λ o.
        if bytes_eq target v.stream then o
        else (if bytes_eq target zero_iri then Some 0
        else (if bytes_eq target unreadable_iri then Some (unreadable_byte place)
        else (if bytes_eq target unknown_iri then Some (unknown_byte place) else None)))) (byte_same v.stream place)

    spot_cell_same : (i : ℕ) (spot : Option Spot) → spot_cell h v i spot ≡ spot_cell g v i spot
    spot_cell_same i None = target_cell_same v.gap i
    spot_cell_same i (Some s) = λ j. option_and_then (λ target. target_cell_same target s.1 j) (slice_get (lines_of (same v.image (codes "idx") j)) s.0)

    spot_byte_same : (i : ℕ) (spot : Option Spot) → spot_byte h v i spot ≡ spot_byte g v i spot
    spot_byte_same i None = target_byte_same v.gap i
    spot_byte_same i (Some s) = λ j. option_and_then (λ target. target_byte_same target s.1 j) (slice_get (lines_of (same v.image (codes "idx") j)) s.0)

    pub cell_alike : (i : ℕ) → volume_cell h v i ≡ volume_cell g v i
    cell_alike i =
        spot_cell_same i (lookup (entries_of (bytes_of h (map_name v.image))) i) ∙ ap (λ b. spot_cell g v i (lookup (entries_of b) i)) (same v.image (codes "map"))

    pub byte_alike : (i : ℕ) → volume_byte h v i ≡ volume_byte g v i
    byte_alike i =
        spot_byte_same i (lookup (entries_of (bytes_of h (map_name v.image))) i) ∙ ap (λ b. spot_byte g v i (lookup (entries_of b) i)) (same v.image (codes "map"))

    pub bytes_alike : (size : ℕ) → volume_bytes h v size ≡ volume_bytes g v size
    bytes_alike size = λ j. map (λ i. unwrap_or (byte_alike i j) 0) (range_with_len 0 size)

  module _ (stream : List ℕ) where
    digests_same : (hash : List ℕ → List ℕ) (c n : ℕ) → digests_from hash h stream c n ≡ digests_from hash g stream c n
    digests_same hash c n = λ j. flat_map (λ k. hash (chunk_same stream k j)) (range_with_len c n)

    pub blocks_alike : (n : ℕ) → HasBlockHashes h stream n → HasBlockHashes g stream n
    blocks_alike n has = record {
      by_md5 = λ b below. sym (same stream (eight_digits b ++ codes ".blockHash.md5")) ∙ has.by_md5 b below ∙ digests_same md5 (BEVVY * b) (chunks_in n b);
      by_sha1 = λ b below. sym (same stream (eight_digits b ++ codes ".blockHash.sha1")) ∙ has.by_sha1 b below ∙ digests_same sha1 (BEVVY * b) (chunks_in n b);
      by_sha256 = λ b below. sym (same stream (eight_digits b ++ codes ".blockHash.sha256")) ∙ has.by_sha256 b below ∙ digests_same sha256 (BEVVY * b) (chunks_in n b);
    }

    pub block_map_alike : (image : List ℕ) (bevvies : ℕ) → block_map_digests h stream image bevvies ≡ block_map_digests g stream image bevvies
    block_map_alike image bevvies = λ i.
        sha512 (flat_map (λ b. same stream (eight_digits b ++ codes ".blockHash.md5") i) (range_with_len 0 bevvies))
        ++ (sha512 (flat_map (λ b. same stream (eight_digits b ++ codes ".blockHash.sha1") i) (range_with_len 0 bevvies))
        ++ (sha512 (flat_map (λ b. same stream (eight_digits b ++ codes ".blockHash.sha256") i) (range_with_len 0 bevvies))
        ++ (sha512 (same image (codes "map") i) ++ sha512 (same image (codes "idx") i))))
