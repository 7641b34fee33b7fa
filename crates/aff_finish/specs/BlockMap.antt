-- The block map hash: one digest over all block hashes of a stream, and over the map of an image (after AFF4 Standard v1.0,
-- block hashes).
use Rattle.std.specs.Prelude.{ℕ, List, ◌++◌}
use Rattle.std.specs.List.{range_with_len, flat_map}
use Rattle.sha2.specs.Sha512.{sha512}
use Rattle.aff_model.specs.Held.{Held, bytes_of}
use Rattle.aff_spec.specs.Names.{md5_name, sha1_name, sha256_name, map_name, idx_name}

-- the block hash segments of one hash function, of so many bevvies of a stream, one behind another
abbrev pub block_hashes : (List ℕ → ℕ → List ℕ) → Held → List ℕ → ℕ → List ℕ
block_hashes name held stream bevvies = flat_map (λ b. bytes_of held (name stream b)) (range_with_len 0 bevvies)

-- five digests, one behind another: of the block hashes by each function, of the map, and of the list of its targets
abbrev pub block_map_digests : Held → List ℕ → List ℕ → ℕ → List ℕ
block_map_digests held stream image bevvies =
    sha512 (block_hashes md5_name held stream bevvies) ++ (sha512 (block_hashes sha1_name held stream bevvies) ++ (sha512 (block_hashes sha256_name held stream bevvies)
    ++ (sha512 (bytes_of held (map_name image)) ++ sha512 (bytes_of held (idx_name image)))))

-- the block map hash of an image over a stream of so many bevvies, as a folder has them
abbrev pub block_map_hash : Held → List ℕ → List ℕ → ℕ → List ℕ
block_map_hash held stream image bevvies = sha512 (block_map_digests held stream image bevvies)
