-- The block hashes of a stream, as the block map hash reads them back.
use Rattle.std.proofs.Common.{ℕ, ◌*◌, List}
use Rattle.aff_model.specs.Held.{Held}
use Rattle.aff_spec.specs.BlockHashes.{chunks_in}
use Rattle.aff_spec.specs.Names.{md5_name, sha1_name, sha256_name}
use Rattle.aff_bevvy.specs.Segments.{held_length}
use Rattle.aff_finish.specs.Kept.{HasAllKept}
use Rattle.aff_finish.specs.declared.block_map.Kept.TheVariants.{Md5, Sha1, Sha256}
use Rattle.aff_volume.specs.Hashed.{AreHashed}
use Rattle.aff_volume.proofs.Lengths.{room_known}

pub all_kept : (held : Held) (stream : List ℕ) (n : ℕ) → AreHashed (held_length held) stream n → HasAllKept held stream n
all_kept held stream n hashed Md5 b low = room_known held (md5_name stream b) (16 * chunks_in n b) (hashed b low).by_md5
all_kept held stream n hashed Sha1 b low = room_known held (sha1_name stream b) (20 * chunks_in n b) (hashed b low).by_sha1
all_kept held stream n hashed Sha256 b low = room_known held (sha256_name stream b) (32 * chunks_in n b) (hashed b low).by_sha256
