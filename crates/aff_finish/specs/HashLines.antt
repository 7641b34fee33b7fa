-- The lines of a report that state the hashes of a volume.
use Rattle.std.specs.Prelude.{ℕ, List, ◌++◌, codes}
use Rattle.aff_spec.specs.Digests.{digest_line, digest_lines}
use Rattle.aff_finish.specs.declared.hashes.Hashes.{Hashes}

-- the linear hashes, and behind them the block map hash
abbrev pub hash_lines : Hashes → List ℕ
hash_lines h = digest_lines h.linear.md5 h.linear.sha1 h.linear.sha256 h.linear.sha512 ++ digest_line (codes "blockmap") h.block_map
