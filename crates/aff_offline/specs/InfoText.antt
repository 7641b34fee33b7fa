-- The text of what a volume says of itself.
use Rattle.std.specs.Prelude.{ℕ, List, [], ◌++◌, codes}
use Rattle.std.specs.Fmt.{decimal}
use Rattle.aff_spec.specs.Digests.{digest_line, digest_lines}
use Rattle.aff_info.specs.declared.info.Info.{Info}
use Rattle.aff_map.specs.declared.target.Target.{Target}
use Rattle.aff_map.specs.declared.target.Target.TheVariants.{Stored, Zero, Unknown, Unreadable}

-- the name of a gap, which is never the stream
abbrev pub gap_word : Target → List ℕ
gap_word Stored = []
gap_word Zero = codes "Zero"
gap_word Unknown = codes "UnknownData"
gap_word Unreadable = codes "UnreadableData"

-- the volume's URN, the sizes of image and stream in bytes, and the gap
abbrev pub sizes_text : List ℕ → ℕ → ℕ → List ℕ → List ℕ
sizes_text urn size stored gap = codes "volume " ++ (urn ++ (codes "\nsize " ++ (decimal size ++ (codes "\nstored " ++ (decimal stored ++ (codes "\ngap " ++ (gap ++ codes "\n")))))))

-- the linear hashes, and behind them the block map hash
abbrev pub hashes_text : Info → List ℕ
hashes_text info = digest_lines info.linear.md5 info.linear.sha1 info.linear.sha256 info.linear.sha512 ++ digest_line (codes "blockmap") info.block_map

-- what metadata name, and how many statements are kept aside
abbrev pub info_text : Info → ℕ → List ℕ
info_text info aside = sizes_text info.volume info.image_size info.stream_size (gap_word info.gap) ++ (hashes_text info ++ (codes "aside " ++ (decimal aside ++ codes "\n")))
