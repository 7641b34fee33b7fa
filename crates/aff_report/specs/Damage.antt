-- The line of a chunk that is not as it was recorded.
use Rattle.std.specs.Prelude.{ℕ, List, ◌++◌, codes}
use Rattle.std.specs.Fmt.{decimal}
use Rattle.hex.specs.Hex.{encode_lower}

-- `damaged CHUNK RECORDED FOUND`: the digests in hexadecimal digits of lower case
abbrev pub damaged_line : ℕ → List ℕ → List ℕ → List ℕ
damaged_line chunk recorded found = codes "damaged " ++ (decimal chunk ++ (codes " " ++ (encode_lower recorded ++ (codes " " ++ (encode_lower found ++ codes "\n")))))
