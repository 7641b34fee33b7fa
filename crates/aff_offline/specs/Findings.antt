-- The lines of what is not as it was recorded.
use Rattle.std.specs.Prelude.{ℕ, List, ◌++◌, codes, take}
use Rattle.std.specs.Fmt.{decimal}
use Rattle.hex.specs.Hex.{encode_lower}
use Rattle.aff_hash.specs.Digest.{digest_size}
use Rattle.aff_hash.specs.declared.kind.Digest.{Digest}
use Rattle.aff_hash.specs.declared.kind.Hash.{Hash}
use Rattle.aff_hash.specs.declared.kind.Hash.TheVariants.{Md5, Sha1, Sha256, Sha512}
use Rattle.aff_verify.specs.declared.finding.Finding.{Finding}
use Rattle.aff_verify.specs.declared.finding.Finding.TheVariants.{Block, Linear, BlockMap}

-- the name of a hash function
abbrev pub kind_word : Hash → List ℕ
kind_word Md5 = codes "md5"
kind_word Sha1 = codes "sha1"
kind_word Sha256 = codes "sha256"
kind_word Sha512 = codes "sha512"

-- a digest in hexadecimal digits of lower case
abbrev pub digits_of : Digest → List ℕ
digits_of d = encode_lower (take (digest_size d.kind) d.bytes)

-- the line of a recorded digest that is not that of what is held
abbrev pub finding_line : Finding → List ℕ
finding_line (Block kind chunk recorded found) =
    codes "unsound block " ++ (kind_word kind ++ (codes " " ++ (decimal chunk ++ (codes " " ++ (digits_of recorded ++ (codes " " ++ (digits_of found ++ codes "\n")))))))
finding_line (Linear kind recorded found) = codes "unsound linear " ++ (kind_word kind ++ (codes " " ++ (digits_of recorded ++ (codes " " ++ (digits_of found ++ codes "\n")))))
finding_line (BlockMap recorded found) = codes "unsound blockmap " ++ (digits_of recorded ++ (codes " " ++ (digits_of found ++ codes "\n")))
