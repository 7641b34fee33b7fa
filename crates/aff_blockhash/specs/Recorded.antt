-- Digests that are recorded one after another.
use Rattle.std.specs.Prelude.{◌≡◌, ℕ, ◌-◌, ◌*◌, ◌≢◌, ⊤, List, ◌++◌, length, take, drop, replicate}
use Rattle.aff_hash.specs.declared.kind.Digest.{Digest}
use Rattle.aff_hash.specs.declared.kind.Hash.{Hash}
use Rattle.aff_hash.specs.Digest.{digest_size}
use Rattle.aff_blockhash.specs.declared.answer.Check.{Check}
use Rattle.aff_blockhash.specs.declared.answer.Check.TheVariants.{Match, Differs}

-- the digest of a place, counted from 0
abbrev pub digest_at : Hash → List ℕ → ℕ → List ℕ
digest_at kind recorded place = take (digest_size kind) (drop (digest_size kind * place) recorded)

-- a digest, and zeros behind it up to 64 bytes
abbrev pub filled : List ℕ → List ℕ
filled digest = digest ++ replicate (64 - length digest) 0

-- this is a digest of this kind
pub record IsDigest (d : Digest) (kind : Hash) (bytes : List ℕ) : Type 0 where
  pub of_kind : d.kind ≡ kind
  pub filled_up : d.bytes ≡ filled bytes

-- two digests that differ are both answered
abbrev pub IfDiffers : Check → Hash → List ℕ → List ℕ → Type 0
IfDiffers Match kind recorded found = ⊤
IfDiffers (Differs r f) kind recorded found = (recorded ≢ found) × IsDigest r kind recorded × IsDigest f kind found
