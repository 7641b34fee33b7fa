-- Digests of a whole volume that differ.
use Rattle.std.specs.Prelude.{◌≡◌, ◌≢◌, ℕ, ◌<◌, List}
use Rattle.aff_hash.specs.declared.kind.Digest.{Digest}
use Rattle.aff_hash.specs.declared.kind.Digests.{Digests}
use Rattle.aff_hash.specs.declared.kind.Hash.{Hash}
use Rattle.aff_hash.specs.declared.kind.Hash.TheVariants.{Md5, Sha1, Sha256, Sha512}
use Rattle.aff_blockhash.specs.Recorded.{IsDigest}
use Rattle.aff_volume.specs.Agreement.{rank}
use Rattle.aff_verify.specs.declared.finding.Finding.{Finding}
use Rattle.aff_verify.specs.declared.finding.Finding.TheVariants.{Block, Linear, BlockMap}

-- the linear hash under a hash function
abbrev pub linear_in : Digests → Hash → List ℕ
linear_in d Md5 = d.md5
linear_in d Sha1 = d.sha1
linear_in d Sha256 = d.sha256
linear_in d Sha512 = d.sha512

-- a finding has two linear hashes
pub record AreLinear (kind of_kind : Hash) (first second : List ℕ) (recorded found : Digest) : Type 0 where
  pub kind_is : of_kind ≡ kind
  pub recorded_is : IsDigest recorded kind first
  pub found_is : IsDigest found kind second

abbrev pub IsLinearOf : Hash → List ℕ → List ℕ → Finding → Type 0
IsLinearOf kind first second (Linear of_kind recorded found) = AreLinear kind of_kind first second recorded found
IsLinearOf kind first second (Block of_kind c recorded found) = ⊥
IsLinearOf kind first second (BlockMap recorded found) = ⊥

-- two linear hashes are the first that differ: by MD5, then SHA-1, SHA-256 and SHA-512
pub record IsFirstLinear (first second : Digests) (kind : Hash) (recorded found : Digest) : Type 0 where
  pub kinds : (k : Hash) → rank k < rank kind → linear_in first k ≡ linear_in second k
  pub differ : linear_in first kind ≢ linear_in second kind
  pub recorded_is : IsDigest recorded kind (linear_in first kind)
  pub found_is : IsDigest found kind (linear_in second kind)

abbrev pub IsLinearDifference : Digests → Digests → Finding → Type 0
IsLinearDifference first second (Linear kind recorded found) = IsFirstLinear first second kind recorded found
IsLinearDifference first second (Block kind c recorded found) = ⊥
IsLinearDifference first second (BlockMap recorded found) = ⊥

-- two block map hashes differ
pub record AreMapHashes (first second : List ℕ) (recorded found : Digest) : Type 0 where
  pub differ : first ≢ second
  pub recorded_is : IsDigest recorded Sha512 first
  pub found_is : IsDigest found Sha512 second

abbrev pub IsMapDifference : List ℕ → List ℕ → Finding → Type 0
IsMapDifference first second (BlockMap recorded found) = AreMapHashes first second recorded found
IsMapDifference first second (Block kind c recorded found) = ⊥
IsMapDifference first second (Linear kind recorded found) = ⊥
