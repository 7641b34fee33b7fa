-- Digests of lists of bytes.
use Rattle.std.specs.Prelude.{ℕ, ◌-◌, List, ◌++◌, replicate}
use Rattle.md5.specs.Md5.{md5}
use Rattle.sha1.specs.Sha1.{sha1}
use Rattle.sha2.specs.Sha256.{sha256}
use Rattle.sha2.specs.Sha512.{sha512}
use Rattle.aff_hash.specs.declared.kind.Hash.{Hash}
use Rattle.aff_hash.specs.declared.kind.Hash.TheVariants.{Md5, Sha1, Sha256, Sha512}

-- the digest of some bytes: MD5 (RFC 1321), SHA-1, SHA-256 and SHA-512 (FIPS 180-4), as the toolchain defines them
abbrev pub digest_of : Hash → List ℕ → List ℕ
digest_of Md5 bytes = md5 bytes
digest_of Sha1 bytes = sha1 bytes
digest_of Sha256 bytes = sha256 bytes
digest_of Sha512 bytes = sha512 bytes

-- how many bytes a digest has
abbrev pub digest_size : Hash → ℕ
digest_size Md5 = 16
digest_size Sha1 = 20
digest_size Sha256 = 32
digest_size Sha512 = 64

-- the digest of some bytes, and zeros behind it up to 64 bytes
abbrev pub filled_digest_of : Hash → List ℕ → List ℕ
filled_digest_of kind bytes = digest_of kind bytes ++ replicate (64 - digest_size kind) 0
