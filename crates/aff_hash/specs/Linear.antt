-- What four hashers were fed.
use Rattle.std.specs.Prelude.{ℕ, List}
use Rattle.aff_lanes.specs.Hasher.{Holds as Holds256}
use Rattle.aff_lanes.specs.declared.sha256_hasher.Sha256Hasher.{Sha256Hasher}
use Rattle.md5.specs.Md5.{Holds as HoldsMd5}
use Rattle.md5.specs.declared.Md5.{Md5}
use Rattle.sha1.specs.Sha1.{Holds as HoldsSha1}
use Rattle.sha1.specs.declared.Sha1.{Sha1}
use Rattle.sha2.specs.Hashers.{Holds512}
use Rattle.sha2.specs.declared.Sha512.{Sha512}

-- each of the four hashers was fed exactly these bytes
pub record AllHold (md5 : Md5) (sha1 : Sha1) (sha256 : Sha256Hasher) (sha512 : Sha512) (fed : List ℕ) : Type 0 where
  pub by_md5 : HoldsMd5 md5 fed
  pub by_sha1 : HoldsSha1 sha1 fed
  pub by_sha256 : Holds256 sha256 fed
  pub by_sha512 : Holds512 sha512 fed
