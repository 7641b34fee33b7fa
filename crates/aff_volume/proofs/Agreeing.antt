-- Chunks that are compared under one hash function after another.
use Rattle.std.proofs.Common.{◌≡◌, ℕ, ◌<◌, List, sym, subst, arith}
use Rattle.aff_model.specs.Held.{Held}
use Rattle.aff_hash.specs.declared.kind.Hash.{Hash}
use Rattle.aff_hash.specs.declared.kind.Hash.TheVariants.{Md5, Sha1, Sha256, Sha512}
use Rattle.aff_volume.specs.Agreement.{IsChunkSound, IsFirstDifference, rank}
use Rattle.aff_volume.specs.Chunks.{IsDifference}
use Rattle.aff_volume.specs.Image.{IsRecorded}
use Rattle.aff_volume.specs.declared.chunk.Difference.{Difference}

module _ (held : Held) (stream : List ℕ) (c : ℕ) where
  before_md5 : (kind : Hash) → rank kind < 0 → IsRecorded kind held stream c
  before_md5 kind low = absurd (omega (arith, low))

  before_sha1 : IsRecorded Md5 held stream c → (kind : Hash) → rank kind < 1 → IsRecorded kind held stream c
  before_sha1 md5 Md5 low = md5
  before_sha1 md5 Sha1 low = absurd (omega (arith, low))
  before_sha1 md5 Sha256 low = absurd (omega (arith, low))
  before_sha1 md5 Sha512 low = absurd (omega (arith, low))

  before_sha256 : IsRecorded Md5 held stream c → IsRecorded Sha1 held stream c → (kind : Hash) → rank kind < 2 → IsRecorded kind held stream c
  before_sha256 md5 sha1 Md5 low = md5
  before_sha256 md5 sha1 Sha1 low = sha1
  before_sha256 md5 sha1 Sha256 low = absurd (omega (arith, low))
  before_sha256 md5 sha1 Sha512 low = absurd (omega (arith, low))

  pub all_recorded : IsRecorded Md5 held stream c → IsRecorded Sha1 held stream c → IsRecorded Sha256 held stream c → IsChunkSound held stream c
  all_recorded md5 sha1 sha256 Md5 low = md5
  all_recorded md5 sha1 sha256 Sha1 low = sha1
  all_recorded md5 sha1 sha256 Sha256 low = sha256
  all_recorded md5 sha1 sha256 Sha512 low = absurd (omega (arith, low))

  -- the difference under a hash function is the first, where all before it agree
  is_first : (kind : Hash) (d : Difference) → rank kind < 3 → ((k : Hash) → rank k < rank kind → IsRecorded k held stream c) → IsDifference kind held stream c d → IsFirstDifference held stream c d
  is_first kind d kept before is =
      let own : kind ≡ d.found.kind = sym is.found.of_kind in
      record {
        kept = subst (λ k. rank k < 3) own kept;
        before = subst (λ k. (j : Hash) → rank j < rank k → IsRecorded j held stream c) own before;
        difference = subst (λ k. IsDifference k held stream c d) own is;
      }

  pub first_by_md5 : (d : Difference) → IsDifference Md5 held stream c d → IsFirstDifference held stream c d
  first_by_md5 d is = is_first Md5 d (omega arith) before_md5 is

  pub first_by_sha1 : (d : Difference) → IsRecorded Md5 held stream c → IsDifference Sha1 held stream c d → IsFirstDifference held stream c d
  first_by_sha1 d md5 is = is_first Sha1 d (omega arith) (before_sha1 md5) is

  pub first_by_sha256 : (d : Difference) → IsRecorded Md5 held stream c → IsRecorded Sha1 held stream c → IsDifference Sha256 held stream c d → IsFirstDifference held stream c d
  first_by_sha256 d md5 sha1 is = is_first Sha256 d (omega arith) (before_sha256 md5 sha1) is
