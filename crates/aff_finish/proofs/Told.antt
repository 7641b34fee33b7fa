-- What the metadata of a finished folder name.
use Rattle.std.proofs.Common.{◌≡◌, ℕ, ◌*◌, ◌≤◌, true, List, [], ◌++◌, length, refl, sym, ap, subst, ◌∙◌, append-nil, codes}
use Rattle.std.specs.Prelude.{Some}
use Rattle.std.specs.FinMap.{get}
use Rattle.sha2.specs.Sha512.{sha512}
use Rattle.aff_model.specs.declared.limits.TheConstants.{CHUNK, MAX_SIZE}
use Rattle.aff_model.specs.Held.{Held}
use Rattle.aff_names.specs.Urn.{IsPath, IsUrn}
use Rattle.aff_spec.specs.Names.{volume_urn, stream_urn, image_urn}
use Rattle.aff_spec.specs.Words.{is_uuid}
use Rattle.aff_turtle.specs.Written.{written}
use Rattle.aff_turtle.proofs.Again.{read_again}
use Rattle.aff_turtle.proofs.Readings.{given}
use Rattle.aff_info.specs.Laws.{CanBeStated, HasDigestSize}
use Rattle.aff_info.specs.Writing.{facts_of}
use Rattle.aff_info.proofs.Back.{reads_back}
use Rattle.aff_finish.specs.Container.{information_name}
use Rattle.aff_finish.specs.Finishing.{digests_of}
use Rattle.aff_finish.specs.Information.{info_of, information}
use Rattle.aff_finish.specs.Named.{IsNamed}
use Rattle.aff_finish.specs.declared.hashes.Hashes.{Hashes}
use Rattle.aff_finish.proofs.Digests.{md5_sized, sha1_sized, sha256_sized, sha512_sized}
use Rattle.aff_finish.proofs.Facts.{can_be_written}
use Rattle.aff_finish.proofs.Made.{stream_apart}

module _ (uuid : List ℕ) (ok : is_uuid uuid ≡ true) where
  urn : (path : List ℕ) → IsPath path → IsUrn (codes "aff4://" ++ (uuid ++ path))
  urn path is = record { uuid = uuid; path = path; is = refl; uuid_is = ok; path_is = is }

  module _ (size n : ℕ) (small : size ≤ MAX_SIZE) (few : CHUNK * n ≤ MAX_SIZE) (h : Hashes) (bytes digests : List ℕ) (linear : h.linear ≡ digests_of bytes) (block_map : h.block_map ≡ sha512 digests) where
    -- what is said can be stated
    can_be_stated : CanBeStated (info_of uuid size n h)
    can_be_stated = record {
      volume = subst (λ v. IsUrn (codes "aff4://" ++ v)) (append-nil uuid) (urn [] tt);
      stream = urn (codes "/data") refl;
      image = urn (codes "/image") refl;
      two = stream_apart uuid;
      stream_fits = few;
      image_fits = small;
      gap = refl;
      md5 = subst (HasDigestSize 16) (ap (λ d. d.md5) (sym linear)) (md5_sized bytes);
      sha1 = subst (HasDigestSize 20) (ap (λ d. d.sha1) (sym linear)) (sha1_sized bytes);
      sha256 = subst (HasDigestSize 32) (ap (λ d. d.sha256) (sym linear)) (sha256_sized bytes);
      sha512 = subst (HasDigestSize 64) (ap (λ d. d.sha512) (sym linear)) (sha512_sized bytes);
      block_map = subst (HasDigestSize 64) (sym block_map) (sha512_sized digests);
    }

    -- a folder with the text names what is said, and nothing else
    pub is_named : (held : Held) → get held information_name ≡ Some (information uuid size n h) → IsNamed held (record { info = info_of uuid size n h; aside = [] })
    is_named held there =
        let facts = facts_of (info_of uuid size n h) in
        record {
          text = information uuid size n h;
          there = there;
          facts = facts;
          turtle = given (written facts) facts (read_again facts (can_be_written uuid size n h ok small few));
          stated = reads_back (info_of uuid size n h) can_be_stated;
        }
