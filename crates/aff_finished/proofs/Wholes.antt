-- The folder of a finished volume has a whole volume.
use Rattle.std.proofs.Common.{◌≡◌, ℕ, ◌*◌, ◌<◌, ◌≤◌, [], ◌∷◌, length, sym, subst, arith}
use Rattle.std.specs.Prelude.{Bool, Option}
use Rattle.aff_model.specs.declared.limits.TheConstants.{CHUNK, MAX_SIZE, MAX_CHUNKS}
use Rattle.aff_model.specs.Content.{Content}
use Rattle.aff_model.specs.Held.{Held, bytes_of}
use Rattle.aff_model.specs.Plan.{IsPlan, chunk_count}
use Rattle.std.specs.List.{flat_map}
use Rattle.aff_fields.specs.Entry.{entry_bytes}
use Rattle.aff_spec.specs.Bevvies.{bevvy_count}
use Rattle.aff_spec.specs.BlockHashes.{chunks_in}
use Rattle.aff_spec.specs.Names.{stream_urn, image_urn, map_name, idx_name, bevvy_name, index_name, md5_name, sha1_name, sha256_name}
use Rattle.aff_spec.proofs.Members.{Contains-first, Contains-later}
use Rattle.aff_bevvy.specs.Laws.{IsStreamOfItsSizes}
use Rattle.aff_bevvy.specs.Segments.{held_length}
use Rattle.aff_map.specs.Mapped.{IsSound}
use Rattle.aff_image.specs.Asked.{Asked}
use Rattle.aff_image.specs.Image.{Image}
use Rattle.aff_image.proofs.Runs.{image_runs}
use Rattle.aff_image.proofs.Volumes.{image-few}
use Rattle.aff_finish.specs.Finished.{image_info}
use Rattle.aff_finish.specs.Kept.{HasAllKept}
use Rattle.aff_finish.specs.declared.block_map.Kept.TheVariants as kept
use Rattle.aff_finish.specs.declared.hashes.Hashes.{Hashes}
use Rattle.aff_finish.proofs.Lengths.{all_kept}
use Rattle.aff_volume.specs.Hashed.{AreHashed, IsHashed}
use Rattle.aff_volume.specs.Opened.{IsThere, IsWholeVolume}
use Rattle.aff_volume.proofs.Lengths.{known_length}
use Rattle.aff_finished.specs.Left.{IsLeftBy}
use Rattle.aff_finished.specs.Laws.{found_of}
use Rattle.aff_finished.proofs.Kept.{IsKept, kept}
use Rattle.aff_finished.proofs.Runs.{sound_map}
use Rattle.aff_finished.proofs.Segments.{bevvy_stands, idx_is, idx_stands, is_stored, map_is, map_stands}

module _ (case : Option Content) (tells : Bool) (asked : Asked) (m : Image) (held : Held) (h : Hashes) (left : IsLeftBy case tells asked m held h) where
  abbrev n : ℕ
  n = length m.chunks

  pub planned : IsPlan m.plan.size m.plan.block m.plan.extents
  planned = subst (λ p. IsPlan p.size p.block p.extents) (sym left.finished.plan) left.ask.is_plan

  pub small : m.plan.size ≤ MAX_SIZE
  small = subst (λ p. p.size ≤ MAX_SIZE) (sym left.finished.plan) left.ask.small

  pub few : length m.chunks ≤ MAX_CHUNKS
  few = image-few case asked.workers m planned left.finished.image

  pub whole : IsKept asked.uuid m held h
  whole = kept asked.uuid m left.last h (left.finished.whole left.ask.told) left.ask.uuid small (omega (arith, few)) held left.full

  pub few_bevvies : bevvy_count (length m.chunks) ≤ 100000000
  few_bevvies = omega (arith, few)

  map_sound : IsSound (bytes_of held (map_name (image_urn asked.uuid))) (bytes_of held (idx_name (image_urn asked.uuid))) m.plan.size (stream_urn asked.uuid) (CHUNK * length m.chunks)
  map_sound =
      let runs = image_runs case asked.workers m whole.entries planned left.finished.image left.finished.complete whole.runs in
      let sound = sound_map m.plan.size (length m.chunks) small (omega (arith, few)) whole.entries runs asked.uuid left.ask.uuid in
      subst (λ v. IsSound v (bytes_of held (idx_name (image_urn asked.uuid))) m.plan.size (stream_urn asked.uuid) (CHUNK * length m.chunks)) (sym (map_is asked.uuid m held h whole))
      (subst (λ v. IsSound (flat_map entry_bytes whole.entries) v m.plan.size (stream_urn asked.uuid) (CHUNK * length m.chunks)) (sym (idx_is asked.uuid m held h whole)) sound)

  -- each bevvy has its block hashes, by their lengths
  is_hashed : (b : ℕ) → b < bevvy_count (length m.chunks) → IsHashed (held_length held) (stream_urn asked.uuid) (length m.chunks) b
  is_hashed b below =
      let stream = stream_urn asked.uuid in
      let long : HasAllKept held (stream_urn asked.uuid) (length m.chunks) = all_kept held (stream_urn asked.uuid) (length m.chunks) whole.readable.blocks in
      let first = Contains-later (bevvy_name stream b) (index_name stream b ∷ md5_name stream b ∷ sha1_name stream b ∷ sha256_name stream b ∷ []) in
      let second = Contains-later (index_name stream b) (md5_name stream b ∷ sha1_name stream b ∷ sha256_name stream b ∷ []) in
      let third = Contains-later (md5_name stream b) (sha1_name stream b ∷ sha256_name stream b ∷ []) in
      let fourth = Contains-later (sha1_name stream b) (sha256_name stream b ∷ []) in
      record {
        by_md5 = known_length held (md5_name stream b) (16 * chunks_in (length m.chunks) b)
            (bevvy_stands asked.uuid m held h whole b (md5_name stream b) below (first (md5_name stream b) (second (md5_name stream b) (Contains-first (md5_name stream b) (sha1_name stream b ∷ sha256_name stream b ∷ [])))))
            (long kept.Md5 b below);
        by_sha1 = known_length held (sha1_name stream b) (20 * chunks_in (length m.chunks) b)
            (bevvy_stands asked.uuid m held h whole b (sha1_name stream b) below
            (first (sha1_name stream b) (second (sha1_name stream b) (third (sha1_name stream b) (Contains-first (sha1_name stream b) (sha256_name stream b ∷ []))))))
            (long kept.Sha1 b below);
        by_sha256 = known_length held (sha256_name stream b) (32 * chunks_in (length m.chunks) b)
            (bevvy_stands asked.uuid m held h whole b (sha256_name stream b) below
            (first (sha256_name stream b) (second (sha256_name stream b) (third (sha256_name stream b) (fourth (sha256_name stream b) (Contains-first (sha256_name stream b) []))))))
            (long kept.Sha256 b below);
      }

  pub chunks_are : chunk_count (CHUNK * length m.chunks) ≡ length m.chunks
  chunks_are = omega arith

  is_there : IsStreamOfItsSizes → IsThere held (image_info asked.uuid m h)
  is_there law = record {
    tables = record { map = map_stands asked.uuid m held h whole; idx = idx_stands asked.uuid m held h whole };
    stream = is_stored asked.uuid m held h whole few_bevvies law left.finished.image.whole;
    hashed = subst (AreHashed (held_length held) (stream_urn asked.uuid)) (sym chunks_are) is_hashed;
    map = map_sound;
  }

  pub is_whole : IsStreamOfItsSizes → IsWholeVolume held (found_of asked.uuid m h)
  is_whole law = record { named = whole.named; there = is_there law }
