use Rattle.std.proofs.Common.{◌≡◌, ap, sym, subst, ◌∙◌, arith}
use Rattle.std.specs.Prelude.{Some}
use Rattle.aff_spec.specs.Names.{idx_name, map_name}
use Rattle.aff_bevvy.specs.Segments.{held_length}
use Rattle.aff_volume.specs.Hashed.{AreHashed}
use Rattle.aff_volume.specs.Listing.{LacksHashes, LacksTables}
use Rattle.aff_model.specs.Held.{bytes_of}
use Rattle.aff_map.specs.Mapped.{IsSound}
use Rattle.aff_volume.specs.Opened.{map_in}
use Rattle.aff_volume.specs.Refusals.{IsAbsent}
use Rattle.aff_volume.specs.Tables.{IsTablesFault}
use Rattle.aff_volume.proofs.Lengths.{room_known}
use Rattle.aff_volume.proofs.Listing.{in_folder}
use Rattle.aff_volume.proofs.Opening.{has_map}
use Rattle.aff_volume.proofs.Refused.{hashes_absent, list_cause, map_absent, stream_absent, stream_cause, tables_absent}
use Rattle.aff_volume.proofs.volume.read_parts.Goals as goal

pub returns-in-Err-clause-refused : goal.returns-in-Err-clause-refused
returns-in-Err-clause-refused g c = λ t.
    tables_absent (g.F.Folder.held c.args.folder.now) c.args.info.now c.in-Err.error
    (in_folder (g.F.Folder.held c.args.folder.now) c.args.segments.now (c.requires.listed t) (λ len. LacksTables len c.args.info.now.image c.in-Err.error) c.in-Err.ensures.refused)

pub returns-in-Err-clause-cause : goal.returns-in-Err-clause-cause
returns-in-Err-clause-cause g c = record { later = omega arith; rose = λ h. absurd (list_cause _ c.in-Err.error c.in-Err.ensures.early h) }

pub returns-in-Err-open-clause-refused : goal.returns-in-Err-open-clause-refused
returns-in-Err-open-clause-refused g c = λ t.
    let held = g.F.Folder.held c.args.folder.now in
    let map = in_folder held c.args.segments.now (c.requires.listed t) (λ len. len (map_name c.args.info.now.image) ≡ Some c.in-Ok.tables.map_len) c.in-Ok.ensures.map in
    let idx = in_folder held c.args.segments.now (c.requires.listed t) (λ len. len (idx_name c.args.info.now.image) ≡ Some c.in-Ok.tables.idx_len) c.in-Ok.ensures.idx in
    subst (IsAbsent held c.args.info.now) (sym c.of_stream.ensures)
    (stream_absent held c.args.info.now c.in-Err-open.error (has_map held c.args.info.now.image c.in-Ok.tables.map_len c.in-Ok.tables.idx_len map idx) (c.in-Err-open.ensures.refused t))

pub returns-in-Err-open-clause-cause : goal.returns-in-Err-open-clause-cause
returns-in-Err-open-clause-cause g c = record {
  later = c.in-Err-open.ensures.cause.later;
  rose = λ h. c.in-Err-open.ensures.cause.rose (stream_cause _ _ c.of_stream.result c.in-Err-open.error c.of_stream.ensures h);
}

pub check_hashes-requires : goal.check_hashes-requires
check_hashes-requires g c = omega (arith, c.count_chunks-chunks.ensures, c.requires.fit.stream_size)

pub returns-in-Err-check_hashes-clause-refused : goal.returns-in-Err-check_hashes-clause-refused
returns-in-Err-check_hashes-clause-refused g c = λ t.
    let held = g.F.Folder.held c.args.folder.now in
    let map = in_folder held c.args.segments.now (c.requires.listed t) (λ len. len (map_name c.args.info.now.image) ≡ Some c.in-Ok.tables.map_len) c.in-Ok.ensures.map in
    let idx = in_folder held c.args.segments.now (c.requires.listed t) (λ len. len (idx_name c.args.info.now.image) ≡ Some c.in-Ok.tables.idx_len) c.in-Ok.ensures.idx in
    let lacks = in_folder held c.args.segments.now (c.requires.listed t) (λ len. LacksHashes len c.args.info.now.stream c.count_chunks-chunks.result c.in-Err-check_hashes.error) c.in-Err-check_hashes.ensures.refused in
    hashes_absent held c.args.info.now c.in-Err-check_hashes.error (has_map held c.args.info.now.image c.in-Ok.tables.map_len c.in-Ok.tables.idx_len map idx) (c.in-Ok-open.ensures.ok t)
    (subst (λ n. LacksHashes (held_length held) c.args.info.now.stream n c.in-Err-check_hashes.error) c.count_chunks-chunks.ensures lacks)

pub returns-in-Err-check_hashes-clause-cause : goal.returns-in-Err-check_hashes-clause-cause
returns-in-Err-check_hashes-clause-cause g c = record {
  later = c.in-Ok-open.ensures.cause.later;
  rose = λ h. absurd (list_cause _ c.in-Err-check_hashes.error c.in-Err-check_hashes.ensures.early h);
}

pub read_map-requires-clause-map : goal.read_map-requires-clause-map
read_map-requires-clause-map g c κs within = λ t.
    let held = g.F.Folder.held c.args.folder.now in
    subst (λ h. held_length h (map_name c.args.info.now.image) ≡ Some c.in-Ok.tables.map_len) (sym (c.in-Ok-open.ensures.same t))
    (in_folder held c.args.segments.now (c.requires.listed t) (λ len. len (map_name c.args.info.now.image) ≡ Some c.in-Ok.tables.map_len) c.in-Ok.ensures.map)

pub read_map-requires-clause-idx : goal.read_map-requires-clause-idx
read_map-requires-clause-idx g c κs within = λ t.
    let held = g.F.Folder.held c.args.folder.now in
    subst (λ h. held_length h (idx_name c.args.info.now.image) ≡ Some c.in-Ok.tables.idx_len) (sym (c.in-Ok-open.ensures.same t))
    (in_folder held c.args.segments.now (c.requires.listed t) (λ len. len (idx_name c.args.info.now.image) ≡ Some c.in-Ok.tables.idx_len) c.in-Ok.ensures.idx)

pub returns-in-Err-read_map-clause-refused : goal.returns-in-Err-read_map-clause-refused
returns-in-Err-read_map-clause-refused g c = λ t.
    let held = g.F.Folder.held c.args.folder.now in
    let map = in_folder held c.args.segments.now (c.requires.listed t) (λ len. len (map_name c.args.info.now.image) ≡ Some c.in-Ok.tables.map_len) c.in-Ok.ensures.map in
    let idx = in_folder held c.args.segments.now (c.requires.listed t) (λ len. len (idx_name c.args.info.now.image) ≡ Some c.in-Ok.tables.idx_len) c.in-Ok.ensures.idx in
    let hashed = in_folder held c.args.segments.now (c.requires.listed t) (λ len. AreHashed len c.args.info.now.stream c.count_chunks-chunks.result) c.in_default.ensures.hashed in
    map_absent held c.args.info.now c.in-Err-read_map.error (has_map held c.args.info.now.image c.in-Ok.tables.map_len c.in-Ok.tables.idx_len map idx) (c.in-Ok-open.ensures.ok t)
    (subst (AreHashed (held_length held) c.args.info.now.stream) c.count_chunks-chunks.ensures hashed)
    (subst (λ h. IsTablesFault h c.args.info.now c.in-Err-read_map.error) (c.in-Ok-open.ensures.same t) (c.in-Err-read_map.ensures.refused t))

pub returns-in-Ok-read_map-clause-there : goal.returns-in-Ok-read_map-clause-there
returns-in-Ok-read_map-clause-there g c = λ t.
    let held = g.F.Folder.held c.args.folder.now in
    let map = in_folder held c.args.segments.now (c.requires.listed t) (λ len. len (map_name c.args.info.now.image) ≡ Some c.in-Ok.tables.map_len) c.in-Ok.ensures.map in
    let idx = in_folder held c.args.segments.now (c.requires.listed t) (λ len. len (idx_name c.args.info.now.image) ≡ Some c.in-Ok.tables.idx_len) c.in-Ok.ensures.idx in
    let hashed = in_folder held c.args.segments.now (c.requires.listed t) (λ len. AreHashed len c.args.info.now.stream c.count_chunks-chunks.result) c.in_default.ensures.hashed in
    record {
      tables = has_map held c.args.info.now.image c.in-Ok.tables.map_len c.in-Ok.tables.idx_len map idx;
      stream = c.in-Ok-open.ensures.ok t;
      hashed = subst (AreHashed (held_length held) c.args.info.now.stream) c.count_chunks-chunks.ensures hashed;
      map = subst (λ h. IsSound (bytes_of h (map_name c.args.info.now.image)) (bytes_of h (idx_name c.args.info.now.image)) c.args.info.now.image_size c.args.info.now.stream c.args.info.now.stream_size) (c.in-Ok-open.ensures.same t) (c.in-Ok-read_map.ensures.sound t);
    }

pub returns-in-Ok-read_map-clause-parts : goal.returns-in-Ok-read_map-clause-parts
returns-in-Ok-read_map-clause-parts g c = λ t.
    let held = g.F.Folder.held c.args.folder.now in
    let map = in_folder held c.args.segments.now (c.requires.listed t) (λ len. len (map_name c.args.info.now.image) ≡ Some c.in-Ok.tables.map_len) c.in-Ok.ensures.map in
    let idx = in_folder held c.args.segments.now (c.requires.listed t) (λ len. len (idx_name c.args.info.now.image) ≡ Some c.in-Ok.tables.idx_len) c.in-Ok.ensures.idx in
    record {
      map = c.in-Ok-read_map.ensures.map t ∙ ap (λ h. map_in h c.args.info.now) (c.in-Ok-open.ensures.same t);
      map_len = sym (room_known held (map_name c.args.info.now.image) c.in-Ok.tables.map_len map);
      idx_len = sym (room_known held (idx_name c.args.info.now.image) c.in-Ok.tables.idx_len idx);
    }
