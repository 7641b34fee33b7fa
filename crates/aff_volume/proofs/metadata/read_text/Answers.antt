use Rattle.std.proofs.Common.{◌≡◌, ap, sym, subst, ◌∙◌}
use Rattle.std.specs.Prelude.{Some}
use Rattle.aff_finish.specs.Container.{information_name}
use Rattle.aff_volume.specs.Refusals.{IsVolumeRefused}
use Rattle.aff_volume.proofs.Lengths.{get_known, room_known}
use Rattle.aff_volume.proofs.Listing.{in_folder}
use Rattle.aff_volume.proofs.Refused.{folder_cause, folder_refused, no_length, some_length}
use Rattle.aff_volume.proofs.metadata.read_text.Goals as goal

pub returns-in_default-clause-refused : goal.returns-in_default-clause-refused
returns-in_default-clause-refused g c = λ t.
    let is = in_folder (g.F.Folder.held c.args.folder.now) c.args.segments.now (c.requires t) (λ len. c.length_of.result ≡ len information_name) c.length_of.ensures.length in
    no_length _ (sym is ∙ c.in_default.is)

pub read_whole-requires-clause-there : goal.read_whole-requires-clause-there
read_whole-requires-clause-there g c κs within = λ t.
    let is = in_folder (g.F.Folder.held c.args.folder.now) c.args.segments.now (c.requires t) (λ len. c.length_of.result ≡ len information_name) c.length_of.ensures.length in
    some_length _ c.in-Some.len (sym is ∙ c.in-Some.is)

pub read_whole-requires-clause-length : goal.read_whole-requires-clause-length
read_whole-requires-clause-length g c κs within = λ t.
    let is = in_folder (g.F.Folder.held c.args.folder.now) c.args.segments.now (c.requires t) (λ len. c.length_of.result ≡ len information_name) c.length_of.ensures.length in
    room_known (g.F.Folder.held c.args.folder.now) information_name c.in-Some.len (sym is ∙ c.in-Some.is)

pub returns-in-Ok-clause-text : goal.returns-in-Ok-clause-text
returns-in-Ok-clause-text g c = λ t.
    let is = in_folder (g.F.Folder.held c.args.folder.now) c.args.segments.now (c.requires t) (λ len. c.length_of.result ≡ len information_name) c.length_of.ensures.length in
    get_known _ c.in-Some.len (sym is ∙ c.in-Some.is) ∙ ap Some (sym (c.in-Ok.ensures.bytes t))

pub returns-in-Err-clause-refused : goal.returns-in-Err-clause-refused
returns-in-Err-clause-refused g c = λ t. subst (IsVolumeRefused (g.F.Folder.held c.args.folder.now)) (sym c.of_folder.ensures) (folder_refused (g.F.Folder.held c.args.folder.now) c.in-Err.error)

pub returns-in-Err-clause-cause : goal.returns-in-Err-clause-cause
returns-in-Err-clause-cause g c = record { later = c.in-Err.ensures.cause.later; rose = λ h. c.in-Err.ensures.cause.rose (folder_cause _ _ c.of_folder.result c.in-Err.error c.of_folder.ensures h) }
