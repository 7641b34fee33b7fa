use Rattle.aff_finish.specs.Container.{description_name, information_name, version_name, version_text}
use Rattle.aff_finish.proofs.Appending.{on_err_then, third_reached}
use Rattle.aff_finish.proofs.container.append_container.Goals as goal

pub returns-clause-part : goal.returns-clause-part
returns-clause-part g c =
    let held = g.F.Folder.held in
    on_err_then c.append.result
    (third_reached g.F.Folder.tells (held c.args.folder.now) (held c.append_version.new.folder) (held c.append_description.new.folder) (held c.append.new.folder)
    (version_name, version_text) (description_name, c.args.volume.now) (information_name, c.args.information.now) c.in_default.ensures.ok c.in_default-append_description.ensures.ok)
    c.append.ensures.part
