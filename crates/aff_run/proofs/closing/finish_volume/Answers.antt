use Rattle.std.proofs.Common.{◌≡◌, length, map, sym, ap, subst, ◌∙◌}
use Rattle.aff_model.specs.Pieces.{published}
use Rattle.aff_spec.specs.Appends.{applied, Reaches}
use Rattle.aff_spec.specs.Runs.{AreGreatestRuns, history_spot}
use Rattle.aff_spec.specs.Walks.{IsWalkable}
use Rattle.aff_finish.specs.Finishing.{AreHashesOf, HasEnded, ended, finish_appends}
use Rattle.aff_run.specs.Ends.{asked}
use Rattle.aff_run.proofs.Ends.{cut_off_behind, cut_off_here, few_chunks, has_all, is_whole, mappable, walks}
use Rattle.aff_run.proofs.closing.finish_volume.Goals as goal

pub entries_of-requires : goal.entries_of-requires
entries_of-requires g c =
    let case = g.C.Case.content in
    let tells = g.F.Folder.tells in
    let ask = asked c.args.volume.now c.args.plan.now g.N.Named.run_workers 0 in
    let mid = g.F.Folder.held c.args.folder.now in
    let w = c.args.stream.now in
    let history = map published c.args.pieces.now in
    mappable case tells ask c.requires.plan c.text-text.ensures.uuid mid w history c.requires.stored

pub returns-in-Err-clause-cut_off : goal.returns-in-Err-clause-cut_off
returns-in-Err-clause-cut_off g c =
    let case = g.C.Case.content in
    let tells = g.F.Folder.tells in
    let ask = asked c.args.volume.now c.args.plan.now g.N.Named.run_workers 0 in
    let mid = g.F.Folder.held c.args.folder.now in
    let w = c.args.stream.now in
    let history = map published c.args.pieces.now in
    cut_off_here case tells ask c.requires.plan c.text-text.ensures.uuid mid w history c.requires.stored

pub finish-requires-clause-few : goal.finish-requires-clause-few
finish-requires-clause-few g c κs within =
    let case = g.C.Case.content in
    let tells = g.F.Folder.tells in
    let ask = asked c.args.volume.now c.args.plan.now g.N.Named.run_workers 0 in
    let mid = g.F.Folder.held c.args.folder.now in
    let w = c.args.stream.now in
    let history = map published c.args.pieces.now in
    few_chunks case tells ask c.requires.plan c.text-text.ensures.uuid mid w history c.requires.stored

pub finish-requires-clause-walkable : goal.finish-requires-clause-walkable
finish-requires-clause-walkable g c κs within =
    let case = g.C.Case.content in
    let tells = g.F.Folder.tells in
    let ask = asked c.args.volume.now c.args.plan.now g.N.Named.run_workers 0 in
    let mid = g.F.Folder.held c.args.folder.now in
    let w = c.args.stream.now in
    let history = map published c.args.pieces.now in
    let entries = c.in-Ok.entries.items in
    let runs : AreGreatestRuns (history_spot ask.plan.extents history) entries =
    c.in-Ok.ensures.runs in
    subst (λ es. IsWalkable tells (ended ask.uuid w.chunks es mid) ask.uuid ask.plan.size es) (sym c.deref.ensures.value)
    (walks case tells ask c.requires.plan c.text-text.ensures.uuid mid w history c.requires.stored c.requires.small c.requires.complete entries runs c.in-Ok.ensures.fits)

pub finish-requires-clause-there : goal.finish-requires-clause-there
finish-requires-clause-there g c κs within =
    let case = g.C.Case.content in
    let tells = g.F.Folder.tells in
    let ask = asked c.args.volume.now c.args.plan.now g.N.Named.run_workers 0 in
    let mid = g.F.Folder.held c.args.folder.now in
    let w = c.args.stream.now in
    let history = map published c.args.pieces.now in
    let entries = c.in-Ok.entries.items in
    let runs : AreGreatestRuns (history_spot ask.plan.extents history) entries =
    c.in-Ok.ensures.runs in
    λ t. subst (λ es. HasEnded (ended ask.uuid w.chunks es mid) ask.uuid (length w.chunks) es) (sym c.deref.ensures.value)
    (has_all case tells ask c.requires.plan c.text-text.ensures.uuid mid w history c.requires.stored c.requires.small c.requires.complete entries runs c.in-Ok.ensures.fits t)

pub returns-in-Ok-finish-clause-whole : goal.returns-in-Ok-finish-clause-whole
returns-in-Ok-finish-clause-whole g c =
    let case = g.C.Case.content in
    let tells = g.F.Folder.tells in
    let ask = asked c.args.volume.now c.args.plan.now g.N.Named.run_workers 0 in
    let mid = g.F.Folder.held c.args.folder.now in
    let w = c.args.stream.now in
    let history = map published c.args.pieces.now in
    let entries = c.in-Ok.entries.items in
    let runs : AreGreatestRuns (history_spot ask.plan.extents history) entries =
    c.in-Ok.ensures.runs in
    let new = g.F.Folder.held c.finish.new.folder in
    is_whole case tells ask c.requires.plan c.text-text.ensures.uuid mid w history c.requires.stored c.requires.small c.requires.complete entries runs c.in-Ok.ensures.fits new c.in-Ok-finish.hashes
    (λ t. c.in-Ok-finish.ensures.ok t ∙ ap (λ es. applied mid (finish_appends ask.uuid ask.plan.size w.chunks es mid)) c.deref.ensures.value)
    (subst (λ es. AreHashesOf tells (ended ask.uuid w.chunks es mid) ask.uuid ask.plan.size (length w.chunks) c.in-Ok-finish.hashes) c.deref.ensures.value c.in-Ok-finish.ensures.hashes)

pub returns-clause-cut_off : goal.returns-clause-cut_off
returns-clause-cut_off g c =
    let case = g.C.Case.content in
    let tells = g.F.Folder.tells in
    let ask = asked c.args.volume.now c.args.plan.now g.N.Named.run_workers 0 in
    let mid = g.F.Folder.held c.args.folder.now in
    let w = c.args.stream.now in
    let history = map published c.args.pieces.now in
    let entries = c.in-Ok.entries.items in
    let runs : AreGreatestRuns (history_spot ask.plan.extents history) entries =
    c.in-Ok.ensures.runs in
    let new = g.F.Folder.held c.finish.new.folder in
    cut_off_behind case tells ask c.requires.plan c.text-text.ensures.uuid mid w history c.requires.stored c.requires.small c.requires.complete entries runs c.in-Ok.ensures.fits new
    (λ t. subst (λ es. Reaches mid (finish_appends ask.uuid ask.plan.size w.chunks es mid) new) c.deref.ensures.value (c.in-Err-finish.ensures.part t))
