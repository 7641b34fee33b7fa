use Rattle.std.proofs.Common.{◌≡◌, [], false, map, refl, sym, ap, subst, ◌∙◌}
use Rattle.std.specs.Arc.{arc_value}
use Rattle.aff_model.specs.Plan.{IsPlan, Planned}
use Rattle.aff_spec.specs.Names.{stream_urn}
use Rattle.aff_snapshot.specs.Lists.{Beginning}
use Rattle.aff_book.specs.Pages.{Pages, run_of}
use Rattle.aff_book.proofs.Adding.{rule_open}
use Rattle.aff_book.proofs.book.Book.open.Goals as goal

pub invariant_of-result : goal.invariant_of-result
invariant_of-result g c =
    let run = run_of g.C.Case g.N.Named in
    let tells = g.F.Folder.tells in
    let told = g.F.Receipt.Telling.told in
    let b : Pages g.row.F-Receipt.Denot = record {
      seat = c.args.seat.view;
      pieces = c.args.publisher.pieces;
      stream = c.in-Ok.stream;
      held = g.F.Folder.held c.args.folder;
      faults = g.F.Folder.folder_faults c.args.folder;
      stopped = false;
      memory = false;
    } in
    let none : c.args.publisher.pieces ≡ [] = ap (λ (x : Beginning g.row.F-Receipt.Denot). x.pieces) c.requires.publisher in
    let list = ap (λ (x : Beginning g.row.F-Receipt.Denot). x.list) c.requires.publisher in
    let plan : IsPlan run.plan.size run.plan.block run.plan.extents = subst (λ (p : Planned). IsPlan p.size p.block p.extents) c.requires.plan c.in-Ok.ensures.planned in
    let stream = c.in-Ok.ensures.stream ∙ ap (λ v. record { urn = stream_urn v; chunks = []; ended = false }) c.requires.volume in
    (c.requires.seat.0, list, ap (map arc_value) c.in-Ok.ensures.pieces ∙ sym none, rule_open run tells told b plan none c.requires.seat.1 stream c.requires.empty c.requires.opened refl)
