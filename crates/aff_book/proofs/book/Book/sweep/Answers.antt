use Rattle.std.proofs.Common.{◌≡◌, sym, subst, ◌∙◌}
use Rattle.aff_book.specs.Pages.{Pages, run_of}
use Rattle.aff_book.specs.Rule.{AreTied}
use Rattle.aff_book.proofs.Adding.{rule_seat}
use Rattle.aff_book.proofs.Tying.{tied_swept}
use Rattle.aff_book.proofs.book.Book.sweep.Goals as goal

pub invariant_of-self : goal.invariant_of-self
invariant_of-self g c =
    let run = run_of g.C.Case g.N.Named in
    let tells = g.F.Folder.tells in
    let told = g.F.Receipt.Telling.told in
    let b : Pages g.row.F-Receipt.Denot = record {
      seat = c.self.inside.seat.view;
      pieces = c.self.inside.publisher.pieces;
      stream = c.self.inside.stream;
      held = g.F.Folder.held c.self.inside.folder;
      faults = g.F.Folder.folder_faults c.self.inside.folder;
      stopped = c.self.inside.stopped;
      memory = c.self.inside.memory;
    } in
    let i = c.self.invariant in
    let l = c.sweep_claim.ensures in
    let tied = tied_swept c.self.inside.seat.view b.pieces c.args.extent c.args.claims.now.table.workers l.view.0 i.3.tied in
    (l.table ∙ i.0, i.1, i.2, rule_seat run tells told b i.3 c.sweep_claim.new.seat.view (subst (λ v. AreTied v b.pieces) (sym l.view.1) tied))
