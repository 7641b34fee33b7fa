use Rattle.std.proofs.Common.{◌≡◌, ◌<◌, ◌≤◌, length, ap, ◌∙◌, arith}
use Rattle.aff_book.specs.Pages.{Pages}
use Rattle.aff_snapshot.specs.Lists.{Beginning}
use Rattle.aff_run.specs.Examinations.{HasBeenTold}
use Rattle.aff_run.proofs.Stepping.{changed_at, unchanged}
use Rattle.aff_run.proofs.Watches.{told_as}
use Rattle.aff_run.proofs.watching.tell_all.Goals as goal

pub loop-index-preserved : goal.loop-index-preserved
loop-index-preserved g c =
    let i = c.loop-index.invariant in
    let n = c.loop-index.index in
    let e = c.learn.ensures in
    let x = c.index_mut.result.now in
    let y = c.learn.new.self in
    let pieces = c.args.book.now.pieces in
    let told : c.tell.result.pieces ≡ pieces = ap (λ (b : Beginning g.row.F-Receipt.Denot). b.pieces) c.tell.ensures.told ∙ ap (λ (b : Pages g.row.F-Receipt.Denot). b.pieces) i.same in
    let inside : n < length c.loop-index.examinations.items = omega (arith, c.loop-index-test.true, c.len-index-end.ensures, i.count, c.loop-index.examinations.ok.0) in
    record {
      same = c.tell.ensures.same ∙ i.same;
      count = i.count;
      done = changed_at (HasBeenTold pieces) c.args.examinations.now.items c.loop-index.examinations.items n y inside i.done i.rest x c.index_mut.ensures.value (told_as pieces c.tell.result.pieces x y told e.same e.fault e.learned);
      rest = unchanged (HasBeenTold pieces) c.args.examinations.now.items c.loop-index.examinations.items n y inside i.rest;
    }
