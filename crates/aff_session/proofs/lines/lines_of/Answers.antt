use Rattle.std.proofs.Common.{◌+◌, take, get_or, sym, subst, arith}
use Rattle.aff_model.specs.declared.cell.Run.{Run}
use Rattle.aff_session.specs.Lines.{AreLinesOf}
use Rattle.aff_session.proofs.Lining.{fits_more, lines_more, no_run}
use Rattle.aff_session.proofs.lines.lines_of.Goals as goal

pub overflow_add-at : goal.overflow_add-at
overflow_add-at c = omega (arith, fits_more c.args.runs.now c.loop-run.run-index no_run c.loop-run-test.true)

pub overflow_add-from : goal.overflow_add-from
overflow_add-from c = omega (arith, fits_more c.args.runs.now c.loop-run.run-index no_run c.loop-run-test.true)

pub part_of-own-requires : goal.part_of-own-requires
part_of-own-requires c = omega (arith, fits_more c.args.runs.now c.loop-run.run-index no_run c.loop-run-test.true)

pub loop-run-preserved : goal.loop-run-preserved
loop-run-preserved c =
    let r : Run = get_or c.args.runs.now c.loop-run.run-index no_run in
    let one = lines_more c.args.at c.args.bytes.now c.args.runs.now c.loop-run.run-index c.loop-run.lines.items c.line_of.result c.loop-run.from c.part_of-own.result.now c.loop-run-test.true c.loop-run.invariant.so_far c.loop-run.invariant.lines c.line_of.ensures.at c.line_of.ensures.run c.part_of-own.ensures c.line_of.ensures.sum in
    record {
      so_far = one.so_far;
      lines = subst (AreLinesOf c.args.at c.args.bytes.now (take (c.loop-run.run-index + 1) c.args.runs.now)) (sym c.push_reserved.ensures.items) one.are;
      room = omega (arith, c.push_reserved.ensures.capacity, c.loop-run.invariant.room);
    }
