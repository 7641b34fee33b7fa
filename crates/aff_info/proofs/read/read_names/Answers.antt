use Rattle.std.proofs.Common.{get_or, refl}
use Rattle.aff_info.specs.Reading.{nothing, runs}
use Rattle.aff_info.specs.declared.name.InfoName.TheVariants.{Stream}
use Rattle.aff_info.proofs.Runs.{runs_more, runs_fail, runs_end}
use Rattle.aff_info.proofs.read.read_names.Goals as goal

pub returns-in-Err : goal.returns-in-Err
returns-in-Err c =
    let names = c.args.names.now in
    let facts = c.args.triples.now in
    runs_fail names facts c.loop-name.name-index (get_or names c.loop-name.name-index Stream) Stream c.loop-name.draft (runs names facts nothing) c.in-Err.fault c.loop-name-test.true refl c.in-Err.ensures c.loop-name.invariant

pub loop-name-preserved : goal.loop-name-preserved
loop-name-preserved c =
    let names = c.args.names.now in
    let facts = c.args.triples.now in
    runs_more names facts c.loop-name.name-index (get_or names c.loop-name.name-index Stream) Stream c.loop-name.draft c.read_name.new.draft (runs names facts nothing) c.loop-name-test.true refl c.in_default.ensures c.loop-name.invariant

pub returns : goal.returns
returns c = runs_end c.args.names.now c.args.triples.now c.loop-name.name-index c.loop-name.draft (runs c.args.names.now c.args.triples.now nothing) c.loop-name-test.false c.loop-name.invariant
