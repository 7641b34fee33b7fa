use Rattle.std.proofs.Common.{◌∙◌, sym, ap, arith}
use Rattle.std.specs.List.{flat_map}
use Rattle.std.proofs.lemmas.List.{take_all}
use Rattle.std.proofs.lemmas.List.Elements.{All-more, All-same}
use Rattle.std.proofs.lemmas.Grind.{common_steps}
use Rattle.aff_fields.specs.Entry.{FitsEntry, entry_bytes, entries_of}
use Rattle.aff_fields.proofs.EntryLaws.{entries_of-flat_map}
use Rattle.aff_fields.proofs.entry.joined.Goals as goal

pub loop-entry-preserved : goal.loop-entry-preserved
loop-entry-preserved c = record {
  written = grind (arith, common_steps);
  fits = All-more FitsEntry c.args.entries.now c.loop-entry.entry-index _ c.loop-entry-test.true c.loop-entry.invariant.fits c.write_entry.ensures.fits;
}

pub returns-clause-reads_back : goal.returns-clause-reads_back
returns-clause-reads_back c =
    let all = take_all c.loop-entry.entry-index c.args.entries.now c.loop-entry-test.false in
    let written = c.loop-entry.invariant.written ∙ ap (flat_map entry_bytes) all in
    ap entries_of written ∙ entries_of-flat_map c.args.entries.now (All-same FitsEntry _ _ (sym all) c.loop-entry.invariant.fits)
