use Rattle.std.proofs.Common.{◌≡◌, ◌≤◌, ◌++◌, ap, ◌∙◌, arith, get_or}
use Rattle.std.proofs.lemmas.List.{get_or_default}
use Rattle.aff_fields.specs.declared.entry.Entry.{Entry}
use Rattle.aff_linear.specs.Feeds.{run_bytes}
use Rattle.aff_linear.proofs.Runs.{between_ended, run_fed}
use Rattle.aff_linear.proofs.image.feed_entries.Goals as goal

pub loop-entry-preserved : goal.loop-entry-preserved
loop-entry-preserved g c =
    let none : Entry = record { at = 0; len = 0; target_at = 0; target = 0 } in
    let entries = c.args.entries.now in
    let k = c.loop-entry.entry-index in
    let e : Entry = get_or c.args.entries.now c.loop-entry.entry-index none in
    let below = c.loop-entry-test.true in
    let image = c.requires.image in
    let i = c.loop-entry.invariant in
    let is : get_or entries k e ≡ e = get_or_default entries k e none below in
    let low : c.loop-entry.at ≤ e.at = i.between.ahead k none (omega arith) below in
    let held = g.F.Folder.held c.args.folder.now in
    record {
      between = between_ended c.args.size image.chunks entries image.runs k e below is;
      inside = (image.runs.each k none below).inside;
      fed = λ told.
          run_fed c.args.size image.chunks entries image.runs k e below is held c.args.stream.now c.loop-entry.at c.args.feeder.now c.loop-entry.feeder c.feed_symbols.new.feeder c.feed_entry.new.feeder
          i.between low (i.fed told) c.feed_symbols.ensures
          (c.in-Ok.ensures.fed told ∙ ap (λ h. c.feed_symbols.new.feeder ++ run_bytes h c.args.stream.now e) (i.same told));
      same = λ told. c.in-Ok.ensures.same told ∙ i.same told;
      later = omega (arith, c.in-Ok.ensures.cause.later, i.later);
    }
