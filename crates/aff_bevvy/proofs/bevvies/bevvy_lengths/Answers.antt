use Rattle.std.proofs.Common.{◌<◌, ◌+◌, below_more, ap, ◌∙◌, arith, length, length-append}
use Rattle.aff_spec.specs.Bevvies.{bevvy_count}
use Rattle.aff_bevvy.specs.Segments.{listed_length}
use Rattle.aff_bevvy.proofs.FirstFaults.{first_of_bevvies, of_segments}
use Rattle.aff_bevvy.proofs.Listing.{one_length_more}
use Rattle.aff_bevvy.proofs.bevvies.bevvy_lengths.Goals as goal

pub loop-bevvy-preserved : goal.loop-bevvy-preserved
loop-bevvy-preserved c = record {
  bevvies = below_more _ _ c.loop-bevvy.invariant.bevvies c.in-Ok.ensures.bevvy;
  all = ap length c.in-Ok-push.ensures.items ∙ length-append c.loop-bevvy.lens.items _ ∙ ap (λ n. n + 1) c.loop-bevvy.invariant.all;
  each = one_length_more (listed_length c.args.segments.now) c.args.stream.now c.loop-bevvy.bevvy c.in-Ok.len c.loop-bevvy.lens.items c.push.new.self.items c.in-Ok-push.ensures.items c.loop-bevvy.invariant.all c.loop-bevvy.invariant.each c.in-Ok.ensures.length;
}

pub returns-in-Err-clause-fault : goal.returns-in-Err-clause-fault
returns-in-Err-clause-fault c =
    let low : c.loop-bevvy.bevvy < bevvy_count c.args.chunks = omega (arith, c.loop-bevvy-test.true, c.div_ceil-bevvy-end.ensures) in
    first_of_bevvies (listed_length c.args.segments.now) c.args.stream.now c.args.chunks c.loop-bevvy.bevvy c.in-Err.fault low c.loop-bevvy.invariant.bevvies c.in-Err.ensures.fault

pub returns-in-Err-clause-early : goal.returns-in-Err-clause-early
returns-in-Err-clause-early c =
    of_segments (listed_length c.args.segments.now) c.args.stream.now c.args.chunks c.loop-bevvy.bevvy c.in-Err.fault c.in-Err.ensures.fault
