use Rattle.std.proofs.Common.{sym, ◌∙◌, arith}
use Rattle.std.proofs.lemmas.Bool.{false≢true}
use Rattle.aff_bevvy.specs.Segments.{listed_length}
use Rattle.aff_volume.proofs.Opening.{hashed_more}
use Rattle.aff_volume.proofs.segments.check_hashes.Goals as goal

pub loop-bevvy-preserved : goal.loop-bevvy-preserved
loop-bevvy-preserved c = λ sorted.
    hashed_more (listed_length c.args.segments.now) c.args.stream.now c.args.chunks c.loop-bevvy.bevvy (c.loop-bevvy.invariant sorted) ((c.in-Ok.ensures sorted).0 c.if-not-hashed.false)

pub returns-then-not-hashed-clause-refused : goal.returns-then-not-hashed-clause-refused
returns-then-not-hashed-clause-refused c = λ sorted. record {
  there = omega (arith, c.loop-bevvy-test.true, c.div_ceil-bevvy-end.ensures);
  before = c.loop-bevvy.invariant sorted;
  lacks = λ is. false≢true (sym c.if-not-hashed.true ∙ (c.in-Ok.ensures sorted).1 is);
}

pub returns-clause-hashed : goal.returns-clause-hashed
returns-clause-hashed c = λ sorted b low. c.loop-bevvy.invariant sorted b (omega (arith, low, c.loop-bevvy-test.false, c.div_ceil-bevvy-end.ensures))
