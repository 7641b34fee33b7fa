use Rattle.std.proofs.Common.{sym}
use Rattle.aff_memory.proofs.Indexes.{gap_before, stands_at}
use Rattle.aff_memory.proofs.shelf.index_of.Goals as goal

pub returns-in-Less-clause-missing : goal.returns-in-Less-clause-missing
returns-in-Less-clause-missing c = gap_before _ _ _ c.index-kept-i.result c.loop-i-test.true c.index-kept-i.is (sym c.in-Less.ensures) c.requires c.loop-i.invariant

pub returns-in-Equal-clause-found : goal.returns-in-Equal-clause-found
returns-in-Equal-clause-found c = stands_at _ _ _ c.index-kept-i.result c.loop-i-test.true c.index-kept-i.is (sym c.in-Equal.ensures) c.loop-i.invariant
