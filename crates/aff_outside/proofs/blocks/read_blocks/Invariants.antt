use Rattle.aff_outside.proofs.Filled.{IsFilled}
use Rattle.aff_outside.proofs.blocks.read_blocks.Given as goal

abbrev pub invariant-loop : goal.invariant-loop
invariant-loop g l = IsFilled (g.F.ReadBlocks.stored l.file) l.offset l.block l.out l.done
