use Rattle.std.proofs.Common.{take}
use Rattle.std.specs.List.{concat}
use Rattle.aff_memory.proofs.Appends.{IsCopied}
use Rattle.aff_memory.proofs.kept.copy_appends.Given as goal

abbrev pub invariant-loop-shared : goal.invariant-loop-shared
invariant-loop-shared l = IsCopied (concat (take l.shared-index l.appends)) l.at l.initial.out l.out l.filled l.skip
