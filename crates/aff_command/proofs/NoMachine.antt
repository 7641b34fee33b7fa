-- Words for which main has nothing to make.
use Rattle.std.proofs.Common.{ℕ, List}
use Rattle.aff_command.specs.CommandLine.{IsAcquire}
use Rattle.aff_command.specs.Finished.{AreOffline}
use Rattle.aff_command.specs.Wanted.{IsFor}
use Rattle.aff_command.specs.declared.wanted.Outside.{Outside}
use Rattle.aff_command.specs.declared.wanted.Outside.TheVariants.{Acquire, Rehearse, Offline}

pub for_none : (words : List (List ℕ)) → ((block : ℕ) → ¬ (IsAcquire block words)) → ¬ (AreOffline words) → (o : Outside) → ¬ (IsFor o words)
for_none words acquires offline (Acquire first_device block) is = acquires block is.1
for_none words acquires offline (Rehearse mib workers) is = is
for_none words acquires offline Offline is = offline is
