use Rattle.std.proofs.Common.{arith}
use Rattle.std.proofs.lemmas.Grind.{common_steps}
use Rattle.aff_fields.proofs.EntryLaws.{entries_of-chunks, flat_map-chunks}
use Rattle.aff_fields.proofs.entry.read_entries.Goals as goal

pub returns-clause-entries : goal.returns-clause-entries
returns-clause-entries c = entries_of-chunks c.args.bytes.now _ (grind (arith, common_steps))

pub returns-clause-bytes : goal.returns-clause-bytes
returns-clause-bytes c = flat_map-chunks c.args.bytes.now _ (grind (arith, common_steps)) (λ k. omega (arith, c.type_inv.bytes k)) (grind (arith, common_steps))
