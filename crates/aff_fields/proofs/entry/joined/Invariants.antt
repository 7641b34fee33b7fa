use Rattle.std.proofs.Common.{◌≡◌, take}
use Rattle.std.specs.List.{All, flat_map}
use Rattle.aff_fields.specs.Entry.{FitsEntry, entry_bytes}
use Rattle.aff_fields.proofs.entry.joined.Given as goal

abbrev pub invariant-loop-entry : goal.invariant-loop-entry
invariant-loop-entry l = record {
  written : l.bytes.items ≡ flat_map entry_bytes (take l.entry-index l.entries);
  fits : All FitsEntry (take l.entry-index l.entries);
}
