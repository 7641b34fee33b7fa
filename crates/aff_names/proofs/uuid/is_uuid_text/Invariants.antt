use Rattle.std.proofs.Common.{◌≡◌, drop}
use Rattle.aff_spec.specs.Words.{uuid_from}
use Rattle.aff_names.proofs.uuid.is_uuid_text.Given as goal

abbrev pub invariant-loop-k : goal.invariant-loop-k
invariant-loop-k l = uuid_from 0 l.text ≡ uuid_from l.k (drop l.k l.text)
