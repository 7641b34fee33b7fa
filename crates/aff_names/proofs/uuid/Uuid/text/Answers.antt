use Rattle.aff_names.proofs.Places.{uuid_is_ascii}
use Rattle.aff_names.proofs.uuid.Uuid.text.Goals as goal

pub ascii_str-requires : goal.ascii_str-requires
ascii_str-requires c = uuid_is_ascii 0 _ c.self.invariant
