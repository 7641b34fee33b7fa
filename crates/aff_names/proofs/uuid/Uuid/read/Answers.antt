use Rattle.std.proofs.Common.{◌≡◌, true, sym, ◌∙◌, arith}
use Rattle.aff_spec.specs.Words.{is_uuid}
use Rattle.aff_names.proofs.Places.{uuid_ends}
use Rattle.aff_names.proofs.uuid.Uuid.read.Goals as goal

pub copy_from_slice-requires : goal.copy_from_slice-requires
copy_from_slice-requires c =
    let ok : is_uuid c.as_bytes-bytes.result.now ≡ true = sym c.is_uuid_text.ensures ∙ c.if-not-is_uuid_text.false in
    omega (arith, uuid_ends 0 c.as_bytes-bytes.result.now ok)
