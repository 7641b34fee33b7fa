use Rattle.std.proofs.Common.{arith}
use Rattle.aff_names.proofs.Percent.{percent_is_folder_name}
use Rattle.aff_names.proofs.segment.percent_encoded.Goals as goal

pub returns : goal.returns
returns c =
    rw (c.in_ok-append_to.ensures.ok, c.new-name.ensures.bytes, c.utf8_percent_encode.ensures.text)
    (percent_is_folder_name c.args.text.now (λ i. omega (arith, c.type_inv.text i)))
