use Rattle.std.proofs.Common.{sym, subst}
use Rattle.aff_volume.specs.Opened.{IsVolumeOf}
use Rattle.aff_volume_rows.proofs.volume.two_bytes.Goals as goal

pub two_bytes_of-requires-clause-opened : goal.two_bytes_of-requires-clause-opened
two_bytes_of-requires-clause-opened g c κs within = λ t. subst (λ h. IsVolumeOf h c.in-Ok.volume) (sym (c.in-Ok.ensures.same t)) (c.in-Ok.ensures.volume t)
