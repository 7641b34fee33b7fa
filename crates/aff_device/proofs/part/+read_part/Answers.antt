use Rattle.std.proofs.Common.{◌+◌, ◌*◌, ◌/◌, length, replicate, refl, sym, ap, ◌∙◌}
use Rattle.aff_model.specs.declared.limits.TheConstants.{SECTOR}
use Rattle.aff_device.proofs.Readings.{whole_read, empty_read, block_read, both_read}
use Rattle.aff_device.proofs.part.+read_part.Goals as goal

pub returns-then-could_read-clause-read : goal.returns-then-could_read-clause-read
returns-then-could_read-clause-read g t c =
    whole_read _ _ _ _ _ _ _ _ _ _ c.requires.block (ap (λ n. c.args.start + SECTOR * n) c.from.ensures) c.requires.whole c.could_read.auto.buf
    (c.could_read.ensures.bytes c.if-could_read.true) (c.could_read.ensures.good c.if-could_read.true) c.could_read.ensures.kept.later

pub returns-in-1-clause-read : goal.returns-in-1-clause-read
returns-in-1-clause-read g t c =
    block_read _ _ _ _ _ _ _ _ _ _ _ _ c.requires.block c.requires.told (ap (λ n. c.args.start + SECTOR * n) c.from.ensures) c.requires.whole
    (ap (λ n. n / c.args.block) (sym c.could_read.auto.buf) ∙ sym c.blocks_of.ensures ∙ c.in-1.is) (ap (λ n. n / SECTOR) c.could_read.auto.buf)
    (c.mark.ensures.zero ∙ ap (λ n. replicate n 0) c.could_read.auto.buf) (c.mark.auto.buf ∙ c.could_read.auto.buf)
    (c.could_read.ensures.weak c.if-could_read.false) c.mark.ensures.bad (c.could_read.ensures.rose c.if-could_read.false)

pub returns-in_default-clause-read : goal.returns-in_default-clause-read
returns-in_default-clause-read g t c =
    both_read _ _ _ _ _ _ _ _ _ _ _ _ _ _ _ _ _ _ c.requires.block c.could_read.ensures.kept.holds (c.read_part.ensures.kept.holds ∙ c.could_read.ensures.kept.holds) c.requires.whole
    c.half_of-half.ensures.whole refl (c.read_part.auto.buf ∙ c.split_at_mut-front.ensures.front_len) c.could_read.ensures.kept.later c.read_part.ensures.read c.read_part-in_default.ensures.read
