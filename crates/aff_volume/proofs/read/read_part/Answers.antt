use Rattle.std.proofs.Common.{◌≡◌, ◌+◌, ◌-◌, ◌<◌, Some, length, drop, get_or, ap, sym, ◌∙◌, arith}
use Rattle.std.proofs.lemmas.List.{get_or-drop, get_or-take}
use Rattle.aff_volume.proofs.Reading.{part_byte}
use Rattle.aff_volume.proofs.read.read_part.Goals as goal

pub returns-in-Ok-clause-bytes : goal.returns-in-Ok-clause-bytes
returns-in-Ok-clause-bytes g c = λ t k low.
    let out = c.copy_from_slice.new.self in
    let chunk = c.read_sound_chunk.new.out in
    let below : k < length c.args.out.now = omega (arith, low, c.copy_from_slice.ensures.len) in
    let byte : get_or c.copy_from_slice.new.self k 0 ≡ get_or c.read_sound_chunk.new.out (c.args.skip + k) 0 =
    ap (λ l. get_or l k 0) c.copy_from_slice.ensures.after
    ∙ get_or-take (c.args.skip + length c.args.out.now - c.args.skip) (drop c.args.skip chunk) k 0 (omega (arith, below))
    ∙ get_or-drop c.args.skip chunk k 0 in
    part_byte (g.F.Folder.held c.args.folder.now) c.args.info.now.stream c.args.number c.args.skip k (get_or out k 0) (omega (arith, below, c.requires.part))
    (c.in-Ok.ensures.bytes t (c.args.skip + k) (omega (arith, below, c.requires.part, c.requires.inside)) ∙ ap Some (sym byte))
