use Rattle.std.proofs.Common.{◌≡◌, length, sym, ◌∙◌, ap, subst}
use Rattle.std.proofs.lemmas.List.{take_at}
use Rattle.aff_model.specs.Legal.{Fits}
use Rattle.aff_extent.proofs.Zeros.{zero_byte}
use Rattle.aff_extent.proofs.reader.read_around.Goals as goal

pub returns-clause-read : goal.returns-clause-read
returns-clause-read g c =
    let case = (goal.Device-dyn g c.args.device.now).device_content c.args.device.now.1 in
    let block = (goal.Device-dyn g c.args.device.now).device_block c.args.device.now.1 in
    let e = c.args.extent.now in
    let same : length c.read_extent.new.buf ≡ c.make_room.new.bytes.len = c.read_extent.auto.buf ∙ c.as_mut_slice.ensures.len in
    let back : c.make_room.new.bytes.len ≡ length c.read_extent.new.buf = sym same in
    let lent : length c.as_mut_slice.result.now ≡ c.args.extent.now.len = ap length c.as_mut_slice.ensures.value ∙ c.in_ok-make_room.ensures.long in
    rw take_at (record {
      len = c.read_extent.auto.buf ∙ lent;
      fits = subst (λ n. Fits case block (record { at = e.at; len = n; priority = e.priority }) c.read_extent.new.bad.items) lent (c.read_extent.ensures.fits e.priority);
      known = c.read_extent.ensures.known;
      zero = zero_byte c.read_extent.new.buf c.read_extent.new.bad.items c.read_extent.ensures.zero;
    })
