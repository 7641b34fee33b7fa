use Rattle.std.proofs.Common.{◌≡◌, ◌+◌, ◌++◌, Some, get_or, ap, subst, ◌∙◌, arith}
use Rattle.aff_spec.specs.Volumes.{volume_byte, volume_bytes}
use Rattle.aff_volume.specs.Image.{named_by}
use Rattle.aff_volume.proofs.Hashing.{more_of_image}
use Rattle.aff_volume.proofs.linear.feed_image.Goals as goal

pub loop-at-preserved : goal.loop-at-preserved
loop-at-preserved g c =
    let i = c.loop-at.invariant in
    let v = named_by c.args.info.now in
    record {
      low = c.in-Ok.ensures.inside;
      room = omega (arith, c.fill_buffer.auto.buffer, i.room);
      fed = λ t.
          more_of_image (g.F.Folder.held c.args.folder.now) v c.args.linear.now c.loop-at.linear c.update_beside.new.self c.fill_buffer.new.buffer c.loop-at.at c.in-Ok.count
          (omega (arith, c.fill_buffer.auto.buffer, c.in-Ok.ensures.few)) (i.fed t) c.update_beside.ensures
          (λ k low. subst (λ h. volume_byte h v (c.loop-at.at + k) ≡ Some (get_or c.fill_buffer.new.buffer k 0)) (i.same t) (c.in-Ok.ensures.bytes t k low));
      same = λ t. c.in-Ok.ensures.same t ∙ i.same t;
      later = omega (arith, c.in-Ok.ensures.cause.later, i.later);
    }

pub returns-clause-fed : goal.returns-clause-fed
returns-clause-fed g c = λ t.
    c.loop-at.invariant.fed t
    ∙ ap (λ n. c.args.linear.now ++ volume_bytes (g.F.Folder.held c.args.folder.now) (named_by c.args.info.now) n) (omega (arith, c.loop-at.invariant.low, c.loop-at-test.false))
