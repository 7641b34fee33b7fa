use Rattle.std.proofs.Common.{append_assoc}
use Rattle.aff_info.proofs.write.state_stream.Goals as goal

pub returns : goal.returns
returns c = rw (c.in_ok-push-6.ensures.items, c.in_ok-push-5.ensures.items, c.in_ok-push-4.ensures.items, c.in_ok-push-3.ensures.items, c.in_ok-push-2.ensures.items, c.in_ok-push.ensures.items, c.in_ok-named.ensures, c.in_ok-counted.ensures, c.in_ok-counted-2.ensures, c.in_ok-counted-3.ensures, c.in_ok-named-2.ensures, c.in_ok-named-3.ensures, c.text-stream.ensures.text, c.text-volume.ensures.text) (simp append_assoc)
