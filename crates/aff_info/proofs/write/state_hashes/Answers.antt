use Rattle.std.proofs.Common.{append_assoc}
use Rattle.aff_info.proofs.write.state_hashes.Goals as goal

pub returns : goal.returns
returns c = rw (c.in_ok-push-5.ensures.items, c.in_ok-push-4.ensures.items, c.in_ok-push-3.ensures.items, c.in_ok-push-2.ensures.items, c.in_ok-push.ensures.items, c.in_ok-hashed.ensures, c.in_ok-hashed-2.ensures, c.in_ok-hashed-3.ensures, c.in_ok-hashed-4.ensures, c.in_ok-hashed-5.ensures, c.text-image.ensures.text) (simp append_assoc)
