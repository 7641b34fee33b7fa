use Rattle.std.proofs.Common.{◌≡◌, length, refl, rules}
use Rattle.aff_map.proofs.Adding.{Adds-joined, Adds-pushed}
use Rattle.aff_map.proofs.run.push_run.Goals as goal

pub returns-then-goes_on : goal.returns-then-goes_on
returns-then-goes_on c =
    let count : c.len-last.result ≡ length c.args.entries.now.items = search rules in
    let joined = c.if-goes_on.ensures.joined in
    Adds-joined _ _ _ c.len-last.result c.index_mut.result.now c.args.run c.deref.ensures.value count c.index_mut.ensures.value refl c.requires.some c.requires.end joined.0 joined.1

pub returns : goal.returns
returns c = Adds-pushed _ _ _ c.args.run c.deref.ensures.value c.in_ok-push.ensures.items c.requires.some c.requires.fits c.if-goes_on.ensures.split
