use Rattle.std.proofs.Common.{arith}
use Rattle.aff_lanes.proofs.Groups.{both_at}
use Rattle.aff_lanes.proofs.sha256_hasher.next_four.Goals as goal

pub returns : goal.returns
returns c = λ j low b window has.
    let s1 = c.next.ensures j low b window has in
    let s2 = c.next-2.ensures j low b s1.0 s1.1 in
    let s2' = both_at _ _ b j _ _ (omega arith) s2 in
    let s3 = c.next-3.ensures j low b s2'.0 s2'.1 in
    let s3' = both_at _ _ b j _ _ (omega arith) s3 in
    let s4 = c.next-4.ensures j low b s3'.0 s3'.1 in
    both_at _ _ b j _ _ (omega arith) s4
