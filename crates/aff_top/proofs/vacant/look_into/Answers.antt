use Rattle.std.proofs.Common.{◌≡◌, length, arith}
use Rattle.std.proofs.lemmas.Bool.Decides.{nat_tests}
use Rattle.aff_top.proofs.Segmentless.{is_free, has_none}
use Rattle.aff_top.proofs.vacant.look_into.Goals as goal

pub returns-then-is_empty-clause-free : goal.returns-then-is_empty-clause-free
returns-then-is_empty-clause-free g c = λ t.
    let e = c.is_empty.ensures in
    let i = c.if-is_empty.true in
    let n : length c.in-Ok.segments.items ≡ 0 = grind (arith, nat_tests) in
    is_free (g.F.Folder.held c.args.folder.now) c.in-Ok.segments.items (c.in-Ok.ensures.segments t) n

pub returns-clause-occupied : goal.returns-clause-occupied
returns-clause-occupied g c = λ is t same.
    let e = c.is_empty.ensures in
    let i = c.if-is_empty.false in
    let n : length c.in-Ok.segments.items ≡ 0 = has_none (g.F.Folder.held c.args.folder.now) c.in-Ok.segments.items (c.in-Ok.ensures.segments t) same in
    grind (arith, nat_tests)
