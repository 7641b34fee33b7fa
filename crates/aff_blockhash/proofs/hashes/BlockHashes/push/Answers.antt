use Rattle.std.proofs.Common.{◌≡◌, map, sym, subst, arith}
use Rattle.std.specs.Prelude.{OnErr, IsTrue}
use Rattle.std.proofs.lemmas.Grind.{common_steps}
use Rattle.aff_spec.specs.Appends.{Reaches}
use Rattle.aff_spec.specs.Bevvies.{hash_appends}
use Rattle.aff_blockhash.specs.Pending.{sums_in, push_appends}
use Rattle.aff_blockhash.proofs.hashes.BlockHashes.push.Goals as goal

pub returns-clause-part : goal.returns-clause-part
returns-clause-part g c =
    let last : push_appends c.args.self.now (sums_in c.args.sums.now) ≡ hash_appends c.self.inside.stream c.self.inside.bevvy (map sums_in c.deref.result.now) = grind (arith, common_steps) in
    subst (λ v. OnErr c.close-closed.result (IsTrue g.F.Folder.tells → Reaches (g.F.Folder.held c.args.folder.now) v (g.F.Folder.held c.close-closed.new.folder))) (sym last) c.close-closed.ensures.part
