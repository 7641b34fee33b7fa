use Rattle.std.proofs.Common.{ℕ, ◌<◌, ◌≤◌, length, subst, sym, Contains, slice_index}
use Rattle.aff_claim.specs.Values.{Passing}
use Rattle.aff_claim.proofs.pass.Pass.set_front.Goals as goal

pub invariant_of-self : goal.invariant_of-self
invariant_of-self c =
    let p = c.self.invariant in
    let Within : Passing → Type 0 = λ v. c.args.front ≤ length v.claims.ranking.falling in
    let Behind : Passing → Type 0 = λ v. (i : ℕ) → i < c.args.front → Contains v.view.known (slice_index v.claims.ranking.falling i) in record {
      seat = p.seat;
      numbered = p.numbered;
      count = p.count;
      marks = p.marks;
      words = p.words;
      taken = p.taken;
      within = subst Within (sym c.self.view_is) c.requires.within;
      behind = subst Behind (sym c.self.view_is) c.requires.behind;
    }
