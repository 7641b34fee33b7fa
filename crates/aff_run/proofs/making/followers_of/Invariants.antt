use Rattle.std.proofs.Common.{◌≡◌, ◌+◌, vec_capacity, vec_len}
use Rattle.std.specs.Prelude.{All}
use Rattle.aff_snapshot.specs.Lists.{ListName}
use Rattle.aff_run.specs.Examinations.{IsNew}
use Rattle.aff_run.proofs.making.followers_of.Given as goal

abbrev pub invariant-loop : goal.invariant-loop
invariant-loop g l = record {
  len : vec_len l.followers ≡ l.counter;
  room : vec_capacity l.followers ≡ vec_capacity l.initial.followers;
  peeks_len : vec_len l.peeks + l.counter ≡ vec_len l.initial.peeks;
  peeks_room : vec_capacity l.peeks ≡ vec_capacity l.initial.peeks;
  plans : All (λ v. v.list.plan ≡ l.plan) l.viewers.items;
  lists : (list : ListName) → All (λ v. v.list ≡ list) l.initial.viewers.items → All (λ v. v.list ≡ list) l.viewers.items;
  new : (list : ListName) → All (λ v. v.list ≡ list) l.initial.viewers.items → All (λ f. IsNew l.plan list f) l.followers.items;
}
