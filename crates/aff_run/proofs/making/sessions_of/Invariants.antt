use Rattle.std.proofs.Common.{◌≡◌, ◌+◌, ◌≤◌, length, map, take, vec_capacity, vec_len}
use Rattle.std.specs.Prelude.{All}
use Rattle.aff_snapshot.specs.Lists.{ListName}
use Rattle.aff_run.specs.Sessions.{IsFresh}
use Rattle.aff_run.proofs.making.sessions_of.Given as goal

abbrev pub invariant-loop-wanted : goal.invariant-loop-wanted
invariant-loop-wanted g l = record {
  table : l.seat.table ≡ l.initial.seat.table;
  out : l.seat.view.out ≡ l.initial.seat.view.out;
  made : l.seat.view.made ≤ l.initial.seat.view.made + l.wanted-index;
  len : vec_len l.sessions ≡ l.wanted-index;
  room : vec_capacity l.sessions ≡ vec_capacity l.initial.sessions;
  peeks_len : vec_len l.peeks + l.wanted-index ≡ vec_len l.initial.peeks;
  peeks_room : vec_capacity l.peeks ≡ vec_capacity l.initial.peeks;
  plans : All (λ v. v.list.plan ≡ l.plan) l.viewers.items;
  lists : (list : ListName) → All (λ v. v.list ≡ list) l.initial.viewers.items → All (λ v. v.list ≡ list) l.viewers.items;
  fresh : (list : ListName) → All (λ v. v.list ≡ list) l.initial.viewers.items → All (λ s. IsFresh l.plan l.claims list s) l.sessions.items;
  asks : map (λ s. s.requests) l.sessions.items ≡ take l.wanted-index l.wanted-items;
}
