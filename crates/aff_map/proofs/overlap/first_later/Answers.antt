use Rattle.std.proofs.Common.{arith, inl, inr, ◌+◌, ◌≡◌, length}
use Rattle.std.proofs.lemmas.Bool.Decides.{leb_tells}
use Rattle.std.proofs.lemmas.List.{take_all}
use Rattle.aff_map.proofs.overlap.first_later.Goals as goal

pub loop-high-init : goal.loop-high-init
loop-high-init c = record {
  order = elim (leb_tells 1 (length c.args.entries.now)) [ inl x ↦ omega arith | inr y ↦ absurd (c.requires.some (λ i j d b l. absurd (omega arith))) ];
  inside = omega arith;
  apart = λ i j d b l. absurd (omega arith);
  not_apart = rw (take_all (length c.args.entries.now) c.args.entries.now (omega arith)) c.requires.some;
}

pub returns : goal.returns
returns c =
    let next : c.loop-high.high ≡ c.loop-high.low + 1 = omega arith in
    (omega arith, c.loop-high.invariant.apart, rw (← next) c.loop-high.invariant.not_apart)
