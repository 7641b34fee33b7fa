use Rattle.std.proofs.Common.{◌≡◌, ◌-◌, ◌^◌, ◌<◌, ◌≤◌, length, drop}
use Rattle.aff_turtle.specs.Quoted.{hex_number}
use Rattle.aff_turtle.proofs.number.hex_number.Given as goal

abbrev pub invariant-loop-place : goal.invariant-loop-place
invariant-loop-place l = record {
  so_far : hex_number (l.digits - l.place) l.number (drop l.place l.chars) ≡ hex_number l.digits 0 l.chars;
  inside : l.place ≤ length l.chars;
  below : l.number < 16 ^ l.place;
}
