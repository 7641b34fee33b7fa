use Rattle.std.proofs.Common.{◌≡◌, ℕ, ◌<◌, map, length, sym, ◌∙◌, refl, arith}
use Rattle.std.specs.List.{range_with_len}
use Rattle.std.proofs.lemmas.List.{ext_get_or}
use Rattle.std.proofs.lemmas.List.FromFn.{get_or-map-range_with_len, length-map-range_with_len}
use Rattle.aff_map.specs.Symbol.{symbol_of}
use Rattle.aff_analyst.proofs.letters.fill_letters.Goals as goal

pub returns : goal.returns
returns c =
    let letter = symbol_of c.args.target in
    let n : ℕ = length c.args.out.now in
    let count : length c.loop-k.out ≡ n = c.loop-k.invariant.count in
    ext_get_or 0 c.loop-k.out (map letter (range_with_len c.args.at n)) (count ∙ sym (length-map-range_with_len letter c.args.at n)) (λ k below.
    let low : k < n = omega (arith, below, count) in
    c.loop-k.invariant.letters k (omega (arith, low)) ∙ sym (get_or-map-range_with_len letter c.args.at n k _ 0 low refl))
