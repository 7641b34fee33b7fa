use Rattle.std.proofs.Common.{◌≡◌, ◌+◌, ◌<◌, ◌++◌, Some, length, take, drop, get_or, refl, sym, ap, ◌∙◌, arith, length-take}
use Rattle.std.proofs.Math.ListN.{get_or-append}
use Rattle.aff_map.specs.Symbol.{IsSymbolic}
use Rattle.aff_spec.specs.Runs.{lookup}
use Rattle.aff_spec.specs.Streams.{stream_byte}
use Rattle.aff_volume.proofs.Reading.{stored_byte, symbol_piece, symbolic_by, symbolic_fits}
use Rattle.aff_volume.proofs.linear.fill_piece.Goals as goal

pub fill-requires : goal.fill-requires
fill-requires g c =
    let symbolic : IsSymbolic c.find-spot.result.target = symbolic_by c.find-spot.result.target c.in_default.not-Stored in
    let fits = symbolic_fits c.args.map.now c.args.at (lookup c.args.map.now.entries c.args.at) c.find-spot.result c.find-spot.ensures.leads c.find-spot.ensures.reaches symbolic
    (omega (arith, c.find-spot.ensures.inside, c.requires.over.size, c.requires.fit.image_size)) in
    record { symbolic = symbolic; fits = omega (arith, fits, c.min-count.ensures, length-take c.min-count.result c.args.buffer.now) }

pub returns-in-Ok-clause-bytes : goal.returns-in-Ok-clause-bytes
returns-in-Ok-clause-bytes g c = λ t k low.
    let s = c.find-spot.result in
    let rest = drop c.min-count.result c.args.buffer.now in
    let taken : length (take c.min-count.result c.args.buffer.now) ≡ c.min-count.result = omega (arith, c.min-count.ensures, length-take c.min-count.result c.args.buffer.now) in
    let long : length c.read_at.new.out ≡ c.min-count.result = c.read_at.auto.out ∙ taken in
    let below : k < length c.read_at.new.out = omega (arith, low, long) in
    stored_byte (g.F.Folder.held c.args.folder.now) c.args.info.now c.args.map.now c.requires.fit (c.requires.there t) c.args.at s c.find-spot.ensures.leads c.find-spot.ensures.goes_on c.in-Stored.is
    k (get_or (c.read_at.new.out ++ rest) k 0) (omega (arith, low, c.min-count.ensures))
    (ap (λ u. stream_byte (g.F.Folder.held c.args.folder.now) u (s.target_at + k)) (sym c.requires.reads.stream) ∙ c.in-Ok.ensures.bytes t k below ∙ ap Some (sym (get_or-append c.read_at.new.out rest 0 k below)))

pub returns-in_default : goal.returns-in_default
returns-in_default g c =
    let symbolic : IsSymbolic c.find-spot.result.target = symbolic_by c.find-spot.result.target c.in_default.not-Stored in
    let rest = drop c.min-count.result c.args.buffer.now in
    let taken : length (take c.min-count.result c.args.buffer.now) ≡ c.min-count.result = omega (arith, c.min-count.ensures, length-take c.min-count.result c.args.buffer.now) in
    let long : length c.fill.new.out ≡ c.min-count.result = c.fill.auto.out ∙ taken in
    record {
      some = omega (arith, c.min-count.ensures, c.find-spot.ensures.some, c.requires.room);
      few = omega (arith, c.min-count.ensures);
      inside = omega (arith, c.min-count.ensures, c.find-spot.ensures.inside, c.requires.over.size);
      bytes = λ t.
          (symbol_piece (g.F.Folder.held c.args.folder.now) c.args.info.now c.args.map.now c.requires.fit (c.requires.there t) c.args.at c.find-spot.result c.find-spot.ensures.leads c.find-spot.ensures.goes_on
          c.min-count.result (c.fill.new.out ++ rest) symbolic (omega (arith, c.min-count.ensures))
          (λ k low.
          let below : k < length c.fill.new.out = omega (arith, low, long) in
          get_or-append c.fill.new.out rest 0 k below ∙ c.fill.ensures k below)).are;
      same = λ t. refl;
      cause = record { later = omega arith; rose = λ h. absurd cc };
    }
