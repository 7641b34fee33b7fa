use Rattle.std.proofs.Common.{◌≡◌, ◌+◌, ◌*◌, ◌/◌, ◌%◌, ◌<◌, ◌++◌, Some, length, take, drop, refl, sym, ap, ◌∙◌, arith, length-take}
use Rattle.std.proofs.Math.ListN.{get_or-append}
use Rattle.aff_map.specs.Symbol.{IsSymbolic}
use Rattle.aff_spec.specs.Runs.{lookup}
use Rattle.aff_spec.specs.Streams.{stream_byte}
use Rattle.aff_volume.proofs.Reading.{stored_error, stored_piece, symbol_piece, symbolic_by, symbolic_fits}
use Rattle.aff_volume.proofs.read.read_piece.Goals as goal

pub fill-requires : goal.fill-requires
fill-requires g c =
    let symbolic : IsSymbolic c.find-spot.result.target = symbolic_by c.find-spot.result.target c.in_default.not-Stored in
    let fits = symbolic_fits c.args.map.now c.args.at (lookup c.args.map.now.entries c.args.at) c.find-spot.result c.find-spot.ensures.leads c.find-spot.ensures.reaches symbolic
    (omega (arith, c.find-spot.ensures.inside, c.requires.over.size, c.requires.fit.image_size)) in
    record { symbolic = symbolic; fits = omega (arith, fits, c.min-run.ensures, length-take c.min-run.result c.args.out.now) }

pub returns-in-Ok-clause-bytes : goal.returns-in-Ok-clause-bytes
returns-in-Ok-clause-bytes g c = λ t.
    let held = g.F.Folder.held c.args.folder.now in
    let s = c.find-spot.result in
    let rest = drop c.min-count.result c.args.out.now in
    let long : length c.read_part.new.out ≡ c.min-count.result =
    c.read_part.auto.out ∙ (let n : length (take c.min-count.result c.args.out.now) ≡ c.min-count.result = omega (arith, c.min-count.ensures, c.min-run.ensures, length-take c.min-count.result c.args.out.now) in n) in
    stored_piece held c.args.info.now c.args.map.now c.requires.fit (c.requires.there t) c.args.at s c.find-spot.ensures.leads c.find-spot.ensures.goes_on c.in-Stored.is
    c.min-count.result (c.read_part.new.out ++ rest) (omega (arith, c.min-count.ensures, c.min-run.ensures)) (omega (arith, c.min-count.ensures, c.min-run.ensures))
    (λ k low.
    let here : s.target_at + k ≡ 32768 * (s.target_at / 32768) + s.target_at % 32768 + k = omega arith in
    let below : k < length c.read_part.new.out = omega (arith, low, long) in
    ap (λ j. stream_byte held c.args.info.now.stream j) here ∙ c.in-Ok.ensures.bytes t k below ∙ ap Some (sym (get_or-append c.read_part.new.out rest 0 k below)))
    (c.in-Ok.ensures.sound t)

pub returns-in-Err-clause-refused : goal.returns-in-Err-clause-refused
returns-in-Err-clause-refused g c = λ t.
    stored_error (g.F.Folder.held c.args.folder.now) c.args.info.now c.args.map.now c.requires.fit (c.requires.there t) c.args.at c.find-spot.result c.find-spot.ensures.leads c.find-spot.ensures.goes_on c.in-Stored.is
    c.in-Err.error c.find-spot.ensures.some (c.in-Err.ensures.refused t)

pub returns-in_default : goal.returns-in_default
returns-in_default g c =
    let symbolic : IsSymbolic c.find-spot.result.target = symbolic_by c.find-spot.result.target c.in_default.not-Stored in
    let rest = drop c.min-run.result c.args.out.now in
    let taken : length (take c.min-run.result c.args.out.now) ≡ c.min-run.result = omega (arith, c.min-run.ensures, length-take c.min-run.result c.args.out.now) in
    let long : length c.fill.new.out ≡ c.min-run.result = c.fill.auto.out ∙ taken in
    record {
      some = omega (arith, c.min-run.ensures, c.find-spot.ensures.some, c.requires.some);
      few = omega (arith, c.min-run.ensures);
      bytes = λ t.
          symbol_piece (g.F.Folder.held c.args.folder.now) c.args.info.now c.args.map.now c.requires.fit (c.requires.there t) c.args.at c.find-spot.result c.find-spot.ensures.leads c.find-spot.ensures.goes_on
          c.min-run.result (c.fill.new.out ++ rest) symbolic (omega (arith, c.min-run.ensures))
          (λ k low.
          let below : k < length c.fill.new.out = omega (arith, low, long) in
          get_or-append c.fill.new.out rest 0 k below ∙ c.fill.ensures k below);
      refused = tt;
      same = λ t. refl;
      cause = record { later = omega arith; rose = λ h. absurd cc };
    }
