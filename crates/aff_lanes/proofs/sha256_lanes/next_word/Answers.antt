use Rattle.std.proofs.Common.{◌≡◌, ◌%◌, arith, refl}
use Rattle.aff_lanes.proofs.Lanes.{slice_index-words}
use Rattle.aff_lanes.proofs.sha256_lanes.next_word.Goals as goal

pub returns : goal.returns
returns c =
    let at : c.args.place % 16 ≡ c.args.place = omega arith in
    let w = c.args.w.now in
    record {
      value = λ j low.
          rw (
            at,
            slice_index-words w j _,
            slice_index-words w j _,
            slice_index-words w j _,
            slice_index-words w j _,
            c.add-word.ensures j low,
            c.add-2.ensures j low,
            c.add.ensures j low,
            c.small_sigma1_lanes.ensures j low,
            c.small_sigma0_lanes.ensures j low,
          ) refl;
      window = refl;
    }
