use Rattle.std.proofs.Common.{refl}
use Rattle.aff_lanes.proofs.Lanes.{slice_index-words}
use Rattle.aff_lanes.proofs.sha1_lanes.next_word.Goals as goal

pub returns : goal.returns
returns c =
    let w = c.args.w.now in
    record {
      value = λ j low.
          rw (
            slice_index-words w j _,
            slice_index-words w j _,
            slice_index-words w j _,
            slice_index-words w j _,
            c.rotated_left-word.ensures j low,
            c.xor-3.ensures j low,
            c.xor-2.ensures j low,
            c.xor.ensures j low,
          ) refl;
      window = refl;
    }
