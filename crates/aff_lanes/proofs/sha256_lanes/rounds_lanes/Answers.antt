use Rattle.std.proofs.Common.{refl, ap}
use Rattle.sha2.specs.Sha256.{add_state, rounds}
use Rattle.aff_lanes.specs.Lanes.{eight}
use Rattle.aff_lanes.proofs.sha256_lanes.rounds_lanes.Goals as goal

pub returns : goal.returns
unfolding rounds
returns c = λ j low b window.
    let h = eight j c.args.state.now in
    let f1 = c.first_four_steps-v.ensures j low b h window refl in
    let f2 = c.first_four_steps-v-2.ensures j low b h window f1 in
    let f3 = c.first_four_steps-v-3.ensures j low b h window f2 in
    let f4 = c.first_four_steps-v-4.ensures j low b h window f3 in
    let s1 = c.four_steps-v.ensures j low b h (window, f4) in
    let s2 = c.four_steps-v-2.ensures j low b h s1 in
    let s3 = c.four_steps-v-3.ensures j low b h s2 in
    let s4 = c.four_steps-v-4.ensures j low b h s3 in
    let s5 = c.four_steps-v-5.ensures j low b h s4 in
    let s6 = c.four_steps-v-6.ensures j low b h s5 in
    let s7 = c.four_steps-v-7.ensures j low b h s6 in
    let s8 = c.four_steps-v-8.ensures j low b h s7 in
    let s9 = c.four_steps-v-9.ensures j low b h s8 in
    let s10 = c.four_steps-v-10.ensures j low b h s9 in
    let s11 = c.four_steps-v-11.ensures j low b h s10 in
    let s12 = c.four_steps-v-12.ensures j low b h s11 in
    rw (
      c.add.ensures j low,
      c.add-2.ensures j low,
      c.add-3.ensures j low,
      c.add-4.ensures j low,
      c.add-5.ensures j low,
      c.add-6.ensures j low,
      c.add-7.ensures j low,
      c.add-8.ensures j low,
    )
    (ap (add_state h) s12.1)
