use Rattle.std.proofs.Common.{◌≡◌, ℕ, List, ◌+◌, ◌*◌, ◌%◌, ap, ◌∙◌, arith, slice_index}
use Rattle.std.proofs.lemmas.List.{map-set}
use Rattle.sha2.specs.Sha256.{IsWindow, add32, round_constants, schedule}
use Rattle.sha2.proofs.Schedule256.{IsWindow_next, window_word_at, window_word_place}
use Rattle.aff_lanes.specs.Lanes.{words}
use Rattle.aff_lanes.proofs.Groups.{both_at, more_words}
use Rattle.aff_lanes.proofs.sha256_hasher.next.Goals as goal

pub returns : goal.returns
returns c = λ j low b window has.
    let t = 16 * c.args.turn + c.args.place in
    let at : t % 16 ≡ c.args.place = omega arith in
    let w = words j c.args.w.now in
    let word = c.next_word-word.ensures in
    let value : slice_index c.next_word-word.result j ≡ slice_index (schedule b 48) t =
    word.value j low ∙ window_word_place w c.args.turn c.args.place ∙ window_word_at b w t (omega arith) (omega arith) window in
    let written = ap (words j) word.window ∙ map-set (λ (v : List ℕ). slice_index v j) c.args.w.now c.args.place c.next_word-word.result in
    let moved : IsWindow (words j c.next_word-word.new.w) (schedule b 48) (t + 1) =
    rw (written, value) (rw at at (IsWindow_next b w t (omega arith) (omega arith) window)) in
    let filled = more_words c.args.flat.now c.put.new.flat b j t (t + 1) low has (omega arith)
    (c.put.ensures.at j low ∙ ap (λ (x : ℕ). add32 x (slice_index round_constants t)) value) c.put.ensures.below in
    both_at c.put.new.flat (words j c.next_word-word.new.w) b j (t + 1) _ (omega arith) (moved, filled)
