use Rattle.std.proofs.Common.{ℕ, List, ◌%◌, ap, sym, ◌∙◌, arith, slice_index}
use Rattle.std.proofs.lemmas.List.{map-set}
use Rattle.sha1.proofs.Schedule.{rounds_window, round_fn_choose, round_constant_choose, round_fn_parity, round_constant_parity, round_fn_majority, round_constant_majority, round_fn_last, round_constant_last}
use Rattle.aff_lanes.specs.Lanes.{five, lane_at, words}
use Rattle.aff_lanes.proofs.sha1_lanes.step.Goals as goal

pub returns-then-t-lt20 : goal.returns-then-t-lt20
returns-then-t-lt20 c = λ j low b h held.
    let word = c.next_word-word.ensures in
    let w = words j c.args.w.now in
    let v = c.args.v in
    let written = ap (words j) word.window ∙ map-set (λ (x : List ℕ). slice_index x j) c.args.w.now (c.args.t % 16) c.next_word-word.result in
    rounds_window b h w (five j v) c.args.t _ _ _ _ _ (omega arith) (omega arith) held.0 held.1 (word.value j low) written
    (c.ch_lanes.ensures j low ∙ sym (round_fn_choose c.args.t (lane_at v 1 j) (lane_at v 2 j) (lane_at v 3 j) (omega arith)))
    (sym (round_constant_choose c.args.t (omega arith))) (c.round_lanes.ensures j low)

pub returns-then-t-lt40 : goal.returns-then-t-lt40
returns-then-t-lt40 c = λ j low b h held.
    let word = c.next_word-word.ensures in
    let w = words j c.args.w.now in
    let v = c.args.v in
    let written = ap (words j) word.window ∙ map-set (λ (x : List ℕ). slice_index x j) c.args.w.now (c.args.t % 16) c.next_word-word.result in
    rounds_window b h w (five j v) c.args.t _ _ _ _ _ (omega arith) (omega arith) held.0 held.1 (word.value j low) written
    (c.parity_lanes.ensures j low ∙ sym (round_fn_parity c.args.t (lane_at v 1 j) (lane_at v 2 j) (lane_at v 3 j) (omega arith) (omega arith)))
    (sym (round_constant_parity c.args.t (omega arith) (omega arith))) (c.round_lanes-then-t-lt40.ensures j low)

pub returns-then-t-lt60 : goal.returns-then-t-lt60
returns-then-t-lt60 c = λ j low b h held.
    let word = c.next_word-word.ensures in
    let w = words j c.args.w.now in
    let v = c.args.v in
    let written = ap (words j) word.window ∙ map-set (λ (x : List ℕ). slice_index x j) c.args.w.now (c.args.t % 16) c.next_word-word.result in
    rounds_window b h w (five j v) c.args.t _ _ _ _ _ (omega arith) (omega arith) held.0 held.1 (word.value j low) written
    (c.maj_lanes.ensures j low ∙ sym (round_fn_majority c.args.t (lane_at v 1 j) (lane_at v 2 j) (lane_at v 3 j) (omega arith) (omega arith)))
    (sym (round_constant_majority c.args.t (omega arith) (omega arith))) (c.round_lanes-then-t-lt60.ensures j low)

pub returns-else-t-lt60 : goal.returns-else-t-lt60
returns-else-t-lt60 c = λ j low b h held.
    let word = c.next_word-word.ensures in
    let w = words j c.args.w.now in
    let v = c.args.v in
    let written = ap (words j) word.window ∙ map-set (λ (x : List ℕ). slice_index x j) c.args.w.now (c.args.t % 16) c.next_word-word.result in
    rounds_window b h w (five j v) c.args.t _ _ _ _ _ (omega arith) (omega arith) held.0 held.1 (word.value j low) written
    (c.parity_lanes-else-t-lt60.ensures j low ∙ sym (round_fn_last c.args.t (lane_at v 1 j) (lane_at v 2 j) (lane_at v 3 j) (omega arith)))
    (sym (round_constant_last c.args.t (omega arith))) (c.round_lanes-else-t-lt60.ensures j low)
