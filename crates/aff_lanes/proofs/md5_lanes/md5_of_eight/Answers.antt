use Rattle.std.proofs.Common.{◌≡◌, ℕ, List, [], length, map, slice_index_or, All, Bor, ap, sym, ◌∙◌, arith}
use Rattle.std.proofs.lemmas.List.{length-drop, length-take-le}
use Rattle.md5.specs.Md5.{digest_bytes, md5}
use Rattle.aff_lanes.specs.Lanes.{four, lanes}
use Rattle.aff_lanes.specs.Messages.{text, texts}
use Rattle.aff_lanes.proofs.Digests.{md5_done}
use Rattle.aff_lanes.proofs.Messages.{All-text, both_halves, first_length, last_length, map-lanes}
use Rattle.aff_lanes.proofs.md5_lanes.md5_of_eight.Goals as goal

pub absorb_twice-requires-clause-first : goal.absorb_twice-requires-clause-first
absorb_twice-requires-clause-first c =
    let messages = c.args.messages.now in
    let lengths : All (λ (m : Bor (List ℕ)). length m.now ≡ length (text messages 0)) c.first_four-first.result = rw c.first_four-first.ensures (first_length messages c.told-messages c.requires) in
    λ k d low. omega (arith, lengths k d low, c.length_of-len.ensures)

pub absorb_twice-requires-clause-last : goal.absorb_twice-requires-clause-last
absorb_twice-requires-clause-last c =
    let messages = c.args.messages.now in
    let lengths : All (λ (m : Bor (List ℕ)). length m.now ≡ length (text messages 0)) c.last_four-last.result = rw c.last_four-last.ensures (last_length messages c.told-messages c.requires) in
    λ k d low. omega (arith, lengths k d low, c.length_of-len.ensures)

pub absorb_twice-requires-2-clause-first : goal.absorb_twice-requires-2-clause-first
absorb_twice-requires-2-clause-first c = λ k d low. omega (arith, c.slices.ensures.lengths k d low)

pub absorb_twice-requires-2-clause-last : goal.absorb_twice-requires-2-clause-last
absorb_twice-requires-2-clause-last c = λ k d low. omega (arith, c.slices-2.ensures.lengths k d low)

pub returns : goal.returns
returns c =
    let messages = c.args.messages.now in
    let first_lengths : All (λ (m : Bor (List ℕ)). length m.now ≡ length (text messages 0)) c.first_four-first.result = rw c.first_four-first.ensures (first_length messages c.told-messages c.requires) in
    let first_count : length c.first_four-first.result ≡ 4 = rw c.first_four-first.ensures (omega (arith, length-take-le 4 messages (omega arith))) in
    let near : map (λ j. digest_bytes (four j c.absorb_twice-2.new.near) 4) lanes ≡ map md5 (texts c.first_four-first.result) =
    map-lanes md5 (λ j. digest_bytes (four j c.absorb_twice-2.new.near) 4) c.first_four-first.result first_count
    (λ j low.
    let m = text c.first_four-first.result j in
    let end = slice_index_or c.ends_of-first.result j [] in
    let len : length (text messages 0) ≡ length m = sym (All-text (λ x. length x ≡ length (text messages 0)) c.first_four-first.result first_lengths j (omega arith)) in
    md5_done m _ end (four j c.absorb_twice.new.near) (four j c.absorb_twice-2.new.near) _ _ (c.length_of-len.ensures ∙ len) c.end_count.ensures c.to_le_bytes-bits.ensures (c.ends_of-first.ensures j low)
    (λ whole q is has. c.absorb_twice.ensures.near j low whole q (c.start-near.ensures j low ∙ is) has)
    (λ whole q is has. c.absorb_twice-2.ensures.near j low whole q is (rw (ap (λ (ends : List (List ℕ)). slice_index_or ends j []) c.slices.ensures.texts) has))) in
    let last_lengths : All (λ (m : Bor (List ℕ)). length m.now ≡ length (text messages 0)) c.last_four-last.result = rw c.last_four-last.ensures (last_length messages c.told-messages c.requires) in
    let last_count : length c.last_four-last.result ≡ 4 = rw c.last_four-last.ensures (omega (arith, length-drop 4 messages)) in
    let far : map (λ j. digest_bytes (four j c.absorb_twice-2.new.far) 4) lanes ≡ map md5 (texts c.last_four-last.result) =
    map-lanes md5 (λ j. digest_bytes (four j c.absorb_twice-2.new.far) 4) c.last_four-last.result last_count
    (λ j low.
    let m = text c.last_four-last.result j in
    let end = slice_index_or c.ends_of-last.result j [] in
    let len : length (text messages 0) ≡ length m = sym (All-text (λ x. length x ≡ length (text messages 0)) c.last_four-last.result last_lengths j (omega arith)) in
    md5_done m _ end (four j c.absorb_twice.new.far) (four j c.absorb_twice-2.new.far) _ _ (c.length_of-len.ensures ∙ len) c.end_count.ensures c.to_le_bytes-bits.ensures (c.ends_of-last.ensures j low)
    (λ whole q is has. c.absorb_twice.ensures.far j low whole q (c.start-far.ensures j low ∙ is) has)
    (λ whole q is has. c.absorb_twice-2.ensures.far j low whole q is (rw (ap (λ (ends : List (List ℕ)). slice_index_or ends j []) c.slices-2.ensures.texts) has))) in
    rw (c.joined.ensures, c.digests.ensures ∙ near, c.digests-2.ensures ∙ far, c.first_four-first.ensures, c.last_four-last.ensures) (both_halves md5 messages)
