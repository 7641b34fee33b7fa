use Rattle.std.proofs.Common.{◌≡◌, ℕ, List, [], length, slice_index_or, ap, sym, ◌∙◌, arith}
use Rattle.md5.specs.Md5.{digest_bytes, md5}
use Rattle.aff_lanes.specs.Lanes.{four}
use Rattle.aff_lanes.specs.Messages.{text}
use Rattle.aff_lanes.proofs.Digests.{md5_done}
use Rattle.aff_lanes.proofs.Messages.{All-text, map-lanes}
use Rattle.aff_lanes.proofs.md5_lanes.md5_of_four.Goals as goal

pub absorb-requires-clause-there : goal.absorb-requires-clause-there
absorb-requires-clause-there c = λ k d low. omega (arith, c.requires k d low, c.length_of-len.ensures)

pub absorb-requires-2-clause-there : goal.absorb-requires-2-clause-there
absorb-requires-2-clause-there c = λ k d low. omega (arith, c.slices.ensures.lengths k d low)

pub returns : goal.returns
returns c =
    let messages = c.args.messages.now in
    c.digests.ensures
    ∙ map-lanes md5 (λ j. digest_bytes (four j c.absorb-2.new.state) 4) messages c.told-messages
    (λ j low.
    let m = text messages j in
    let end = slice_index_or c.ends_of-ends.result j [] in
    let len : length (text messages 0) ≡ length m = sym (All-text (λ x. length x ≡ length (text messages 0)) messages c.requires j (omega arith)) in
    md5_done m _ end (four j c.absorb.new.state) (four j c.absorb-2.new.state) _ _ (c.length_of-len.ensures ∙ len) c.end_count.ensures c.to_le_bytes.ensures (c.ends_of-ends.ensures j low)
    (λ whole q is has. c.absorb.ensures j low whole q (c.start-state.ensures j low ∙ is) has)
    (λ whole q is has. c.absorb-2.ensures j low whole q is (rw (ap (λ (ends : List (List ℕ)). slice_index_or ends j []) c.slices.ensures.texts) has)))
