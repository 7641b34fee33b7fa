use Rattle.std.proofs.Common.{ℕ, List, ap, sym, ◌∙◌}
use Rattle.md5.specs.Md5.{word_at}
use Rattle.aff_lanes.proofs.Lanes.{below_four}
use Rattle.aff_lanes.proofs.Messages.{text_at}
use Rattle.aff_lanes.proofs.words.words_le.Goals as goal

pub returns : goal.returns
returns c =
    let at = λ (m : List ℕ). word_at m c.args.at in
    let messages = c.args.messages.now in
    below_four _ (c.load_le.ensures ∙ ap at (sym (text_at messages 0))) (c.load_le-2.ensures ∙ ap at (sym (text_at messages 1)))
    (c.load_le-3.ensures ∙ ap at (sym (text_at messages 2))) (c.load_le-4.ensures ∙ ap at (sym (text_at messages 3)))
