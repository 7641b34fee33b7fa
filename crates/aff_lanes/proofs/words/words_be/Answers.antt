use Rattle.std.proofs.Common.{ℕ, List, ap, sym, ◌∙◌}
use Rattle.sha2.specs.Sha256.{word_at}
use Rattle.aff_lanes.proofs.Lanes.{below_four}
use Rattle.aff_lanes.proofs.Messages.{text_at}
use Rattle.aff_lanes.proofs.words.words_be.Goals as goal

pub returns : goal.returns
returns c =
    let at = λ (m : List ℕ). word_at m c.args.at in
    let messages = c.args.messages.now in
    below_four _ (c.load_be.ensures ∙ ap at (sym (text_at messages 0))) (c.load_be-2.ensures ∙ ap at (sym (text_at messages 1)))
    (c.load_be-3.ensures ∙ ap at (sym (text_at messages 2))) (c.load_be-4.ensures ∙ ap at (sym (text_at messages 3)))
