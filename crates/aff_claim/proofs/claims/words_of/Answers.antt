use Rattle.std.proofs.Common.{◌+◌, subst, sym, ap, ◌∙◌}
use Rattle.std.specs.Mem.Slots.{slots_items}
use Rattle.aff_claim.specs.Words.{Names, word_at}
use Rattle.aff_claim.proofs.ListLaws.{more_by_place}
use Rattle.aff_claim.proofs.Opening.{word_read}
use Rattle.std.proofs.lemmas.List.{length_push}
use Rattle.aff_claim.specs.declared.word.Word.TheVariants.{Free}
use Rattle.aff_claim.proofs.claims.words_of.Goals as goal

pub read_word-requires : goal.read_word-requires
read_word-requires c k named =
    let is = word_read (slots_items c.args.closed.now.words) c.loop-extent.extent c.claim_place.result c.word.result c.claim_place.ensures c.word.ensures in
    c.requires.numbers c.loop-extent.extent k c.loop-extent-test.true (subst (λ w. Names w k) (sym is) named)

pub loop-extent-preserved : goal.loop-extent-preserved
loop-extent-preserved c =
    let i = c.loop-extent.invariant in
    let items = c.loop-extent.words.items in
    let is = word_read (slots_items c.args.closed.now.words) c.loop-extent.extent c.claim_place.result c.word.result c.claim_place.ensures c.word.ensures in
    let push = c.in_ok-push.ensures.items in
    rw push (
      length_push items c.read_word.result ∙ ap (λ n. n + 1) i.0,
      more_by_place (word_at (slots_items c.args.closed.now.words)) items c.read_word.result Free c.loop-extent.extent i.0 i.1 (c.read_word.ensures ∙ sym is),
    )
