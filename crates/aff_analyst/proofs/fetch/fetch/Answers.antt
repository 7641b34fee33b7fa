use Rattle.std.proofs.Common.{◌≡◌, IsTrue, get_or, refl, sym, ap, ◌∙◌}
use Rattle.std.proofs.lemmas.Bool.{false≢true}
use Rattle.aff_analyst.proofs.Fetching.{fetched_chunk, on_ok, other_chunk}
use Rattle.aff_analyst.proofs.fetch.fetch.Goals as goal

pub returns-then-not-is_sum-clause-fault : goal.returns-then-not-is_sum-clause-fault
returns-then-not-is_sum-clause-fault g c = (
  refl,
  other_chunk g.R.Telling.receipt_tells g.R.Telling.told c.args.piece.now c.args.stored c.index.result.now c.index-2.result.now c.sum_of-found.result c.fetch.new.out
      c.requires.receipt c.requires.digest
      (c.index.ensures ∙ ap (λ q. get_or q.receipts c.args.stored c.index.result.now) c.piece.view_is)
      (c.index-2.ensures ∙ ap (λ q. get_or q.digests c.args.stored c.index-2.result.now) c.piece.view_is)
      (c.fetch.auto.out ∙ c.requires.room) c.sum_of-found.ensures
      (λ e. false≢true (sym c.if-not-is_sum.true ∙ c.is_sum.ensures.1 e))
      (on_ok c.fetch.result _ (sym c.is_err.ensures.value ∙ c.if-is_err.false) c.fetch.ensures.bytes)
      c.requires.told,
)

pub returns-clause-fetched : goal.returns-clause-fetched
returns-clause-fetched g c =
    fetched_chunk g.R.Telling.receipt_tells g.R.Telling.told c.args.piece.now c.args.stored c.index.result.now c.index-2.result.now c.sum_of-found.result c.fetch.new.out
    c.requires.receipt c.requires.digest
    (c.index.ensures ∙ ap (λ q. get_or q.receipts c.args.stored c.index.result.now) c.piece.view_is)
    (c.index-2.ensures ∙ ap (λ q. get_or q.digests c.args.stored c.index-2.result.now) c.piece.view_is)
    (c.fetch.auto.out ∙ c.requires.room) c.sum_of-found.ensures
    (c.is_sum.ensures.0 c.if-not-is_sum.false)
    (on_ok c.fetch.result _ (sym c.is_err.ensures.value ∙ c.if-is_err.false) c.fetch.ensures.bytes)
