use Rattle.std.proofs.Common.{◌∙◌, refl}
use Rattle.aff_blockhash.proofs.Comparing.{same_digest, kept_filled, found_filled}
use Rattle.aff_blockhash.proofs.recorded.check.Goals as goal

pub returns-then-eq-clause-same : goal.returns-then-eq-clause-same
returns-then-eq-clause-same c =
    let same = same_digest c.args.kind c.args.recorded.now c.args.place c.args.bytes.now c.size_of-size.result c.digest-found.result.bytes c.eq.result c.size_of-size.ensures c.digest-found.ensures.bytes c.eq.ensures in
    (λ _. same.0 c.if-eq.true, λ _. refl)

pub returns-else-eq-clause-same : goal.returns-else-eq-clause-same
returns-else-eq-clause-same c =
    let same = same_digest c.args.kind c.args.recorded.now c.args.place c.args.bytes.now c.size_of-size.result c.digest-found.result.bytes c.eq.result c.size_of-size.ensures c.digest-found.ensures.bytes c.eq.ensures in
    (λ e. cc, λ e. let both = same.1 e in let not = c.if-eq.false in cc)

pub returns-else-eq-clause-differs : goal.returns-else-eq-clause-differs
returns-else-eq-clause-differs c =
    let same = same_digest c.args.kind c.args.recorded.now c.args.place c.args.bytes.now c.size_of-size.result c.digest-found.result.bytes c.eq.result c.size_of-size.ensures c.digest-found.ensures.bytes c.eq.ensures in (
      λ e. let both = same.1 e in let not = c.if-eq.false in cc,
      record { of_kind = refl; filled_up = c.padded.ensures ∙ kept_filled c.args.kind c.args.recorded.now c.args.place c.size_of-size.result c.size_of-size.ensures },
      record { of_kind = c.digest-found.ensures.kind; filled_up = c.digest-found.ensures.bytes ∙ found_filled c.args.kind c.args.bytes.now },
    )
