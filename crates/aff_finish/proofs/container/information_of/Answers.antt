use Rattle.std.proofs.Common.{sym, subst, ap, ◌∙◌}
use Rattle.aff_turtle.specs.Written.{AreFacts}
use Rattle.aff_info.specs.Writing.{facts_of}
use Rattle.aff_finish.proofs.Facts.{can_be_written}
use Rattle.aff_finish.proofs.container.information_of.Goals as goal

pub write-requires : goal.write-requires
write-requires c =
    subst AreFacts (sym (c.deref.ensures.value ∙ c.in_ok-triples.ensures ∙ ap facts_of c.in_ok-info.ensures))
    (can_be_written c.args.uuid.now c.args.size c.args.chunks c.args.hashes.now c.requires.uuid c.requires.small c.requires.few)
