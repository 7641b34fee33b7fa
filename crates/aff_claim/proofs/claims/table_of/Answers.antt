use Rattle.std.proofs.Common.{◌≡◌, subst, sym, ◌∙◌, [], List, ℕ}
use Rattle.atomic_table.specs.Table.{opening}
use Rattle.aff_claim.specs.declared.view.Limits.{Limits}
use Rattle.aff_claim.specs.Rule.{IsClaimTable}
use Rattle.aff_claim.specs.Views.{first_view}
use Rattle.aff_claim.proofs.Opening.{opens}
use Rattle.aff_claim.proofs.ListLaws.{free_words}
use Rattle.aff_claim.proofs.claims.table_of.Goals as goal

pub of_words-requires : goal.of_words-requires
of_words-requires c =
    let limits : Limits = record { extents = c.len-extents.result; workers = c.from.result } in
    let words : c.as_slice.result.now ≡ free_words c.word_count.result = c.as_slice.ensures.value ∙ c.in_ok-words.ensures in
    subst (λ (ws : List ℕ). IsClaimTable limits (opening ws [] (first_view limits))) (sym words) (opens limits c.word_count.result c.word_count.ensures)
