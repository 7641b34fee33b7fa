use Rattle.std.proofs.Common.{◌≡◌, ℕ, ◌<◌, false, length, map, sym, ap, subst, subst₂, ◌∙◌, arith}
use Rattle.std.specs.Prelude.{All}
use Rattle.aff_model.specs.Plan.{chunk_count}
use Rattle.aff_spec.proofs.Appends.{Reaches-start}
use Rattle.aff_spec.specs.Bevvies.{more_appends}
use Rattle.aff_hash.specs.Chosen.{chosen_sums}
use Rattle.aff_extent.specs.Drafts.{Drafted, stored_from}
use Rattle.aff_extent.proofs.Stored.{stored_below, stored_few}
use Rattle.aff_store.specs.Pieces.{ArePlaces, chosen_chunks}
use Rattle.aff_store.proofs.Chosen.{sha256_of_chosen}
use Rattle.aff_store.proofs.stream.Stream.put.Goals as goal

pub returns-in-Err-clause-part : goal.returns-in-Err-clause-part
returns-in-Err-clause-part g c = λ t. Reaches-start (g.F.Folder.held c.args.folder.now) (more_appends c.args.self.now.urn c.args.self.now.chunks (chosen_chunks c.args.bytes.now c.args.draft.stored))

pub returns-in-Err-digests_of-clause-part : goal.returns-in-Err-digests_of-clause-part
returns-in-Err-digests_of-clause-part g c = λ t. Reaches-start (g.F.Folder.held c.args.folder.now) (more_appends c.args.self.now.urn c.args.self.now.chunks (chosen_chunks c.args.bytes.now c.args.draft.stored))

pub append_chosen-requires-clause-few : goal.append_chosen-requires-clause-few
append_chosen-requires-clause-few g c κs within =
    let are : c.deref-3.result.now ≡ stored_from 0 c.args.draft.cuts = c.deref-3.ensures.value ∙ ap (λ (v : Drafted). v.stored) c.draft.view_is ∙ c.requires.chosen in
    omega (arith, ap length are, stored_few 0 c.args.draft.cuts, c.requires.few)

pub append_chosen-requires-clause-there : goal.append_chosen-requires-clause-there
append_chosen-requires-clause-there g c κs within =
    let n : ℕ = chunk_count (length c.args.bytes.now) in
    let are : c.deref-3.result.now ≡ stored_from 0 c.args.draft.cuts = c.deref-3.ensures.value ∙ ap (λ (v : Drafted). v.stored) c.draft.view_is ∙ c.requires.chosen in
    subst (All (λ x. x < n)) (sym are) (stored_below n 0 c.args.draft.cuts (omega (arith, c.requires.count)))

pub returns-clause-piece : goal.returns-clause-piece
returns-clause-piece g c =
    let d = c.draft.view_is in
    let cuts : c.deref.result.now ≡ c.args.draft.cuts = c.deref.ensures.value ∙ ap (λ (v : Drafted). v.cuts) d in
    let chosen : c.deref-3.result.now ≡ c.args.draft.stored = c.deref-3.ensures.value ∙ ap (λ (v : Drafted). v.stored) d in
    let sums : c.deref-2.result.now ≡ chosen_sums c.args.bytes.now c.args.draft.stored = c.deref-2.ensures.value ∙ ap (λ (v : Drafted). v.sums) d ∙ c.requires.digests in
    record {
      is = ap (λ b. record { extent = c.args.claim.extent; claimant = c.args.claim.claimant; swept = c.args.claim.swept; bad = b; places = c.in-Ok.places.items }) (ap (λ (v : Drafted). v.unreadable) d);
      placed = subst₂ (λ n v. ArePlaces n v c.in-Ok.places.items) (c.count.ensures c.requires.going) cuts c.in-Ok.ensures;
      digests = c.in-Ok-digests_of.ensures ∙ ap (map (λ s. s.sha256)) sums ∙ sha256_of_chosen c.args.bytes.now c.args.draft.stored;
      receipts = c.in-Ok-append_chosen.ensures.count ∙ ap length chosen;
      told_chunks = λ t. c.in-Ok-append_chosen.ensures.told t ∙ ap (chosen_chunks c.args.bytes.now) chosen;
    }
