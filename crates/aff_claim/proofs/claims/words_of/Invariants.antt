use Rattle.std.proofs.Common.{◌≡◌, ℕ, ◌<◌, length, slice_index_or}
use Rattle.std.specs.Mem.Slots.{slots_items}
use Rattle.aff_claim.specs.declared.word.Word.TheVariants.{Free}
use Rattle.aff_claim.specs.Words.{word_at}
use Rattle.aff_claim.proofs.claims.words_of.Given as goal

abbrev pub invariant-loop-extent : goal.invariant-loop-extent
invariant-loop-extent l = (length l.words.items ≡ l.extent) × ((e : ℕ) → e < l.extent → slice_index_or l.words.items e Free ≡ word_at (slots_items l.closed.words) e)
