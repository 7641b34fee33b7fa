-- The claim rule: what holds of a claim table between any two steps, whatever the passes do.
use Rattle.std.specs.Prelude.{◌≡◌, ◌≢◌, ◌↔◌, ℕ, ◌<◌, ◌≤◌, true, false, List, [], length, All, AllPairs, Contains, Some, slice_index_or}
use mathlib.Core.Option.{some}
use lib.ListN.{get_elem?}
use Rattle.atomic_table.specs.Table.{State}
use Rattle.aff_claim.specs.declared.view.BookView.{BookView}
use Rattle.aff_claim.specs.declared.view.Limits.{Limits}
use Rattle.aff_claim.specs.declared.view.PassView.{PassView}
use Rattle.aff_claim.specs.declared.view.View.{View}
use Rattle.aff_claim.specs.declared.word.Word.{Word}
use Rattle.aff_claim.specs.declared.word.Word.TheVariants.{Free}
use Rattle.aff_claim.specs.Demands.{AreDemands}
use Rattle.aff_claim.specs.Words.{Names, IsPublished, drawn_count, word_at, word_count}

-- a list has no element twice
abbrev pub IsOnce : List ℕ → Type 0
IsOnce xs = AllPairs (λ x y. x ≢ y) xs

-- a claim word names no number above that of the workers, which is the sweep's, and of the others one that was drawn
abbrev pub MayStand : ℕ → ℕ → Word → Type 0
MayStand workers drawn w = (k : ℕ) → Names w k → (k ≤ workers) × (k < workers → k < drawn)

-- what holds of a pass, by the count of numbers drawn and the claim word of each extent: a worker's pass has exactly the
-- extents whose words name it, and any other pass has none
pub record IsPass (limits : Limits) (drawn : ℕ) (word : ℕ → Word) (p : PassView) : Type 0 where
  pub number : p.number < drawn
  pub mine : p.number < limits.workers → (e : ℕ) → Contains p.mine e ↔ ((e < limits.extents) × Names (word e) p.number)
  pub others : limits.workers ≤ p.number → p.mine ≡ []
  pub once : IsOnce p.mine
  pub within : (e : ℕ) → Contains p.mine e → Contains p.known e
  pub known : (e : ℕ) → Contains p.known e → (e < limits.extents) × (word e ≢ Free)

-- what the book has seen and done: it published exactly the extents whose words are published, each once, and the words of
-- the claims that it holds name their numbers
pub record HasBooked (extents : ℕ) (word : ℕ → Word) (b : BookView) : Type 0 where
  pub out : (e : ℕ) → Contains b.out e ↔ ((e < extents) × IsPublished (word e))
  pub once : IsOnce b.out
  pub held : (e k : ℕ) → Contains b.held (e, k) → (e < extents) × Names (word e) k

-- a number that was drawn and given to no pass: the book's seat is its owner, and no claim word names it
pub record IsSpare (limits : Limits) (drawn : ℕ) (word : ℕ → Word) (owner : ℕ → ℕ) (seat k : ℕ) : Type 0 where
  pub number : k < drawn
  pub owned : owner k ≡ seat
  pub unnamed : k < limits.workers → (e : ℕ) → e < limits.extents → ¬ Names (word e) k

pub record IsBook (limits : Limits) (drawn : ℕ) (word : ℕ → Word) (owner : ℕ → ℕ) (seat : ℕ) (b : BookView) : Type 0 where
  pub made : drawn ≡ b.made
  pub spare : (k : ℕ) → b.drawn ≡ Some k → IsSpare limits drawn word owner seat k
  pub booked : HasBooked limits.extents word b

-- a seat is the book's, of which there is one, or that of a pass, which owns its number
pub record IsSeat (limits : Limits) (drawn : ℕ) (word : ℕ → Word) (owner : ℕ → ℕ) (desk seat : ℕ) (v : View) : Type 0 where
  pub extents : v.extents ≡ limits.extents
  pub workers : v.workers ≡ limits.workers
  pub a_book : v.is_book ≡ true → (seat ≡ desk) × IsBook limits drawn word owner seat v.book
  pub a_pass : v.is_book ≡ false → (owner v.pass.number ≡ seat) × IsPass limits drawn word v.pass

-- the rule of the claim words: there is one seat for the book, an owner for each number, so that no two passes share one, and
-- each word and each seat is as it says
pub record AreClaims {S : Type 0} (limits : Limits) (s : State S View) : Type 0 where
  pub desk : ℕ
  pub owner : ℕ → ℕ
  pub width : length s.words ≡ word_count limits.extents
  pub words : (e : ℕ) → e < limits.extents → MayStand limits.workers (drawn_count s.words) (word_at s.words e)
  pub seats : (seat : ℕ) (v : View) → get_elem? s.views seat ≡ some v
      → IsSeat limits (drawn_count s.words) (word_at s.words) owner desk seat v

-- the rule
pub record IsClaimTable {S : Type 0} (limits : Limits) (s : State S View) : Type 0 where
  pub claims : AreClaims limits s
  pub demands : AreDemands limits s

-- the claim words of a table that is closed, by the last view of its book
pub record AreLastWords (extents workers : ℕ) (b : BookView) (words : List Word) : Type 0 where
  pub count : length words ≡ extents
  pub each : All (MayStand workers b.made) words
  pub booked : HasBooked extents (λ e. slice_index_or words e Free) b
