-- The kinds of step: what each changes of the view of the seat that steps, and what it tells beside.
use Rattle.std.specs.Prelude.{◌≡◌, ◌≢◌, ◌↔◌, ℕ, ◌+◌, ◌/◌, ◌%◌, ◌^◌, ◌≤◌, List, [], ◌∷◌, ◌++◌, Contains, Some, Bool, true, false, ◌==◌}
use Rattle.atomic_table.specs.Table.{Me, Step}
use Rattle.aff_claim.specs.declared.view.BookView.{BookView}
use Rattle.aff_claim.specs.declared.view.PassView.{PassView}
use Rattle.aff_claim.specs.declared.view.View.{View}
use Rattle.aff_claim.specs.declared.word.Word.{Word}
use Rattle.aff_claim.specs.declared.word.Word.TheVariants.{Free, Claimed, Published}
use Rattle.aff_claim.specs.Demands.{ArePlanned, Has}
use Rattle.aff_claim.specs.Words.{Names, IsPublished, number_of, word_of, claim_place, demand_place}

-- the book draws a number
abbrev pub drew : BookView → ℕ → BookView
drew b k = record b { made = b.made + 1; drawn = Some k }

-- a pass that finds an extent taken knows it
abbrev pub knowing : List ℕ → ℕ → Word → List ℕ
knowing known e Free = known
knowing known e (Claimed k) = known ++ e ∷ []
knowing known e (Published k) = known ++ e ∷ []

-- a pass loads the claim word of an extent
abbrev pub looked : PassView → ℕ → Word → PassView
looked p e w = record p { known = knowing p.known e w; found = p.found ++ (e, w) ∷ [] }

-- a pass exchanges the claim word of an extent: it has claimed the extent where the word was free
abbrev pub tried : PassView → ℕ → Word → PassView
tried p e Free = record p {
  mine = p.mine ++ e ∷ [];
  known = p.known ++ e ∷ [];
  looked = [];
  last = record { looked = p.looked; known = p.known };
  found = p.found ++ (e, Free) ∷ [];
}
tried p e (Claimed k) = looked p e (Claimed k)
tried p e (Published k) = looked p e (Published k)

-- a pass asks for an extent
abbrev pub raising : PassView → ℕ → PassView
raising p e = record p { raised = p.raised ++ e ∷ [] }

-- a pass loads a demand word
abbrev pub demands_looked : PassView → ℕ → ℕ → PassView
demands_looked p d bits = record p { looked = p.looked ++ (d, bits) ∷ [] }

-- the book keeps what it finds claimed
abbrev pub holding : List (ℕ × ℕ) → ℕ → Word → List (ℕ × ℕ)
holding held e Free = held
holding held e (Claimed k) = held ++ (e, k) ∷ []
holding held e (Published k) = held

-- the book loads the claim word of an extent
abbrev pub book_looked : BookView → ℕ → Word → BookView
book_looked b e w = record b { held = holding b.held e w; found = b.found ++ (e, w) ∷ [] }

-- the book exchanges the claim of a number for its publication: it has published the extent where the word was that claim
abbrev pub published_if : Bool → BookView → ℕ → ℕ → BookView
published_if true b e k = record b { out = b.out ++ e ∷ []; found = b.found ++ (e, Claimed k) ∷ [] }
published_if false b e k = record b { found = b.found ++ (e, Claimed k) ∷ [] }

abbrev pub published : BookView → ℕ → ℕ → Word → BookView
published b e k Free = record b { found = b.found ++ (e, Free) ∷ [] }
published b e k (Claimed number) = published_if (number == k) b e number
published b e k (Published number) = record b { found = b.found ++ (e, Published number) ∷ [] }

-- the book claims an extent that no worker had: its number is that of the workers
abbrev pub swept : BookView → ℕ → ℕ → Word → BookView
swept b e workers Free = record b { held = b.held ++ (e, workers) ∷ []; found = b.found ++ (e, Free) ∷ [] }
swept b e workers (Claimed k) = book_looked b e (Claimed k)
swept b e workers (Published k) = book_looked b e (Published k)

-- what the word is after that
abbrev pub swept_word : ℕ → Word → Word
swept_word workers Free = Claimed workers
swept_word workers (Claimed k) = Claimed k
swept_word workers (Published k) = Published k

-- what a pass is told of a claim word that it finds
pub record TellsPass (v : View) (e : ℕ) (w : Word) : Type 0 where
  pub number : (k : ℕ) → Names w k → k ≤ v.workers
  pub mine : Contains v.pass.mine e → Names w v.pass.number
  pub known : Contains v.pass.known e → w ≢ Free

-- what the book is told of a claim word that it finds
pub record TellsBook (v : View) (e : ℕ) (w : Word) : Type 0 where
  pub number : (k : ℕ) → Names w k → k ≤ v.workers
  pub out : Contains v.book.out e ↔ IsPublished w
  pub held : (k : ℕ) → Contains v.book.held (e, k) → Names w k

-- what a pass is told of a demand word that it finds: it asks for extents of the plan, and has each bit that was found in
-- it before
pub record TellsDemands (v : View) (d bits : ℕ) : Type 0 where
  pub planned : ArePlanned v.extents d bits
  pub before : (old i : ℕ) → Contains v.pass.looked (d, old) → Has old i → Has bits i

-- Each kind is a relation between the step, the seat before, the number found and the seat after.
module _ {S : Type 0} where
  -- of a step on the claim word of the extent e
  abbrev pub Of : Step S → (ℕ → Type 0) → Type 0
  Of st told = (e : ℕ) → st.word ≡ claim_place e → told e

  abbrev pub registers : Step S → Me S View → ℕ → Me S View → Type 0
  registers st m n m' = (m' ≡ (record m.0 { book = drew m.0.book n }, m.1)) × (n ≡ m.0.book.made)

  -- the cursor tells nothing
  abbrev pub turns : Step S → Me S View → ℕ → Me S View → Type 0
  turns st m n m' = m' ≡ m

  abbrev pub claims : Step S → Me S View → ℕ → Me S View → Type 0
  claims st m n m' = Of st (λ e. (m' ≡ (record m.0 { pass = tried m.0.pass e (word_of n) }, m.1)) × TellsPass m.0 e (word_of n))

  abbrev pub loads : Step S → Me S View → ℕ → Me S View → Type 0
  loads st m n m' = Of st (λ e. (m' ≡ (record m.0 { pass = looked m.0.pass e (word_of n) }, m.1)) × TellsPass m.0 e (word_of n))

  abbrev pub book_loads : Step S → Me S View → ℕ → Me S View → Type 0
  book_loads st m n m' = Of st (λ e. (m' ≡ (record m.0 { book = book_looked m.0.book e (word_of n) }, m.1)) × TellsBook m.0 e (word_of n))

  abbrev pub publishes : Step S → Me S View → ℕ → Me S View → Type 0
  publishes st m n m' = Of st (λ e. (k : ℕ) → st.first ≡ number_of (Claimed k) → (m' ≡ (record m.0 { book = published m.0.book e k (word_of n) }, m.1)) × TellsBook m.0 e (word_of n))

  abbrev pub sweeps : Step S → Me S View → ℕ → Me S View → Type 0
  sweeps st m n m' = Of st (λ e. (m' ≡ (record m.0 { book = swept m.0.book e m.0.workers (word_of n) }, m.1)) × TellsBook m.0 e (word_of n))

  -- a step on the demand word of an extent, with its bit
  abbrev pub raises : Step S → Me S View → ℕ → Me S View → Type 0
  raises st m n m' = (e : ℕ) → st.word ≡ demand_place m.0.extents (e / 64) → st.first ≡ 2 ^ (e % 64) → m' ≡ (record m.0 { pass = raising m.0.pass e }, m.1)

  abbrev pub demand_loads : Step S → Me S View → ℕ → Me S View → Type 0
  demand_loads st m n m' = (d : ℕ) → st.word ≡ demand_place m.0.extents d → (m' ≡ (record m.0 { pass = demands_looked m.0.pass d n }, m.1)) × TellsDemands m.0 d n
