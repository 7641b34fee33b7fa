-- Claim words: what they say, which numbers stand for them, and where the table has them.
use Rattle.std.specs.Prelude.{◌≡◌, ℕ, ◌+◌, ◌-◌, ◌*◌, ◌/◌, ◌%◌, ◌==◌, ⊤, List, slice_index, if◌then◌else◌}
use Rattle.aff_claim.specs.declared.word.Word.{Word}
use Rattle.aff_claim.specs.declared.word.Word.TheVariants.{Free, Claimed, Published}

-- the word names this number
abbrev pub Names : Word → ℕ → Type 0
Names Free k = ⊥
Names (Claimed number) k = number ≡ k
Names (Published number) k = number ≡ k

abbrev pub IsPublished : Word → Type 0
IsPublished Free = ⊥
IsPublished (Claimed number) = ⊥
IsPublished (Published number) = ⊤

-- the number that stands for a word in the table
abbrev pub number_of : Word → ℕ
number_of Free = 0
number_of (Claimed k) = 2 * k + 1
number_of (Published k) = 2 * k + 2

-- the word for which a number stands
abbrev pub word_of : ℕ → Word
word_of n = if n == 0 then Free else (if n % 2 == 1 then Claimed ((n - 1) / 2) else Published ((n - 2) / 2))

-- A table has the count of numbers drawn first, then the claim words of its extents, then their demand words, of which each
-- has the bits of 64 extents, then the cursor.
abbrev pub claim_place : ℕ → ℕ
claim_place extent = extent + 1

abbrev pub demand_count : ℕ → ℕ
demand_count extents = (extents + 63) / 64

abbrev pub demand_place : ℕ → ℕ → ℕ
demand_place extents d = extents + 1 + d

abbrev pub cursor_place : ℕ → ℕ
cursor_place extents = extents + 1 + demand_count extents

abbrev pub word_count : ℕ → ℕ
word_count extents = extents + 2 + demand_count extents

-- the count of numbers drawn, in the words of a table
abbrev pub drawn_count : List ℕ → ℕ
drawn_count words = slice_index words 0

-- the claim word of an extent, in the words of a table
abbrev pub word_at : List ℕ → ℕ → Word
word_at words extent = word_of (slice_index words (claim_place extent))

-- the bits of a demand word, in the words of a table for so many extents
abbrev pub demands_at : ℕ → List ℕ → ℕ → ℕ
demands_at extents words d = slice_index words (demand_place extents d)
