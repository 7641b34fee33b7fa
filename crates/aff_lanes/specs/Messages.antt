-- Messages side by side, their blocks of 64 bytes, and the blocks in which they end.
use Rattle.std.specs.Prelude.{◌≡◌, ℕ, ◌+◌, ◌-◌, ◌*◌, ◌/◌, ◌%◌, List, [], ◌∷◌, ◌++◌, length, take, drop, map, replicate, slice_index_or, All}
use Rattle.std.specs.Borrow.{Bor}

-- the bytes of each message
abbrev pub texts : List (Bor (List ℕ)) → List (List ℕ)
texts messages = map (λ m. m.now) messages

-- the bytes of message j
abbrev pub text : List (Bor (List ℕ)) → ℕ → List ℕ
text messages j = slice_index_or (texts messages) j []

-- the messages are as long as the first of them
abbrev pub HaveOneLength : List (Bor (List ℕ)) → Type 0
HaveOneLength messages = All (λ m. length m.now ≡ length (text messages 0)) messages

-- the block that begins at a place
abbrev pub block_at : List ℕ → ℕ → List ℕ
block_at m at = take 64 (drop at m)

-- the first blocks of a part, so many, are those of the whole from block q on
abbrev pub HasBlocks : List ℕ → ℕ → ℕ → List ℕ → Type 0
HasBlocks whole q count part = take (64 * count) part ≡ take (64 * count) (drop (q * 64) whole)

-- how many blocks hold a message's bytes behind its last whole block, a byte 1000 0000 and its length as 8 bytes
abbrev pub end_count : ℕ → ℕ
end_count n = (n % 64 + 72) / 64

-- the blocks in which a message ends: its bytes behind the last whole block, the byte 1000 0000, zeros, its length
abbrev pub IsEnd : List ℕ → List ℕ → List ℕ → Type 0
IsEnd m bits end = take (64 * end_count (length m)) end ≡ drop (length m / 64 * 64) m ++ (0x80 ∷ replicate ((119 - length m % 64) % 64) 0 ++ bits)
