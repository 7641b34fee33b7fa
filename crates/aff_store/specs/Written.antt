-- A volume's stream while it is written.
use Rattle.std.specs.Prelude.{◌≡◌, ℕ, ◌*◌, ◌/◌, ◌%◌, Bool, false, List, length, take, drop, map}
use Rattle.std.specs.List.{range_with_len}
use Rattle.aff_model.specs.declared.limits.TheConstants.{CHUNK, BEVVY}
use Rattle.aff_spec.specs.Bevvies.{Sums, pending_sums}

-- the stream's URN, the chunks that were written of it, and whether it has ended
pub record Written : Type 0 where
  pub urn : List ℕ
  pub chunks : List (List ℕ)
  pub ended : Bool

-- bytes cut into chunks
abbrev pub cut_chunks : List ℕ → List (List ℕ)
cut_chunks bytes = map (λ k. take CHUNK (drop (CHUNK * k) bytes)) (range_with_len 0 (length bytes / CHUNK))

-- a writer of a stream and its block hashes: the stream's URN, how many chunks the writer has; the URN for which digests are
-- kept, how many bevvies are closed, and the digests of the chunks behind them
pub record Progress : Type 0 where
  pub stream : List ℕ
  pub count : ℕ
  pub hashes : List ℕ
  pub bevvy : ℕ
  pub sums : List Sums

-- both have these chunks, and no other
pub record HasWritten (stream : List ℕ) (chunks : List (List ℕ)) (p : Progress) : Type 0 where
  pub stream_is : p.stream ≡ stream
  pub count_is : p.count ≡ length chunks
  pub hashes_is : p.hashes ≡ stream
  pub bevvy_is : p.bevvy ≡ length chunks / BEVVY
  pub sums_is : p.sums ≡ pending_sums chunks

-- whole chunks were written, and until the stream has ended the writer and the block hashes have them
pub record AreInStep (p : Progress) (bytes : List ℕ) (ended : Bool) : Type 0 where
  pub whole : length bytes % CHUNK ≡ 0
  pub written : ended ≡ false → HasWritten p.stream (cut_chunks bytes) p
