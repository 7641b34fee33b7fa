-- What holds of each stream that was written chunk by chunk.
use Rattle.std.specs.Prelude.{◌≡◌, ◌⊎◌, ℕ, ◌*◌, ◌<◌, ◌≤◌, ◌^◌, List, [], length, slice_get, slice_index_or, All}
use Rattle.std.specs.List.{concat}
use Rattle.aff_model.specs.declared.limits.TheConstants.{CHUNK}
use Rattle.aff_model.specs.Held.{Held}
use Rattle.aff_model.specs.Plan.{chunk_count}
use Rattle.aff_spec.specs.Appends.{applied}
use Rattle.aff_spec.specs.Bevvies.{bevvy_count, bevvies_appends}
use Rattle.aff_spec.specs.Streams.{chunk_of, stream_byte}
use Rattle.aff_bevvy.specs.declared.error.StreamError.{StreamError}
use Rattle.aff_bevvy.specs.declared.error.StreamError.TheVariants.{Failed, Memory}
use Rattle.aff_bevvy.specs.Chunks.{HasNone, HasSoFar, HasChunks}
use Rattle.aff_bevvy.specs.Faults.{IsStreamRefused}
use Rattle.aff_bevvy.specs.Streams.{IsStream}

-- a folder with no segment of a stream has got no chunk of it so far
abbrev pub StartsWithNone : Type 0
StartsWithNone = (held : Held) (stream : List ℕ) → HasNone held stream → HasSoFar held stream []

-- what holds of each folder and each stream in it that is ended and whose chunks are 32,768 bytes long
abbrev pub OfEachStream : (Held → List ℕ → List (List ℕ) → Type 0) → Type 0
OfEachStream P = (held : Held) (stream : List ℕ) (chunks : List (List ℕ)) → HasChunks held stream chunks → All (λ chunk. length chunk ≡ CHUNK) chunks → P held stream chunks

-- it can be read as a stream of each size that has so many chunks
abbrev pub IsStreamOfItsSizes : Type 0
IsStreamOfItsSizes = OfEachStream (λ held stream chunks. (size : ℕ) → chunk_count size ≡ length chunks → IsStream held stream size)

-- its chunks are those that were written
abbrev pub HasItsChunks : Type 0
HasItsChunks = OfEachStream (λ held stream chunks. (c : ℕ) → c < length chunks → chunk_of held stream c ≡ slice_index_or chunks c [])

-- its bytes are those of the chunks one after another
abbrev pub HasItsBytes : Type 0
HasItsBytes = OfEachStream (λ held stream chunks. (j : ℕ) → j < CHUNK * length chunks → stream_byte held stream j ≡ slice_get (concat chunks) j)

-- a stream that can be read is refused only where a call failed or memory was refused
abbrev pub IsNotRefused : Type 0
IsNotRefused =
    (held : Held) (stream : List ℕ) (size : ℕ) (e : StreamError) → IsStream held stream size → IsStreamRefused held stream size e
    → (e ≡ Failed) ⊎ (e ≡ Memory)

-- the appends of a stream with its block hashes, to a folder that has no segment of it, leave it with its chunks
abbrev pub AppendsItsChunks : Type 0
AppendsItsChunks =
    (held : Held) (stream : List ℕ) (chunks : List (List ℕ)) → HasNone held stream → bevvy_count (length chunks) ≤ 10 ^ 8
    → HasChunks (applied held (bevvies_appends stream chunks)) stream chunks
