-- Streams that were written chunk by chunk, as they stand in a folder, whose other segments may hold anything.
use Rattle.std.specs.Prelude.{◌≡◌, ℕ, ◌+◌, ◌*◌, ◌<◌, ◌≤◌, ◌^◌, List, [], ◌∷◌, ◌++◌, length, None}
use Rattle.std.specs.List.{concat, flat_map}
use Rattle.std.specs.FinMap.{get}
use Rattle.aff_model.specs.declared.limits.TheConstants.{BEVVY}
use Rattle.aff_model.specs.Held.{Held, bytes_of}
use Rattle.aff_fields.specs.Point.{point_bytes}
use Rattle.aff_spec.specs.Bevvies.{bevvy_count, bevvy_of}
use Rattle.aff_spec.specs.Names.{bevvy_name, index_name, segment_in}
use Rattle.aff_spec.specs.Streams.{full_points}

-- the folder has no segment of the stream
abbrev pub HasNone : Held → List ℕ → Type 0
HasNone held stream = (name : List ℕ) → get held (segment_in stream name) ≡ None

-- a bevvy's number has eight digits
abbrev pub IsNumber : ℕ → Type 0
IsNumber b = b < 10 ^ 8

-- the stream has got these chunks so far: each bevvy has its own of them one after another and nothing else, and the index
-- of each bevvy that is full, and of no other, has their points
pub record HasSoFar (held : Held) (stream : List ℕ) (chunks : List (List ℕ)) : Type 0 where
  pub bevvy : (b : ℕ) → IsNumber b → bytes_of held (bevvy_name stream b) ≡ concat (bevvy_of chunks b)
  pub full : (b : ℕ) → IsNumber b → BEVVY * (b + 1) ≤ length chunks → bytes_of held (index_name stream b) ≡ flat_map point_bytes (full_points BEVVY)
  pub unfilled : (b : ℕ) → IsNumber b → length chunks < BEVVY * (b + 1) → bytes_of held (index_name stream b) ≡ []

-- the stream has these chunks and is ended: each bevvy has its own of them one after another, and its index has their points
pub record HasChunks (held : Held) (stream : List ℕ) (chunks : List (List ℕ)) : Type 0 where
  pub bevvy : (b : ℕ) → b < bevvy_count (length chunks) → bytes_of held (bevvy_name stream b) ≡ concat (bevvy_of chunks b)
  pub index : (b : ℕ) → b < bevvy_count (length chunks) → bytes_of held (index_name stream b) ≡ flat_map point_bytes (full_points (length (bevvy_of chunks b)))

-- whichever so many chunks the stream had, it has this one behind them
abbrev pub HasOneMore : Held → List ℕ → ℕ → List ℕ → Held → Type 0
HasOneMore before stream count chunk now =
    (chunks : List (List ℕ)) → length chunks ≡ count → HasSoFar before stream chunks → HasSoFar now stream (chunks ++ chunk ∷ [])

-- whichever so many chunks the stream had, it is ended with them
abbrev pub IsEnded : Held → List ℕ → ℕ → Held → Type 0
IsEnded before stream count now = (chunks : List (List ℕ)) → length chunks ≡ count → HasSoFar before stream chunks → HasChunks now stream chunks
