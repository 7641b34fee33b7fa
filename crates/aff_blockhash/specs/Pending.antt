-- The block hashes of a stream that is still written.
use Rattle.std.specs.Prelude.{◌-◌, ◌≡◌, ℕ, ◌+◌, ◌*◌, ◌<◌, ◌≤◌, ◌==◌, List, [], ◌∷◌, ◌++◌, length, take, drop, vec_len, vec_capacity, if◌then◌else◌}
use Rattle.std.specs.List.{range_with_len, flat_map}
use Rattle.std.specs.declared.vec.Vec.{Vec}
use Rattle.aff_model.specs.declared.limits.TheConstants.{BEVVY}
use Rattle.aff_hash.specs.declared.kind.ChunkSums.{ChunkSums}
use Rattle.aff_spec.specs.Appends.{Append}
use Rattle.aff_spec.specs.Bevvies.{Sums, bevvy_count, hash_appends}

-- the stream, how many of its bevvies are closed, and the digests of the chunks behind them
pub record Pending : Type 0 where
  pub stream : List ℕ
  pub bevvy : ℕ
  pub sums : List Sums

-- the digests of a chunk
abbrev pub sums_in : ChunkSums → Sums
sums_in sums = record { md5 = sums.md5; sha1 = sums.sha1; sha256 = sums.sha256 }

-- the bevvy is not full, its number has eight digits where it has a chunk, and there is room for all its digests
pub record IsOpen (bevvy : ℕ) {Z : Type 0} (sums : Vec ChunkSums Z) : Type 0 where
  pub few : vec_len sums < BEVVY
  pub numbered : 0 < vec_len sums → bevvy < 100000000
  pub room : BEVVY ≤ vec_capacity sums

-- no chunk was pushed
abbrev pub unpushed : List ℕ → Pending
unpushed stream = record { stream = stream; bevvy = 0; sums = [] }

-- the bevvy is closed, and the next one has no chunk
abbrev pub closed : Pending → Pending
closed p = record { stream = p.stream; bevvy = p.bevvy + 1; sums = [] }

-- one chunk more, which closes the bevvy where it is its last one
abbrev pub pushed : Pending → Sums → Pending
pushed p s = if length p.sums == BEVVY - 1 then closed p else record { stream = p.stream; bevvy = p.bevvy; sums = p.sums ++ s ∷ [] }

-- what is appended behind one chunk more: the block hashes of the bevvy, where the chunk is its last one
abbrev pub push_appends : Pending → Sums → List Append
push_appends p s = if length p.sums == BEVVY - 1 then hash_appends p.stream p.bevvy (p.sums ++ s ∷ []) else []

-- the last bevvy is closed, where it has a chunk
abbrev pub finished : Pending → Pending
finished p = if length p.sums == 0 then p else closed p

-- what is appended at the end: the block hashes of the last bevvy, where it has a chunk
abbrev pub finish_appends : Pending → List Append
finish_appends p = if length p.sums == 0 then [] else hash_appends p.stream p.bevvy p.sums

-- the appends of chunks that are pushed one after another, and of the end
abbrev pub all_appends : Pending → List Sums → List Append
all_appends p [] = finish_appends p
all_appends p (s ∷ sums) = push_appends p s ++ all_appends (pushed p s) sums

-- the digests of bevvy b: those of 1,024 chunks, or of what is left
abbrev pub bevvy_sums : List Sums → ℕ → List Sums
bevvy_sums sums b = take BEVVY (drop (BEVVY * b) sums)

-- the block hashes of a stream, bevvy by bevvy
abbrev pub stream_appends : List ℕ → List Sums → List Append
stream_appends stream sums = flat_map (λ b. hash_appends stream b (bevvy_sums sums b)) (range_with_len 0 (bevvy_count (length sums)))

-- the chunks of a stream, pushed one after another, leave the block hashes of its bevvies
abbrev pub AppendsBevvyByBevvy : Type 0
AppendsBevvyByBevvy = (stream : List ℕ) (sums : List Sums) → all_appends (unpushed stream) sums ≡ stream_appends stream sums
