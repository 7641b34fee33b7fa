-- Streams that are written chunk by chunk.
use Rattle.std.specs.Prelude.{ℕ, ◌+◌, ◌/◌, ◌%◌, ◌==◌, List, [], ◌∷◌, if◌then◌else◌}
use Rattle.aff_model.specs.declared.limits.TheConstants.{BEVVY}
use Rattle.aff_spec.specs.Appends.{Append}
use Rattle.aff_spec.specs.Bevvies.{index_append}
use Rattle.aff_spec.specs.Names.{bevvy_name}

-- a stream with so many chunks
pub record Written : Type 0 where
  pub stream : List ℕ
  pub count : ℕ

-- what is appended behind chunk c: the index of its bevvy, where the bevvy is full
abbrev pub full_index : List ℕ → ℕ → List Append
full_index stream c = if (c + 1) % BEVVY == 0 then index_append stream (c / BEVVY) BEVVY ∷ [] else []

-- the appends of chunk c: the chunk, to the end of its bevvy, and what is appended behind it
abbrev pub stored_chunk : List ℕ → ℕ → List ℕ → List Append
stored_chunk stream c chunk = (bevvy_name stream (c / BEVVY), chunk) ∷ full_index stream c

-- the appends that end a stream of so many chunks: the index of a bevvy that is not full, where it has a chunk
abbrev pub last_index : List ℕ → ℕ → List Append
last_index stream count = if count % BEVVY == 0 then [] else index_append stream (count / BEVVY) (count % BEVVY) ∷ []
