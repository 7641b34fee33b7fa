-- A device of given bytes, some of whose blocks cannot be read.
use Rattle.std.specs.Prelude.{ℕ, Bool, ◌==◌, List, slice_index}
use Rattle.std.proofs.Common.{ap}
use Rattle.std.specs.List.{list_any}
use Rattle.aff_model.specs.Content.{Content, block_of}
use Rattle.aff_memory.specs.declared.block_size.BlockSize.{BlockSize}
use Rattle.aff_memory.specs.BlockSizes.{block_bytes, is_block}

pub record Fixed : Type 0 where
  pub size : BlockSize
  pub bytes : List ℕ
  pub bad : List ℕ
  pub faults : ℕ

-- the list has the number
abbrev pub has_number : List ℕ → ℕ → Bool
has_number numbers n = list_any (λ b. b == n) numbers

-- the sector's block is one of the list
abbrev pub is_in_blocks : BlockSize → List ℕ → ℕ → Bool
is_in_blocks size blocks s = has_number blocks (block_of (block_bytes size) s)

-- bytes as a content, whose bad sectors, those of the listed blocks, are the only weak ones
abbrev pub blocks_content : BlockSize → List ℕ → List ℕ → Content
blocks_content size bytes blocks = record {
  block = block_bytes size;
  byte = slice_index bytes;
  weak = is_in_blocks size blocks;
  bad = is_in_blocks size blocks;
  is_block = is_block size;
  bad_is_weak = λ s h. h;
  weak_together = λ s t e. ap (has_number blocks) e;
  bad_together = λ s t e. ap (has_number blocks) e;
}

abbrev pub fixed_content : Fixed → Content
fixed_content d = blocks_content d.size d.bytes d.bad
