-- The two sizes of a device's blocks.
use Rattle.std.specs.Prelude.{ℕ, refl}
use Rattle.std.proofs.Common.{inl, inr}
use Rattle.aff_model.specs.declared.limits.TheConstants.{SECTOR, LARGE_BLOCK}
use Rattle.aff_model.specs.Content.{IsBlock}
use Rattle.aff_memory.specs.declared.block_size.BlockSize.{BlockSize}
use Rattle.aff_memory.specs.declared.block_size.BlockSize.TheVariants.{Sector, Large}

-- in bytes
abbrev pub block_bytes : BlockSize → ℕ
block_bytes Sector = SECTOR
block_bytes Large = LARGE_BLOCK

abbrev pub is_block : (size : BlockSize) → IsBlock (block_bytes size)
is_block Sector = inl refl
is_block Large = inr refl
