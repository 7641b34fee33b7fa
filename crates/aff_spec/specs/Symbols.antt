-- Symbolic streams, and what a cell is printed as.
use Rattle.std.specs.Prelude.{ℕ, ◌%◌, slice_index, codes}
use Rattle.aff_model.specs.declared.cell.Cell.{Cell}
use Rattle.aff_model.specs.declared.cell.Cell.TheVariants.{Byte, Unreadable, Unknown}

-- byte i of UnknownData and of UnreadableData
abbrev pub unknown_byte : ℕ → ℕ
unknown_byte i = slice_index (codes "UNKNOWN") (i % 7)

abbrev pub unreadable_byte : ℕ → ℕ
unreadable_byte i = slice_index (codes "UNREADABLEDATA") (i % 14)

-- the byte that a cell at place i is printed as
abbrev pub fill_of : ℕ → Cell → ℕ
fill_of i (Byte b) = b
fill_of i Unreadable = unreadable_byte i
fill_of i Unknown = unknown_byte i
