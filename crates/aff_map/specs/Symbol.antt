-- The bytes of the symbolic streams.
use Rattle.std.specs.Prelude.{ℕ}
use Rattle.aff_spec.specs.Symbols.{unknown_byte, unreadable_byte}
use Rattle.aff_map.specs.declared.target.Target.{Target}
use Rattle.aff_map.specs.declared.target.Target.TheVariants.{Stored, Zero, Unknown, Unreadable}

-- the target is no stored stream
abbrev pub IsSymbolic : Target → Type 0
IsSymbolic Stored = ⊥
IsSymbolic Zero = Unit {0}
IsSymbolic Unknown = Unit {0}
IsSymbolic Unreadable = Unit {0}

-- the byte at a place of a symbolic stream
abbrev pub symbol_of : Target → ℕ → ℕ
symbol_of Stored i = 0
symbol_of Zero i = 0
symbol_of Unknown i = unknown_byte i
symbol_of Unreadable i = unreadable_byte i
