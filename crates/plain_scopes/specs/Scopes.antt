-- The scopes and ranges, as the program stores them.
use Rattle.std.specs.Prelude.{ℕ, Vec}
use Rattle.std.specs.declared.alloc.Global.{Global}
use Rattle.dwarf_ranges.specs.{declared.range.Range.Range, Ranges.Covering}
use Rattle.dwarf_entries.specs.Scopes.{Scope, ParsedScope}
unfoldable pub use Rattle.dwarf_entries.specs.{Scopes.tree_of, Units.units_read}

-- The ranges of a scope, and the number of items that they were read from.
abbrev pub covering : Vec Range Global × ℕ → Covering
covering found = record { ranges = found.0.items; items = found.1 }

-- A scope, and the number of range items that it was read from.
abbrev pub parsed : Scope × ℕ → ParsedScope
parsed found = record { scope = found.0; items = found.1 }
