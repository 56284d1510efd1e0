-- The sections from which line programs are read.
use Rattle.std.specs.Prelude.{ℕ, List}
use Rattle.dwarf_bytes.specs.declared.fault.Section.{Section}
use Rattle.dwarf_bytes.specs.declared.fault.Section.TheVariants as sections

-- `.debug_line`, and the string sections that it refers to by offset
pub record LineSections : Type 0 where
  pub line : List ℕ
  pub line_str : List ℕ
  pub str : List ℕ

-- the bytes of a section
abbrev pub section_bytes : LineSections → Section → List ℕ
section_bytes s sections.DebugStr = s.str
section_bytes s sections.DebugLineStr = s.line_str
section_bytes s _ = s.line
