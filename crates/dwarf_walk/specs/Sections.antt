-- The sections that the entries are read from (DWARF 5, 7.1), as lists of bytes.
use Rattle.std.specs.Prelude.{ℕ, List, take, drop}
use Rattle.dwarf_bytes.specs.{declared.layout.Span.Span, declared.layout.Layout.Layout}
use Rattle.dwarf_walk.specs.declared.sections.Sections.{Sections as Lent}

pub record Sections : Type 0 where
  pub debug_info : List ℕ
  pub debug_abbrev : List ℕ
  pub debug_line : List ℕ
  pub debug_line_str : List ℕ
  pub debug_str : List ℕ
  pub debug_str_offsets : List ℕ
  pub debug_addr : List ℕ
  pub debug_rnglists : List ℕ

-- The sections as byte lists, from the slices that the program borrows.
abbrev pub sections_of : Lent → Sections
sections_of s = record {
  debug_info = s.debug_info.now;
  debug_abbrev = s.debug_abbrev.now;
  debug_line = s.debug_line.now;
  debug_line_str = s.debug_line_str.now;
  debug_str = s.debug_str.now;
  debug_str_offsets = s.debug_str_offsets.now;
  debug_addr = s.debug_addr.now;
  debug_rnglists = s.debug_rnglists.now;
}

-- The bytes of a span, truncated at the end of the object.
abbrev pub bytes_in : List ℕ → Span → List ℕ
bytes_in bytes span = take span.len (drop span.place bytes)

-- The sections of an object, by its layout.
abbrev pub sections_in : List ℕ → Layout → Sections
sections_in bytes layout = record {
  debug_info = bytes_in bytes layout.debug_info;
  debug_abbrev = bytes_in bytes layout.debug_abbrev;
  debug_line = bytes_in bytes layout.debug_line;
  debug_line_str = bytes_in bytes layout.debug_line_str;
  debug_str = bytes_in bytes layout.debug_str;
  debug_str_offsets = bytes_in bytes layout.debug_str_offsets;
  debug_addr = bytes_in bytes layout.debug_addr;
  debug_rnglists = bytes_in bytes layout.debug_rnglists;
}
