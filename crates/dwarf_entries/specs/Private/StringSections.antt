-- The sections that contain strings (DWARF 5, 7.5.5), for the contracts of names.
use Rattle.std.specs.Prelude.{◌≡◌, ℕ, List, Result, Ok}
use Rattle.dwarf_bytes.specs.{declared.fault.ReadFault.ReadFault, Bind.◌>>=◌, Numbers.text_at}
use Rattle.dwarf_entries.specs.declared.string_sections.StringSections.{StringSections}
use Rattle.dwarf_walk.specs.Sections.{Sections}

-- An offset of a section, if a string is there.
abbrev pub text_place : List ℕ → ℕ → Result ℕ ReadFault
text_place section offset = text_at section offset >>= λ _. Ok offset

-- The string sections of an object.
pub record AreStringSections (s : Sections) (strings : StringSections) : Type 0 where
  pub info : strings.info ≡ s.debug_info
  pub str : strings.str ≡ s.debug_str
  pub line_str : strings.line_str ≡ s.debug_line_str
