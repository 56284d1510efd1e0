-- The address range and the sections of a valid object, independent of the order of the search.
use Rattle.std.specs.Prelude.{◌≡◌, ℕ, ◌<◌, ◌≤◌, List, true, false, All, Contains}
use Rattle.dwarf_bytes.specs.declared.fault.Section.{Section}
use Rattle.dwarf_bytes.specs.declared.layout.Span.{Span}
use Rattle.dwarf_bytes.specs.Headers.{file_header, is_nobits, is_compressed}
use Rattle.dwarf_bytes.specs.Elf.{section_header, is_named, span_of, no_span, IsInside}

-- the minimum of some numbers
pub record IsLeast (numbers : List ℕ) (least : ℕ) : Type 0 where
  pub is_there : Contains numbers least
  pub bound : All (λ n. least ≤ n) numbers

-- the maximum of some numbers
pub record IsGreatest (numbers : List ℕ) (greatest : ℕ) : Type 0 where
  pub is_there : Contains numbers greatest
  pub bound : All (λ n. n ≤ greatest) numbers

-- The span is that of the one header with the section's name. The bytes are in the file,
-- uncompressed.
pub record IsOneSection (bytes : List ℕ) (section : Section) (span : Span) : Type 0 where
  pub number : ℕ
  pub is_number : number < (file_header bytes).shnum
  pub named : is_named bytes number section ≡ true
  pub alone : (k : ℕ) → k < (file_header bytes).shnum → is_named bytes k section ≡ true → k ≡ number
  pub span_is : span ≡ span_of (section_header bytes number)
  pub has_bits : is_nobits (section_header bytes number) ≡ false
  pub plain : is_compressed (section_header bytes number) ≡ false
  pub inside : IsInside bytes span

-- no header has the section's name, and the span is empty
pub record IsNoSection (bytes : List ℕ) (section : Section) (span : Span) : Type 0 where
  pub none : (k : ℕ) → k < (file_header bytes).shnum → is_named bytes k section ≡ false
  pub span_is : span ≡ no_span
