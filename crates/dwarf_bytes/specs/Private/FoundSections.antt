-- The spans of the sections found, header by header, for the contracts of the steps.
use Rattle.std.specs.Prelude.{◌≡◌, ℕ, zero, suc, Bool, true, false, List, [], ◌∷◌, find, map}
use Rattle.std.specs.Prelude.{get_or, Option, None, unwrap_or}
use Rattle.std.specs.List.{range_with_len, list_any}
use Rattle.std.specs.Option.{option_map}
use Rattle.dwarf_bytes.specs.declared.fault.Section.{Section}
use Rattle.dwarf_bytes.specs.declared.fault.Cause.{Cause}
use Rattle.dwarf_bytes.specs.declared.fault.Cause.TheVariants as causes
use Rattle.dwarf_bytes.specs.declared.layout.Span.{Span}
use Rattle.dwarf_bytes.specs.declared.layout.Layout.{Layout}
use Rattle.dwarf_bytes.specs.declared.headers.SectionHeader.{SectionHeader}
use Rattle.dwarf_bytes.specs.Headers.{is_nobits, is_compressed, is_outside}
use Rattle.dwarf_bytes.specs.Elf.{no_span, section_header, span_of, is_named, wanted}

-- the span of a section by its name, among the headers before the k-th
abbrev pub span_before : List ℕ → ℕ → Section → Option Span
span_before bytes k section =
    option_map (λ j. span_of (section_header bytes j))
    (find (λ j. is_named bytes j section) (range_with_len 0 k))

-- the spans of all wanted sections, among the headers before the k-th
unfoldable pub spans_before : List ℕ → ℕ → List (Option Span)
spans_before bytes k = map (span_before bytes k) wanted

-- the i-th element is the only one that satisfies the predicate
abbrev pub IsOnly : {X : Type 0} → (X → Bool) → List X → ℕ → Type 0
IsOnly p [] i = ⊥
IsOnly p (x ∷ xs) zero = (p x ≡ true) × (list_any p xs ≡ false)
IsOnly p (x ∷ xs) (suc i) = (p x ≡ false) × IsOnly p xs i

-- the tests of the header of a wanted section; seen says whether an earlier header has its name
abbrev pub wanted_tests : List ℕ → SectionHeader → Bool → List (Bool × Cause)
wanted_tests bytes header seen =
    (seen, causes.SectionTwice)
    ∷ (is_nobits header, causes.Table)
    ∷ (is_compressed header, causes.Compressed)
    ∷ (is_outside bytes header.offset header.size, causes.Table)
    ∷ []

-- the layout with the spans of the wanted sections
abbrev pub layout_of : List (Option Span) → ℕ → ℕ → Layout
layout_of found low high =
    let span = λ (i : ℕ). unwrap_or (get_or found i None) no_span in
    record {
      debug_info = span 0;
      debug_abbrev = span 1;
      debug_line = span 2;
      debug_line_str = span 3;
      debug_str = span 4;
      debug_str_offsets = span 5;
      debug_addr = span 6;
      debug_rnglists = span 7;
      low = low;
      high = high;
    }
