-- The fault of a file, from the faults of its parts, and its layout.
use Rattle.std.proofs.Common.{◌≡◌, ℕ, List, ◌∷◌, Option, Some, None, refl, sym, ap, ◌∙◌, option_map}
use Rattle.std.proofs.Common.{find}
use Rattle.std.specs.Prelude.{unwrap_or}
use Rattle.std.specs.List.{range_with_len}
use Rattle.std.specs.Option.{option_or, option_map_or}
use Rattle.dwarf_bytes.specs.declared.fault.LoadFault.{LoadFault}
use Rattle.dwarf_bytes.specs.declared.fault.Section.{Section}
use Rattle.dwarf_bytes.specs.declared.fault.Section.TheVariants as sections
use Rattle.dwarf_bytes.specs.declared.fault.Cause.{Cause}
use Rattle.dwarf_bytes.specs.declared.layout.Span.{Span}
use Rattle.dwarf_bytes.specs.declared.headers.FileHeader.{FileHeader}
use Rattle.dwarf_bytes.specs.Faults.{first_failure, item_fault, first_fault}
use Rattle.dwarf_bytes.specs.Headers.{file_header}
use Rattle.dwarf_bytes.specs.Elf.{header_tests, header_item, load_items, section_items, elf_items}
use Rattle.dwarf_bytes.specs.Elf.{elf_fault, layout, low, high, section_span, no_span, span_of}
use Rattle.dwarf_bytes.specs.Elf.{section_header, is_named}
use Rattle.dwarf_bytes.specs.Private.FoundSections.{span_before, spans_before, layout_of}
use Rattle.dwarf_bytes.proofs.Objects.Extent.{first_fault-append}

pub fault-is : (bytes : List ℕ) → elf_fault bytes ≡ option_or
    (option_or (item_fault sections.Elf (header_item bytes))
    (first_fault sections.Elf (load_items bytes)))
    (first_fault sections.Elf (section_items bytes))
unfolding elf_items
fault-is bytes = first_fault-append sections.Elf (header_item bytes ∷ load_items bytes)
    (section_items bytes)

at_start : Option Cause → Option LoadFault
at_start o = option_map (λ cause. record { section = sections.Elf; cause = cause; at = 0 }) o

pub header-invalid : (bytes : List ℕ) (cause : Cause) (fault : LoadFault)
    → first_failure (header_tests bytes) ≡ Some cause
    → fault ≡ record { section = sections.Elf; cause = cause; at = 0 }
    → elf_fault bytes ≡ Some fault
unfolding at_start
header-invalid bytes cause fault first is =
    fault-is bytes ∙ ap (λ (o : Option Cause). option_or
    (option_or (at_start o) (first_fault sections.Elf (load_items bytes)))
    (first_fault sections.Elf (section_items bytes))) first
    ∙ ap (λ (f : LoadFault). Some f) (sym is)

pub loads-invalid : (bytes : List ℕ) (fault : LoadFault) → first_failure (header_tests bytes) ≡ None
    → first_fault sections.Elf (load_items bytes) ≡ Some fault → elf_fault bytes ≡ Some fault
unfolding at_start
loads-invalid bytes fault header bad =
    fault-is bytes ∙ ap (λ (o : Option Cause). option_or
    (option_or (at_start o) (first_fault sections.Elf (load_items bytes)))
    (first_fault sections.Elf (section_items bytes))) header
    ∙ ap (λ (o : Option LoadFault). option_or o (first_fault sections.Elf (section_items bytes)))
    bad

pub rest-is : (bytes : List ℕ) → first_failure (header_tests bytes) ≡ None
    → first_fault sections.Elf (load_items bytes) ≡ None
    → elf_fault bytes ≡ first_fault sections.Elf (section_items bytes)
unfolding at_start
rest-is bytes header loads =
    fault-is bytes ∙ ap (λ (o : Option Cause). option_or
    (option_or (at_start o) (first_fault sections.Elf (load_items bytes)))
    (first_fault sections.Elf (section_items bytes))) header
    ∙ ap (λ (o : Option LoadFault). option_or o (first_fault sections.Elf (section_items bytes)))
    loads

unwrap-map : {X Y : Type 0} (f : X → Y) (o : Option X) (d : Y) → unwrap_or (option_map f o) d
    ≡ option_map_or f o d
unwrap-map f None d = refl
unwrap-map f (Some x) d = refl

span_is : (bytes : List ℕ) (s : Section) → unwrap_or
    (span_before bytes (file_header bytes).shnum s) no_span ≡ section_span bytes s
unfolding section_span
span_is bytes s = unwrap-map (λ k. span_of (section_header bytes k))
    (find (λ k. is_named bytes k s) (range_with_len 0 (file_header bytes).shnum)) no_span

pub layout_is : (bytes : List ℕ) (header : FileHeader) (found : List (Option Span)) (l h : ℕ)
    → header ≡ file_header bytes → found ≡ spans_before bytes header.shnum → l ≡ low bytes
    → h ≡ high bytes
    → layout_of found l h ≡ layout bytes
unfolding spans_before layout
layout_is bytes header found l h same spans is_low is_high =
    ap (λ (f : List (Option Span)). layout_of f l h)
    (spans ∙ ap (λ (k : FileHeader). spans_before bytes k.shnum) same)
    ∙ rw (
      is_low,
      is_high,
      span_is bytes sections.DebugInfo,
      span_is bytes sections.DebugAbbrev,
      span_is bytes sections.DebugLine,
      span_is bytes sections.DebugLineStr,
      span_is bytes sections.DebugStr,
      span_is bytes sections.DebugStrOffsets,
      span_is bytes sections.DebugAddr,
      span_is bytes sections.DebugRnglists,
    ) refl
