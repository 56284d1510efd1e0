-- The programs of a section, in order, and the strings of parts.
use Rattle.std.proofs.Common.{◌≡◌, ℕ, List, [], ◌∷◌, ◌++◌, length, take, drop, Ok, ap, ◌∙◌, arith}
use Rattle.std.proofs.lemmas.List.{take-append-le, take_all, append_assoc}
use Rattle.dwarf_bytes.specs.Items.{Lists}
use Rattle.dwarf_bytes.specs.Numbers.{IsEncodedAt, IsText}
use Rattle.dwarf_bytes.specs.declared.fault.Section.{Section}
use Rattle.dwarf_bytes.proofs.Items.ItemLaws.{Lists-within, items_from-Lists}
use Rattle.dwarf_lines.specs.Sections.{LineSections, section_bytes}
use Rattle.dwarf_lines.specs.Entries.{text_from}
use Rattle.dwarf_lines.specs.Paths.{part_bytes}
use Rattle.dwarf_lines.specs.Programs.{Program, programs_of, next_program}
use Rattle.dwarf_lines.proofs.SectionPrograms.ProgramTurns.{programs-advance}

pub section-encoded : (s : LineSections) (programs : List Program) (after : ℕ)
    → programs_of s ≡ Ok (programs, after)
    → Lists (next_program s) [] 0 programs after
section-encoded s programs after h = Lists-within _ (next_program s) [] 0 programs after h

pub section-read : (s : LineSections) (programs : List Program) (after : ℕ)
    → Lists (next_program s) [] 0 programs after
    → programs_of s ≡ Ok (programs, after)
section-read s programs after h = items_from-Lists (length s.line) (next_program s)
    (programs-advance s) [] 0 programs after h

front-of : (text rest : List ℕ) → take (length text) (text ++ rest) ≡ text
front-of text rest = take-append-le (length text) text rest (omega arith)
    ∙ take_all _ text (omega arith)

pub part-text : (s : LineSections) (section : Section) (place past : ℕ) (text : List ℕ)
    → IsEncodedAt IsText (section_bytes s section) place text past
    → part_bytes s (text_from section place text).part ≡ text
part-text s section place past text h =
    let there : drop place (section_bytes s section) ≡ text ++ (0 ∷ h.rest) =
    h.parts ∙ ap (λ (b : List ℕ). b ++ h.rest) h.encoded.0
    ∙ append_assoc text (0 ∷ []) h.rest in
    ap (take (length text)) there ∙ front-of text (0 ∷ h.rest)
