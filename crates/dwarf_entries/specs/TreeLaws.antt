-- Theorems about the result for a whole object.
use Rattle.dwarf_bytes.specs.{Items.Lists, Numbers.{IsEncodedAt, IsText}}
use Rattle.dwarf_bytes.specs.declared.fault.Section.{Section}
use Rattle.dwarf_entries.specs.{Scopes.Scope, Units.CompilationUnit, declared.scope.Root.Root}
use Rattle.dwarf_entries.specs.declared.text_offset.TextOffset.{TextOffset}
use Rattle.dwarf_forms.specs.Declarations.{Declaration}
use Rattle.dwarf_units.specs.{Entries.{Die, LocatedNode, node_at}, Units.unit_at}
use Rattle.dwarf_units.specs.declared.unit_headers.UnitHeader.{UnitHeader}
use Rattle.dwarf_walk.specs.{ScopeEntries.kind_of, Sections.Sections}
use Rattle.std.specs.{List.Sorted.IsStrictlyIncreasing, Prelude.{All, List, Ok, Some, [], length}}
use Rattle.std.specs.Prelude.{slice_get, take, ℕ, ◌<◌, ◌∷◌, ◌≡◌, ◌≤◌}
use Rattle.dwarf_bytes.specs.declared.fault.Section.TheVariants as names

-- Offsets are strictly increasing and less than an end.
abbrev pub RiseBelow : ℕ → List ℕ → Type 0
RiseBelow end offsets = IsStrictlyIncreasing offsets × All (λ offset. offset < end) offsets

-- The roots partition the numbers up to an end, in order. The numbers of each root start where the
-- numbers of the previous root end.
abbrev pub ArePartsFrom : ℕ → ℕ → List Root → Type 0
ArePartsFrom number end [] = number ≡ end
ArePartsFrom number end (root ∷ roots) =
    (root.first ≡ number) × (number ≤ root.past) × ArePartsFrom root.past end roots

-- A scope belongs to the unit of a root: it has the root's line program, it ends within the root's
-- scopes, and its offset is not less than the root's.
pub record IsOfUnit (root : Root) (scope : Scope) : Type 0 where
  pub stmt_list_is : scope.stmt_list ≡ root.stmt_list
  pub ends : scope.«end» ≤ root.past
  pub starts : root.offset ≤ scope.offset

-- A scope is the entry at an index of the unit at an index.
pub record IsEntry (units : List CompilationUnit) (unit place : ℕ) (scope : Scope) : Type 0 where
  pub of : CompilationUnit
  pub of_is : slice_get units unit ≡ Some of
  pub die : Die
  pub die_is : slice_get of.dies place ≡ Some die
  pub offset_is : scope.offset ≡ die.offset
  pub kind_is : kind_of die.tag ≡ Some scope.kind

-- The bytes of a section. The headers and tables of the ELF file are not a section here.
abbrev pub section_bytes : Sections → Section → List ℕ
section_bytes s names.Elf = []
section_bytes s names.DebugInfo = s.debug_info
section_bytes s names.DebugAbbrev = s.debug_abbrev
section_bytes s names.DebugLine = s.debug_line
section_bytes s names.DebugLineStr = s.debug_line_str
section_bytes s names.DebugStr = s.debug_str
section_bytes s names.DebugStrOffsets = s.debug_str_offsets
section_bytes s names.DebugAddr = s.debug_addr
section_bytes s names.DebugRnglists = s.debug_rnglists

-- A NUL-terminated string is at an offset of a section.
abbrev pub IsTextOf : Sections → TextOffset → Type 0
IsTextOf s text = (string : List ℕ) × (next : ℕ)
    × IsEncodedAt IsText (section_bytes s text.section) text.offset string next

-- Units are contiguous in .debug_info, from an offset up to its end, as their headers describe.
abbrev pub AreContiguous : List ℕ → ℕ → List UnitHeader → Type 0
AreContiguous info at [] = at ≡ length info
AreContiguous info at (header ∷ headers) =
    (unit_at info at ≡ Ok header) × (header.start ≡ at) × (at < header.end)
    × AreContiguous info header.end headers

-- The entries and null entries of a unit are contiguous, from its first entry up to its end.
abbrev pub FillsUnit : List ℕ → UnitHeader → List Declaration → List LocatedNode → Type 0
FillsUnit info header table all =
    Lists (node_at header.format table (take header.end info)) [] header.first all header.end
