-- The result of decoding after each pass, and the faults of each pass.
use Rattle.std.proofs.Common.{◌≡◌, ◌∙◌, ℕ, ◌≤◌, List, length, take, drop, refl, sym, ap}
use Rattle.std.specs.Prelude.{Some, None, Ok, Err}
use Rattle.dwarf_bytes.specs.declared.fault.LoadFault.{LoadFault}
use Rattle.dwarf_bytes.specs.declared.fault.Section.{Section}
use Rattle.dwarf_bytes.specs.declared.fault.Section.TheVariants as names
use Rattle.dwarf_bytes.specs.declared.layout.Layout.{Layout}
use Rattle.dwarf_bytes.specs.Elf.{elf_fault, layout}
use Rattle.dwarf_lines.specs.declared.row.Row.{Row}
use Rattle.dwarf_lines.specs.Sections.{LineSections}
use Rattle.dwarf_lines.specs.Lines.{Lines, lines_in}
use Rattle.dwarf_walk.specs.Sections.{Sections, sections_in}
use Rattle.dwarf_entries.specs.Scopes.{Tree, tree_of}
use Rattle.dwarf_entries.specs.Order.{AreInOrder}
use Rattle.addr_table.specs.Private.Parents.{AreParents}
use Rattle.addr_table.specs.Segments.{Segment, segments_of, least_calls, most_calls}
use Rattle.addr_table.specs.Private.Decoded.{IsDecoded}
use Rattle.addr_table.specs.Frames.{line_sections}
use Rattle.addr_table.specs.CrossChecks.{cross_checks_of, RefusesAs}
use Rattle.addr_table.specs.Decoded.{Decoded, decoded, entry_sections}
use Rattle.addr_table.specs.Module.{IsWellFormed, fault_of}

-- ---- the sections, at the offsets of the layout

pub lines-read : (bytes line line_str str : List ℕ) (found : Layout) → found ≡ layout bytes
    → line ≡ take found.debug_line.len (drop found.debug_line.place bytes)
    → line_str ≡ take found.debug_line_str.len (drop found.debug_line_str.place bytes)
    → str ≡ take found.debug_str.len (drop found.debug_str.place bytes)
    → record { line = line; line_str = line_str; str = str } ≡ line_sections bytes
unfolding layout
lines-read bytes line line_str str found is a b c =
    ap (λ (z : List ℕ). record { line = z; line_str = line_str; str = str }) a
    ∙ ap (λ (z : List ℕ). record {
      line =
          take found.debug_line.len (drop found.debug_line.place bytes);
      line_str = z;
      str = str;
    }) b
    ∙ ap (λ (z : List ℕ). record {
      line = take found.debug_line.len (drop found.debug_line.place bytes);
      line_str = take
          found.debug_line_str.len (drop found.debug_line_str.place bytes);
      str = z;
    })
    c
    ∙ ap (λ (z : Layout). record {
      line = take z.debug_line.len (drop z.debug_line.place bytes);
      line_str = take z.debug_line_str.len (drop z.debug_line_str.place bytes);
      str = take z.debug_str.len (drop z.debug_str.place bytes);
    }) is

pub entries-read : (bytes : List ℕ) (found : Layout) → found ≡ layout bytes
    → sections_in bytes found ≡ entry_sections bytes
unfolding layout
entries-read bytes found is = ap (sections_in bytes) is

-- ---- a fault of each pass, if all passes before it succeed

pub elf-invalid : (bytes : List ℕ) (fault : LoadFault) → elf_fault bytes ≡ Some fault
    → fault_of bytes ≡ Some fault
unfolding fault_of decoded
elf-invalid bytes fault e = rw e refl

pub lines-invalid : (bytes : List ℕ) (s : LineSections) (fault : LoadFault) → elf_fault bytes ≡ None
    → s ≡ line_sections bytes
    → lines_in s ≡ Err fault → fault_of bytes ≡ Some fault
unfolding fault_of decoded
lines-invalid bytes s fault e is bad = rw (e, ap lines_in (sym is) ∙ bad) refl

-- the results of decoding after the line programs, after the entries, and after the cross-checks
pub record LinesRead (bytes : List ℕ) (lines : Lines) : Type 0 where
  pub elf : elf_fault bytes ≡ None
  pub lines-are : lines_in (line_sections bytes) ≡ Ok lines

pub record TreeRead (bytes : List ℕ) (lines : Lines) (tree : Tree) : Type 0 where
  pub behind : LinesRead bytes lines
  pub tree-is : tree_of (entry_sections bytes) ≡ Ok tree

pub lines-valid : (bytes : List ℕ) (s : LineSections) (lines : Lines) → elf_fault bytes ≡ None
    → s ≡ line_sections bytes
    → lines_in s ≡ Ok lines → LinesRead bytes lines
lines-valid bytes s lines e is good = record { elf = e; lines-are = ap lines_in (sym is) ∙ good }

pub tree-invalid : (bytes : List ℕ) (lines : Lines) (s : Sections) (fault : LoadFault)
    → LinesRead bytes lines → s ≡ entry_sections bytes
    → tree_of s ≡ Err fault → fault_of bytes ≡ Some fault
unfolding fault_of decoded
tree-invalid bytes lines s fault h is bad = rw (h.elf, h.lines-are, ap tree_of (sym is) ∙ bad) refl

pub tree-valid : (bytes : List ℕ) (lines : Lines) (s : Sections) (tree : Tree)
    → LinesRead bytes lines → s ≡ entry_sections bytes
    → tree_of s ≡ Ok tree → TreeRead bytes lines tree
tree-valid bytes lines s tree h is good =
    record { behind = h; tree-is = ap tree_of (sym is) ∙ good }

of-section : (fault : LoadFault) (section : Section) → fault.section ≡ section
    → record { section = section; cause = fault.cause; at = fault.at } ≡ fault
of-section fault section is = rw (← is) refl

pub cross_checks-invalid : (bytes : List ℕ) (lines : Lines) (tree : Tree) (fault : LoadFault)
    → TreeRead bytes lines tree
    → RefusesAs (Err fault) (cross_checks_of lines tree) → fault_of bytes ≡ Some fault
unfolding fault_of decoded
cross_checks-invalid bytes lines tree fault h bad =
    rw (h.behind.elf, h.behind.lines-are, h.tree-is, bad.1)
    (ap (λ (f : LoadFault). Some f) (of-section fault names.DebugInfo bad.0))

pub all-valid : (bytes : List ℕ) (lines : Lines) (tree : Tree) → TreeRead bytes lines tree
    → RefusesAs (Ok tt) (cross_checks_of lines tree)
    → decoded bytes ≡ Ok (record { lines = lines; tree = tree })
unfolding decoded
all-valid bytes lines tree h good = rw (h.behind.elf, h.behind.lines-are, h.tree-is, good.1) refl

pub well-formed : (bytes : List ℕ) (d : Decoded) → decoded bytes ≡ Ok d → IsWellFormed bytes
unfolding IsWellFormed
well-formed bytes d is = rw is refl

-- ---- the data stored for the object

pub decoded-valid : (bytes : List ℕ) (sections : Layout) (lines : Lines) (tree : Tree)
    (rows : List Row)
    (codes : List ℕ) (list : List Segment)
    (calls : ℕ)
    → sections ≡ layout bytes → TreeRead bytes lines tree → RefusesAs (Ok tt)
    (cross_checks_of lines tree)
    → rows ≡ lines.rows → AreInOrder tree.scopes → AreParents tree.scopes codes
    → length codes ≡ length tree.scopes
    → list ≡ segments_of rows tree.scopes → least_calls rows tree.scopes ≤ calls
    → calls ≤ most_calls rows tree.scopes
    → IsDecoded bytes sections lines tree codes list calls
decoded-valid bytes sections lines tree rows codes list calls is read joined rows_are order parents
    all
    segment least most = record {
      layout_is = is;
      is_decoded = all-valid bytes lines tree read joined;
      order = order;
      parents_are = parents;
      parents_all = all;
      segments_are = rw (← rows_are) segment;
      least = rw (← rows_are) least;
      most = rw (← rows_are) most;
    }
