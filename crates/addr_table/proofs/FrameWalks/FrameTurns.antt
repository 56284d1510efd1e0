-- The remaining frames of a walk over a chain.
use Rattle.std.proofs.Common.{◌≡◌, ◌≤◌, ◌∙◌, ℕ, ◌<◌, List, [], ◌∷◌, length, map}
use Rattle.std.proofs.Common.{take, drop, reverse, get_or, Bool, false, refl, sym, ap, arith}
use Rattle.std.specs.Prelude.{Option, Some, None, option_map, option_and_then, is_some, slice_get}
use Rattle.std.proofs.lemmas.Option.{slice_get-get_or}
use Rattle.std.specs.List.{join_with_byte}
use Rattle.dwarf_bytes.specs.declared.fault.Section.{Section}
use Rattle.dwarf_bytes.specs.declared.fault.Section.TheVariants as names
use Rattle.dwarf_bytes.specs.declared.layout.Layout.{Layout}
use Rattle.dwarf_bytes.specs.Elf.{layout, section}
use Rattle.dwarf_lines.specs.Sections.{LineSections}
use Rattle.dwarf_lines.specs.Paths.{part_bytes, path_bytes}
use Rattle.dwarf_lines.specs.declared.row.ProgramNo.{ProgramNo}
use Rattle.dwarf_lines.specs.declared.row.Row.{Row as LineRow}
use Rattle.dwarf_lines.specs.Lines.{Lines, path_of}
use Rattle.dwarf_bytes.specs.declared.text.Text.{Text}
use Rattle.dwarf_entries.specs.Scopes.{Scope}
use Rattle.addr_table.specs.declared.object_tables.FrameSite.{FrameSite}
use Rattle.addr_table.specs.declared.object_tables.FrameSite.TheVariants.{Row, Call}
use Rattle.addr_table.specs.Frames.{line_sections, text_section, file_path, place_chain, row_site}
use Rattle.addr_table.specs.Frames.{frames_from, frames_of}
use Rattle.addr_table.specs.Private.Views.{walk_left, frame_view, site_view}
use Rattle.addr_table.specs.Private.Walks.{HaveParents, chain_at, top_at, search_start_of}
use Rattle.addr_table.specs.Private.Walks.{outer_of}
use Rattle.addr_table.proofs.Chains.ChainWalks.{no_scope}
use Rattle.addr_table.proofs.FrameWalks.WalkLaws.{IsNextFrame}
use Rattle.addr_table.proofs.Chains.ChainEnds.{started-chain, no-chain, some-chain}

-- ---- parts of a path

-- An array of three has the parts of a list that is not longer.
pub three_parts : (f : Text → List ℕ) (parts : List Text) → length parts ≤ 3
    → take (length parts) (get_or (map f parts) 0 [] ∷ get_or (map f parts) 1 []
    ∷ get_or (map f parts) 2 [] ∷ []) ≡ map f parts
three_parts f [] le = refl
three_parts f (a ∷ []) le = refl
three_parts f (a ∷ b ∷ []) le = refl
three_parts f (a ∷ b ∷ c ∷ []) le = refl
three_parts f (a ∷ b ∷ c ∷ d ∷ more) le = grind arith

-- ---- the section of a string, and the path of a file

pub str-section : (bytes : List ℕ) (found : Layout) → found ≡ layout bytes
    → take found.debug_str.len (drop found.debug_str.place bytes) ≡ section bytes names.DebugStr
unfolding layout
str-section bytes found is = ap (λ (z : Layout). take z.debug_str.len
    (drop z.debug_str.place bytes)) is

pub line_str-section : (bytes : List ℕ) (found : Layout) → found ≡ layout bytes
    → take found.debug_line_str.len (drop found.debug_line_str.place bytes)
    ≡ section bytes names.DebugLineStr
unfolding layout
line_str-section bytes found is = ap (λ (z : Layout). take z.debug_line_str.len
    (drop z.debug_line_str.place bytes)) is

pub info-section : (bytes : List ℕ) (found : Layout) (name : Section) → found ≡ layout bytes
    → (name ≡ names.DebugStr → ⊥)
    → (name ≡ names.DebugLineStr → ⊥) → take found.debug_info.len
    (drop found.debug_info.place bytes) ≡ text_section bytes name
unfolding layout
info-section bytes found names.Elf is a b =
    ap (λ (z : Layout). take z.debug_info.len (drop z.debug_info.place bytes)) is
info-section bytes found names.DebugInfo is a b =
    ap (λ (z : Layout). take z.debug_info.len (drop z.debug_info.place bytes)) is
info-section bytes found names.DebugAbbrev is a b =
    ap (λ (z : Layout). take z.debug_info.len (drop z.debug_info.place bytes)) is
info-section bytes found names.DebugLine is a b =
    ap (λ (z : Layout). take z.debug_info.len (drop z.debug_info.place bytes)) is
info-section bytes found names.DebugLineStr is a b = absurd (b refl)
info-section bytes found names.DebugStr is a b = absurd (a refl)
info-section bytes found names.DebugStrOffsets is a b =
    ap (λ (z : Layout). take z.debug_info.len (drop z.debug_info.place bytes)) is
info-section bytes found names.DebugAddr is a b =
    ap (λ (z : Layout). take z.debug_info.len (drop z.debug_info.place bytes)) is
info-section bytes found names.DebugRnglists is a b =
    ap (λ (z : Layout). take z.debug_info.len (drop z.debug_info.place bytes)) is

pub path-read : (bytes : List ℕ) (lines : Lines) (program : ProgramNo) (file : ℕ)
    (parts : List Text) (tables : List (List ℕ))
    (s : LineSections)
    → s ≡ line_sections bytes → tables ≡ map (part_bytes s) parts
    → path_of lines program file ≡ Some parts
    → Some (join_with_byte 47 tables) ≡ file_path bytes lines program file
path-read bytes lines program file parts tables s is returned found =
    ap (λ (z : List (List ℕ)). Some (join_with_byte 47 z))
    (returned ∙ ap (λ (z : LineSections). map (part_bytes z) parts) is)
    ∙ sym (ap (option_map (path_bytes (line_sections bytes))) found)

-- ---- the start

from-chain : (bytes : List ℕ) (lines : Lines) (chain : List Scope) (row : Option ℕ) (s : Scope)
    (inner : List Scope) → chain ≡ s ∷ inner
    → frames_from bytes lines (reverse chain) (row_site bytes lines row)
    ≡ frames_of bytes lines chain row
from-chain bytes lines chain row s inner is = rw is refl

pub started-some : (bytes : List ℕ) (lines : Lines) (scopes : List Scope) (codes : List ℕ) (a : ℕ)
    (scope row : Option ℕ) (found : Option LineRow) (count code top : ℕ)
    → HaveParents scopes codes → count ≡ length scopes → code ≡ search_start_of count scope
    → found ≡ option_and_then (slice_get lines.rows) row → Some top ≡ top_at a scopes code
    → walk_left bytes lines scopes a code (Row found) false
    ≡ frames_of bytes lines (place_chain a scope scopes) row
started-some bytes lines scopes codes a scope row found count code top have total is read returned =
    let here : place_chain a scope scopes ≡ chain_at a scopes code =
    started-chain a scopes codes scope have
    ∙ sym (ap (λ (n : ℕ). chain_at a scopes n)
    (is ∙ ap (λ (n : ℕ). search_start_of n scope) total)) in
    let full = some-chain a scopes code top (sym returned) in
    rw read
    (from-chain bytes lines (chain_at a scopes code) row full.0 full.1 full.2
    ∙ ap (λ (chain : List Scope). frames_of bytes lines chain row) (sym here))

alone-row : (bytes : List ℕ) (lines : Lines) (scopes : List Scope) (a : ℕ) (row : Option ℕ)
    → walk_left bytes lines scopes a 0 (Row (option_and_then (slice_get lines.rows) row))
    (is_some row) ≡ frames_of bytes lines [] row
alone-row bytes lines scopes a None = refl
alone-row bytes lines scopes a (Some n) = refl

pub started-none : (bytes : List ℕ) (lines : Lines) (scopes : List Scope) (codes : List ℕ) (a : ℕ)
    (scope row : Option ℕ) (found : Option LineRow) (count code : ℕ)
    (alone : Bool)
    → HaveParents scopes codes → count ≡ length scopes → code ≡ search_start_of count scope
    → found ≡ option_and_then (slice_get lines.rows) row → None ≡ top_at a scopes code
    → alone ≡ is_some row
    → walk_left bytes lines scopes a 0 (Row found) alone
    ≡ frames_of bytes lines (place_chain a scope scopes) row
started-none bytes lines scopes codes a scope row found count code alone have total is read returned
    row_is =
    let here : place_chain a scope scopes ≡ chain_at a scopes code =
    started-chain a scopes codes scope have
    ∙ sym (ap (λ (n : ℕ). chain_at a scopes n)
    (is ∙ ap (λ (n : ℕ). search_start_of n scope) total)) in
    let none : place_chain a scope scopes ≡ [] = here ∙ no-chain a scopes code (sym returned) in
    rw (read, row_is) (alone-row bytes lines scopes a row
    ∙ ap (λ (chain : List Scope). frames_of bytes lines chain row) (sym none))

-- ---- one scope more

pub returned-frame : (bytes : List ℕ) (lines : Lines) (scopes : List Scope) (codes : List ℕ)
    (a start k top next : ℕ) (site : FrameSite)
    (alone : Bool)
    → IsNextFrame a scopes codes start k top → k < length scopes → alone ≡ false
    → next ≡ outer_of codes top k
    → walk_left bytes lines scopes a start site alone ≡ frame_view bytes lines scopes
    (Some k) site ∷ walk_left bytes lines scopes
    a next (Call k) alone
returned-frame bytes lines scopes codes a start k top next site alone t lt off is =
    let there : slice_get scopes k ≡ Some (get_or scopes k no_scope) =
    slice_get-get_or scopes k no_scope lt in
    rw (off, is, there) (ap (λ (ss : List Scope). frames_from bytes lines ss
    (site_view bytes lines scopes site)) (t.returned no_scope))
