-- The values of frames and paths.
use Rattle.std.specs.Prelude.{ℕ, List, [], ◌∷◌, ◌++◌, reverse, Bool, true, false, Option}
use Rattle.std.specs.Prelude.{Some, None, option_map, unwrap_or, slice_get, take, drop, ◌==◌}
use Rattle.std.specs.Option.{option_and_then, option_map_or}
use Rattle.dwarf_bytes.specs.declared.layout.Layout.{Layout}
use Rattle.dwarf_lines.specs.Sections.{LineSections}
use Rattle.dwarf_lines.specs.Lines.{Lines}
use Rattle.dwarf_entries.specs.Scopes.{Scope}
use Rattle.dwarf_entries.specs.declared.text_offset.TextOffset.{TextOffset}
use Rattle.addr_table.specs.declared.object_tables.FrameSite.{FrameSite}
use Rattle.addr_table.specs.declared.object_tables.FrameSite.TheVariants.{Row, Call}
use Rattle.addr_table.specs.Frames.{Frame, Site, nowhere, frame_at, site_of_row, call_site}
use Rattle.addr_table.specs.Frames.{frames_from, text_section}
use Rattle.dwarf_lines.specs.declared.row.Row.{Row as LineRow}
use Rattle.addr_table.specs.Private.Walks.{chain_at}

-- the sections of line programs and of their strings, at the spans of a layout
abbrev pub sections_in : List ℕ → Layout → LineSections
sections_in bytes found = record {
  line = take found.debug_line.len (drop found.debug_line.place bytes);
  line_str = take found.debug_line_str.len (drop found.debug_line_str.place bytes);
  str = take found.debug_str.len (drop found.debug_str.place bytes);
}

-- the site of a row, if there is one
abbrev pub optional_row_site : List ℕ → Lines → Option LineRow → Site
optional_row_site bytes lines row = unwrap_or (option_map (site_of_row bytes lines) row) nowhere

-- the site of a frame: a row, or the call site of the scope with this number
abbrev pub site_view : List ℕ → Lines → List Scope → FrameSite → Site
site_view bytes lines scopes (Row row) = optional_row_site bytes lines row
site_view bytes lines scopes (Call number) =
    unwrap_or (option_map (call_site bytes lines) (slice_get scopes number)) nowhere

-- the frame of the scope with this number, or of a row without a scope
abbrev pub frame_view : List ℕ → Lines → List Scope → Option ℕ → FrameSite → Frame
frame_view bytes lines scopes number site =
    let scope = option_and_then (slice_get scopes) number in
    frame_at bytes (option_and_then (λ s. s.name) scope)
    (option_and_then (λ s. s.linkage_name) scope) (site_view bytes lines scopes site)

-- whether there is a name that is empty: its first byte is the NUL that ends it
abbrev pub is_empty_name : List ℕ → Option TextOffset → Bool
is_empty_name bytes None = false
is_empty_name bytes (Some text) = option_map_or (λ byte. byte == 0)
    (slice_get (text_section bytes text.section) text.offset) false

-- the frame of a row without a scope
abbrev pub row_frame : Bool → List ℕ → Site → List Frame
row_frame true bytes site = frame_at bytes None None site ∷ []
row_frame false bytes site = []

-- the remaining frames of a walk over a chain: the frames of the scope of `code` and of its
-- enclosing scopes
abbrev pub walk_left : List ℕ → Lines → List Scope → ℕ → ℕ → FrameSite → Bool → List Frame
walk_left bytes lines scopes link code site alone =
    let here = site_view bytes lines scopes site in
    row_frame alone bytes here
    ++ frames_from bytes lines (reverse (chain_at link scopes code)) here

-- the remaining frames of a walk, if there is one
abbrev pub frames_left : Option (List Frame) → List Frame
frames_left walk = unwrap_or walk []
