-- The results of a module, from its stored data.
use Rattle.std.proofs.Common.{◌≡◌, ◌∙◌, ℕ, ◌≤◌, ◌<◌, List, ap, refl, sym}
use Rattle.dwarf_bytes.specs.declared.layout.Layout.{Layout}
use Rattle.dwarf_bytes.specs.Elf.{layout}
use Rattle.dwarf_lines.specs.Lines.{Lines}
use Rattle.std.specs.Prelude.{Option}
use Rattle.dwarf_lines.specs.declared.row.Row.{Row}
use Rattle.dwarf_entries.specs.Scopes.{Scope, Tree}
use Rattle.addr_table.specs.Rows.{row_at}
use Rattle.addr_table.specs.Places.{place_at, place_of, scope_at}
use Rattle.addr_table.specs.Segments.{Segment, place_among}
use Rattle.addr_table.specs.Module.{low_of, high_of, place_in, frames_in, segments_in}
use Rattle.addr_table.specs.Module.{least_calls_in}
use Rattle.addr_table.specs.Module.{most_calls_in}
use Rattle.addr_table.specs.declared.place.Place.{Place}
use Rattle.addr_table.specs.Frames.{frames_of, frames_at, place_chain, row_site}
use Rattle.addr_table.specs.Frames.{first_site}
use Rattle.addr_table.proofs.FrameWalks.SiteLaws.{site-of-frames}
use Rattle.addr_table.specs.Private.Walks.{HaveParents}
use Rattle.addr_table.specs.Private.Decoded.{IsDecoded}
use Rattle.addr_table.proofs.Decoding.ExtentLaws.{elf-valid, low-below-high}
use Rattle.addr_table.proofs.Searching.SegmentListLaws.{place_among-segments}

pub low_returned : (bytes : List ℕ) (found : Layout) → found ≡ layout bytes → found.low
    ≡ low_of bytes
unfolding low_of layout
low_returned bytes found is = ap (λ (z : Layout). z.low) is

pub high_returned : (bytes : List ℕ) (found : Layout) → found ≡ layout bytes
    → found.high ≡ high_of bytes
unfolding high_of layout
high_returned bytes found is = ap (λ (z : Layout). z.high) is

pub place-returned : (bytes : List ℕ) (sections : Layout) (lines : Lines) (tree : Tree)
    (codes : List ℕ)
    (list : List Segment) (calls link : ℕ)
    → IsDecoded bytes sections lines tree codes list calls
    → place_among list link ≡ place_in bytes link
unfolding place_in
place-returned bytes sections lines tree codes list calls link h =
    rw h.is_decoded (ap (λ (cs : List Segment). place_among cs link) h.segments_are
    ∙ place_among-segments lines.rows tree.scopes link)

pub segments-returned : (bytes : List ℕ) (sections : Layout) (lines : Lines) (tree : Tree)
    (codes : List ℕ)
    (list : List Segment) (calls : ℕ)
    → IsDecoded bytes sections lines tree codes list calls → list ≡ segments_in bytes
unfolding segments_in
segments-returned bytes sections lines tree codes list calls h = rw h.is_decoded h.segments_are

pub least-returned : (bytes : List ℕ) (sections : Layout) (lines : Lines) (tree : Tree)
    (codes : List ℕ)
    (list : List Segment) (calls : ℕ)
    → IsDecoded bytes sections lines tree codes list calls → least_calls_in bytes ≤ calls
unfolding least_calls_in
least-returned bytes sections lines tree codes list calls h = rw h.is_decoded h.least

pub most-returned : (bytes : List ℕ) (sections : Layout) (lines : Lines) (tree : Tree)
    (codes : List ℕ)
    (list : List Segment) (calls : ℕ)
    → IsDecoded bytes sections lines tree codes list calls → calls ≤ most_calls_in bytes
unfolding most_calls_in
most-returned bytes sections lines tree codes list calls h = rw h.is_decoded h.most

-- the row and the scope that a linear scan finds are the place
pub place-scanned : (bytes : List ℕ) (sections : Layout) (lines : Lines) (tree : Tree)
    (codes : List ℕ) (list : List Segment) (calls : ℕ)
    (rows : List Row) (scopes : List Scope) (row scope : Option ℕ) (link : ℕ)
    → IsDecoded bytes sections lines tree codes list calls
    → rows ≡ lines.rows → scopes ≡ tree.scopes → row ≡ row_at rows link
    → scope ≡ scope_at scopes link
    → place_of row scope link ≡ place_in bytes link
unfolding place_in place_at
place-scanned bytes sections lines tree codes list calls rows scopes row scope link h rows_are
    scopes_are row_is scope-is =
    let R : row ≡ row_at lines.rows link =
    row_is ∙ ap (λ (rs : List Row). row_at rs link) rows_are in
    let S : scope ≡ scope_at tree.scopes link =
    scope-is ∙ ap (λ (ss : List Scope). scope_at ss link) scopes_are in
    rw (h.is_decoded, R, S) refl

pub extent-returned : (bytes : List ℕ) (sections : Layout) (lines : Lines) (tree : Tree)
    (codes : List ℕ) (list : List Segment) (calls : ℕ)
    → IsDecoded bytes sections lines tree codes list calls → low_of bytes < high_of bytes
extent-returned bytes sections lines tree codes list calls h =
    low-below-high bytes (elf-valid bytes _ h.is_decoded)

pub frames-returned : (bytes : List ℕ) (sections : Layout) (lines : Lines) (tree : Tree)
    (codes : List ℕ) (list : List Segment) (calls : ℕ)
    (place : Place)
    → IsDecoded bytes sections lines tree codes list calls
    → frames_of bytes lines (place_chain place.link place.scope tree.scopes) place.row
    ≡ frames_in bytes place
unfolding frames_in frames_at
frames-returned bytes sections lines tree codes list calls place h = rw h.is_decoded refl

pub parents-returned : (bytes : List ℕ) (sections : Layout) (lines : Lines) (tree : Tree)
    (codes : List ℕ) (list : List Segment) (calls : ℕ)
    → IsDecoded bytes sections lines tree codes list calls → HaveParents tree.scopes codes
parents-returned bytes sections lines tree codes list calls h =
    record { order = h.order; parents = h.parents_are; all = h.parents_all }

pub site-returned : (bytes : List ℕ) (sections : Layout) (lines : Lines) (tree : Tree)
    (codes : List ℕ) (list : List Segment) (calls : ℕ)
    (place : Place)
    → IsDecoded bytes sections lines tree codes list calls
    → row_site bytes lines place.row ≡ first_site (frames_in bytes place)
unfolding frames_in frames_at
site-returned bytes sections lines tree codes list calls place h =
    rw h.is_decoded (sym (site-of-frames bytes lines
    (place_chain place.link place.scope tree.scopes) place.row))
