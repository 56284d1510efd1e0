-- The segments of bytes: they are disjoint and few, and agree with a linear scan.
use Rattle.std.proofs.Common.{◌≡◌, ℕ, ◌+◌, ◌*◌, ◌≤◌, List, [], length, refl, arith}
use Rattle.std.specs.Prelude.{None, Result, Ok, Err, sum_by}
use Rattle.dwarf_bytes.specs.declared.fault.LoadFault.{LoadFault}
use Rattle.addr_table.specs.Decoded.{Decoded, decoded}
use Rattle.addr_table.specs.Places.{place_at}
use Rattle.addr_table.specs.Segments.{Segment, AreDisjoint, segments_of, place_among}
use Rattle.addr_table.specs.Module.{by_decoded, segments_in, most_segments_in, place_in}
use Rattle.addr_table.proofs.Searching.SegmentListLaws.{place_among-segments, segments_are_disjoint}
use Rattle.addr_table.proofs.Sweeping.BoundLaws.{segments-bounded}

abbrev segments_by : Result Decoded LoadFault → List Segment
segments_by = by_decoded [] (λ d. segments_of d.lines.rows d.tree.scopes)

disjoint-by : (read : Result Decoded LoadFault) → AreDisjoint (segments_by read)
disjoint-by (Ok d) = segments_are_disjoint d.lines.rows d.tree.scopes
disjoint-by (Err fault) = tt

pub disjoint-in : (bytes : List ℕ) → AreDisjoint (segments_in bytes)
unfolding segments_in
disjoint-in bytes = disjoint-by (decoded bytes)

few-by : (read : Result Decoded LoadFault) → length (segments_by read)
    ≤ by_decoded 0 (λ d. 2 * sum_by (λ s. length s.ranges) d.tree.scopes + length d.lines.rows) read
few-by (Ok d) = segments-bounded d.lines.rows d.tree.scopes
few-by (Err fault) = omega arith

pub few-in : (bytes : List ℕ) → length (segments_in bytes) ≤ most_segments_in bytes
unfolding segments_in most_segments_in
few-in bytes = few-by (decoded bytes)

places-by : (read : Result Decoded LoadFault) (link : ℕ) → place_among (segments_by read) link
    ≡ by_decoded None (λ d. place_at d.lines.rows d.tree.scopes link) read
places-by (Ok d) link = place_among-segments d.lines.rows d.tree.scopes link
places-by (Err fault) link = refl

pub places-in : (bytes : List ℕ) (link : ℕ) → place_among (segments_in bytes) link
    ≡ place_in bytes link
unfolding segments_in place_in
places-in bytes link = places-by (decoded bytes) link
