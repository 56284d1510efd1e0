use Rattle.addr_table.proofs.Searching.SegmentListLaws.{place_among-segments, segments_are_disjoint}
use Rattle.addr_table.proofs.Searching.SegmentLaws.{places-in}
use Rattle.addr_table.proofs.laws.segments_give_places.Goals as goal

pub returns : goal.returns
returns c =
    record { places = place_among-segments; order = segments_are_disjoint; bytes = places-in }
