use Rattle.std.proofs.Common.{arith}
use Rattle.dwarf_units.{proofs.EntryOrder.list-in, specs.Entries.entries_of}
use Rattle.dwarf_walk.proofs.{ScopeLaws.places-counted, WalkTurns.walk-bounded}
use Rattle.dwarf_walk.proofs.walk.entries.Goals as goal

pub count_descendants-requires : goal.count_descendants-requires
count_descendants-requires c =
    rw c.deref.ensures.value (walk-bounded _ _ c.in_ok-walk.ensures.decodes)

pub returns-clause-decodes : goal.returns-clause-decodes
unfolding entries_of
returns-clause-decodes c = grind (arith, places-counted)

pub returns-clause-bitmap : goal.returns-clause-bitmap
returns-clause-bitmap c dies is =
    let all = list-in c.args.info.now c.args.header c.args.table.now.declarations dies is in
    rw (← all.4) (c.in_ok-walk.ensures.bitmap (all.0, all.1) all.2)
