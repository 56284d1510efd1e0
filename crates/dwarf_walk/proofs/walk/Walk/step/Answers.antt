use Rattle.std.proofs.Common.{ap, not, ◌+◌}
use Rattle.dwarf_units.specs.{Entries.Entry, StoredAttributes.stored_attributes}
use Rattle.dwarf_walk.{proofs.StoredNodes.entry-added, specs.Private.Readers.state_of}
use Rattle.dwarf_walk.proofs.walk.Walk.step.Goals as goal

pub returns : goal.returns
returns c =
    let head = c.in-Some.head in
    let read = rw c.in-Some.is at c.in_ok-head.ensures.reads.0 in
    let attributes = stored_attributes (not c.is_some-rooted.result) read.0 in
    let kept = rw c.is_some-rooted.ensures at (c.in_ok-keep.ensures attributes read.2) in (
      Entry head.tag head.children read.0,
      rw (
        c.in_ok-seek.ensures.ok,
        c.new-cursor.ensures,
        c.is_some-rooted.ensures,
        ← c.place-2.ensures.place,
      ) at read.1,
      (
        entry-added (state_of c.args.self.now c.args.depths.now)
            (state_of c.keep.new.self c.keep.new.depths) c.args.place _ head.tag
            head.children read.0 kept (ap (λ n. c.keep.new.depths.next + n) c.from.ensures),
        c.in_ok-add_offset.ensures,
      ),
    )
