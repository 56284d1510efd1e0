use Rattle.dwarf_walk.specs.{EntryBitmap.has_entry, Rereading.{IsCachedAt, IsReaderOf}}
use Rattle.dwarf_walk.specs.Sections.{Sections}
use Rattle.std.proofs.Common.{true, ℕ, ◌<◌, ◌≡◌, ◌≤◌}
use Rattle.dwarf_walk.proofs.entry_reader.EntryReader.cache_unit.Given as goal

abbrev pub invariant-loop-offset : goal.invariant-loop-offset
invariant-loop-offset l = record {
  reader : (s : Sections) → IsReaderOf s l.fn.self → IsReaderOf s l.self;
  cached : (s : Sections) (at : ℕ) → IsReaderOf s l.fn.self → l.unit.header.first ≤ at
      → at < l.offset → has_entry l.bitmap at ≡ true → IsCachedAt s l.unit.header l.self at;
}
