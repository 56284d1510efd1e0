use Rattle.dwarf_walk.specs.LongEntries.{long_entry}
use Rattle.std.proofs.Common.{arith, inl}
use Rattle.dwarf_walk.proofs.entry_reader.EntryReader.names_at.Goals as goal

pub returns-in-Some-clause-names_at : goal.returns-in-Some-clause-names_at
returns-in-Some-clause-names_at c s table reader is =
    reader.long c.args.offset (long_entry c.args.unit.now.header c.in-Some.entry)
    c.in-Some.ensures.some table is

pub returns-in_err-cache_unit-clause-reader : goal.returns-in_err-cache_unit-clause-reader
returns-in_err-cache_unit-clause-reader c s reader =
    c.in_err-cache_unit.ensures.reader s (c.in_ok-entry.ensures.reader s reader)

pub returns-in_ok-cache_unit-clause-reader : goal.returns-in_ok-cache_unit-clause-reader
returns-in_ok-cache_unit-clause-reader c s reader =
    c.in_ok-cache_unit.ensures.reader s (c.in_ok-entry.ensures.reader s reader)

pub returns-in_err-cache_entry-clause-reader : goal.returns-in_err-cache_entry-clause-reader
returns-in_err-cache_entry-clause-reader c s reader =
    c.in_err-cache_entry.ensures.reader s (c.in_ok-entry.ensures.reader s reader)

pub returns-in_ok-cache_entry-clause-reader : goal.returns-in_ok-cache_entry-clause-reader
returns-in_ok-cache_entry-clause-reader c s reader =
    c.in_ok-cache_entry.ensures.reader s (c.in_ok-entry.ensures.reader s reader)

pub returns-in-Some-clause-holds : goal.returns-in-Some-clause-holds
returns-in-Some-clause-holds c s table reader is from below marked =
    inl (λ other entry other_is names_at. grind (
      arith,
      c.in-Some.ensures.some,
      names_at,
      reader.long c.args.offset _ c.in-Some.ensures.some other other_is,
    ))

pub returns-in_ok-cache_unit-clause-holds : goal.returns-in_ok-cache_unit-clause-holds
returns-in_ok-cache_unit-clause-holds c s table reader is from below marked =
    inl (c.in_ok-cache_unit.ensures.cached s c.args.offset (c.in_ok-entry.ensures.reader s reader)
    from
    below marked)

pub returns-in_ok-cache_entry-clause-holds : goal.returns-in_ok-cache_entry-clause-holds
returns-in_ok-cache_entry-clause-holds c s table reader is from below marked =
    inl (c.in_ok-cache_entry.ensures.cached s (c.in_ok-entry.ensures.reader s reader))
