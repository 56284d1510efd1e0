use Rattle.std.proofs.Common.{arith}
use Rattle.dwarf_walk.proofs.entry_reader.EntryReader.cache_entry.Goals as goal

pub returns-in_err-insert-in-Ok-clause-reader : goal.returns-in_err-insert-in-Ok-clause-reader
returns-in_err-insert-in-Ok-clause-reader c s reader =
    let read = c.in-Ok.ensures.reader s reader in record {
      section = read.section;
      info = read.info;
      long = λ at. rw (c.in_err-insert-in-Ok.ensures.err at) (read.long at);
    }

pub returns-in_ok-insert-in-Ok-clause-reader : goal.returns-in_ok-insert-in-Ok-clause-reader
returns-in_ok-insert-in-Ok-clause-reader c s reader =
    let read = c.in-Ok.ensures.reader s reader in record {
      section = read.section;
      info = read.info;
      long = λ at cached is table parsed. grind (
        arith,
        is,
        parsed,
        read.long at cached,
        c.in_ok-insert-in-Ok.ensures.ok at,
        c.in-Ok.ensures.names_at s table reader,
      );
    }
