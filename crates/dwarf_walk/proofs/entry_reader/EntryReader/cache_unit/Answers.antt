use Rattle.std.proofs.{Common.{arith}, lemmas.Bool.Decides.eqb_tells}
use Rattle.dwarf_walk.proofs.entry_reader.EntryReader.cache_unit.Goals as goal
use Rattle.dwarf_walk.proofs.entry_reader.EntryReader.cache_unit.Goals.{then-has_entry+in_ok-cache_entry}
use Rattle.dwarf_walk.proofs.entry_reader.EntryReader.cache_unit.Goals.{else-has_entry}

pub returns-in_err-cache_entry-clause-reader : goal.returns-in_err-cache_entry-clause-reader
returns-in_err-cache_entry-clause-reader c s reader =
    c.in_err-cache_entry.ensures.reader s (c.loop-offset.invariant.reader s reader)

pub loop-offset-preserved : goal.loop-offset-preserved
loop-offset-preserved c = record {
  reader = λ s reader.
      let before = c.loop-offset.invariant.reader s reader in
      elim c.if-has_entry.branch [
        | then-has_entry+in_ok-cache_entry w ↦ rw w.self-is (w.in_ok-cache_entry.ensures.reader
            s before)
        | else-has_entry w ↦ rw w.self-is before
      ];
  cached = λ s at reader from below marked table entry is names_at.
      let before = c.loop-offset.invariant.cached s at reader from in
      elim c.if-has_entry.branch [
        | then-has_entry+in_ok-cache_entry w ↦
            let here = w.in_ok-cache_entry.ensures.cached s
            (c.loop-offset.invariant.reader s reader) table entry is in
            let others = w.in_ok-cache_entry.ensures.others at in
            rw w.self-is (grind (arith, eqb_tells at c.loop-offset.offset, before, here, others))
        | else-has_entry w ↦ rw w.self-is (grind (arith, before))
      ];
}
