use Rattle.dwarf_bytes.proofs.Fixed.{fixed-gives}
use Rattle.dwarf_bytes.proofs.cursor.Cursor.u64.Goals as goal

pub returns-clause-reads : goal.returns-clause-reads
returns-clause-reads c = (
  fixed-gives 8 _ _ _ _ _ c.in_ok-block.ensures.block.0 c.in_ok-block.ensures.len
      c.read_u64.ensures,
  c.in_ok-block.ensures.block.1,
)
