use Rattle.std.proofs.Common.{◌-◌, ◌*◌, refl}
use Rattle.dwarf_bytes.specs.Private.Nuls.{block_len}
use Rattle.dwarf_bytes.proofs.Strings.NulIndex.{nuls-next}
use Rattle.dwarf_bytes.proofs.text_index.first_nuls.Goals as goal

pub loop-block-preserved : goal.loop-block-preserved
loop-block-preserved c =
    rw (c.in_ok-push.ensures.items, c.or-later.ensures)
    (nuls-next c.args.section.now c.loop-block.nuls.items c.loop-block.block
    ((c.loop-block.block - 1) * block_len) c.loop-block.later c.nul_in_block.result
    c.loop-block.invariant c.loop-block-test.true refl c.nul_in_block.ensures)
