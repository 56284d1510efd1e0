use Rattle.std.proofs.Common.{◌∙◌}
use Rattle.addr_table.proofs.Decoding.ModuleLaws.{frames-returned, parents-returned}
use Rattle.addr_table.proofs.module.Module.frames.Goals as goal

pub returns : goal.returns
returns c = rw (← c.self.view_is) (rw c.as_slice.ensures.value at c.of.ensures
    ∙ frames-returned _ _ _ _ _ _ _ c.args.place c.self.invariant)

pub of-requires : goal.of-requires
of-requires c = rw c.as_slice-2.ensures.value (parents-returned _ _ _ _ _ _ _ c.self.invariant)
