use Rattle.addr_table.proofs.Decoding.ModuleLaws.{site-returned}
use Rattle.addr_table.proofs.module.Module.site.Goals as goal

pub returns : goal.returns
returns c = rw (← c.self.view_is)
    (rw (c.row_path.ensures, c.row_line.ensures, c.row-row.ensures, c.as_slice.ensures.value)
    (site-returned _ _ _ _ _ _ _ c.args.place c.self.invariant))
