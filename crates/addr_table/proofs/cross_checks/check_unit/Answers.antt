use Rattle.std.proofs.Common.{sym}
use Rattle.addr_table.proofs.Decoding.CrossCheckLaws.{files-of-root, unit-valid}
use Rattle.addr_table.proofs.cross_checks.check_unit.Goals as goal

pub returns : goal.returns
returns c =
    unit-valid _ _ _ _ (sym c.if-is_invalid_root.ensures)
    (c.check_scopes.ensures _
    (files-of-root _ _ c.args.root.now _ c.requires.unit c.files_at-files.ensures))
