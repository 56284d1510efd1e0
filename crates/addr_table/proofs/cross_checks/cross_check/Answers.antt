use Rattle.std.proofs.lemmas.Result.{err_from_is_err_and}
use Rattle.addr_table.specs.CrossChecks.{check_unit}
use Rattle.addr_table.proofs.Decoding.EachTurns.{each_none}
use Rattle.addr_table.proofs.Decoding.CrossCheckLaws.{root-contained, units-more, units-invalid}
use Rattle.addr_table.proofs.Decoding.CrossCheckLaws.{units-over}
use Rattle.addr_table.proofs.cross_checks.cross_check.Goals as goal

pub loop-root-init : goal.loop-root-init
loop-root-init c = each_none (check_unit c.args.lines.now c.args.scopes.now.scopes)
    c.args.scopes.now.roots

pub returns-in_err-check_unit : goal.returns-in_err-check_unit
returns-in_err-check_unit c =
    let p = err_from_is_err_and c.from_residual.result c.from_residual.ensures.1 in
    rw (p.1, p.2)
    (units-invalid c.args.lines.now c.args.scopes.now _ _ _ _ c.roots-root-items.ensures
    c.loop-root.invariant c.loop-root-test.true
    c.in_err-check_unit.ensures)

pub loop-root-preserved : goal.loop-root-preserved
loop-root-preserved c =
    units-more c.args.lines.now c.args.scopes.now _ _ _ tt c.roots-root-items.ensures
    c.loop-root.invariant c.loop-root-test.true
    c.in_ok-check_unit.ensures

pub returns : goal.returns
returns c = units-over c.args.lines.now c.args.scopes.now _ _ c.roots-root-items.ensures
    c.loop-root.invariant c.loop-root-test.false

pub check_unit-requires : goal.check_unit-requires
check_unit-requires c = record {
  order = c.requires.order;
  unit = c.requires.units _ (root-contained c.args.scopes.now _ _ _ c.roots-root-items.ensures
      c.loop-root-test.true);
}
