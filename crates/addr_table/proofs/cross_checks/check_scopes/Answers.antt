use Rattle.std.proofs.Common.{◌≡◌, ◌∙◌, get_or, refl, sym, arith}
use Rattle.dwarf_lines.specs.Lines.{Lines}
use Rattle.addr_table.specs.CrossChecks.{is_invalid_scope}
use Rattle.addr_table.specs.Private.CallFiles.{HaveFiles}
use Rattle.addr_table.proofs.Decoding.CrossCheckLaws.{scopes-none, scopes-more, scopes-invalid}
use Rattle.addr_table.proofs.Decoding.CrossCheckLaws.{scopes-over}
use Rattle.addr_table.proofs.Decoding.CrossCheckLaws.{OfUnit, files-there}
use Rattle.addr_table.proofs.Decoding.CrossCheckLaws.{returned-offset}
use Rattle.addr_table.proofs.Chains.ChainWalks.{no_scope}
use Rattle.addr_table.proofs.cross_checks.check_scopes.Goals as goal
use Rattle.addr_table.proofs.cross_checks.check_scopes.Goals.{After-is_invalid_scope}

of_unit : (c : After-is_invalid_scope) → OfUnit c.args.scopes.now.scopes c.args.first c.args.past
    c.loop-number.number
of_unit c = record {
  low = c.loop-number.auto.number;
  high = omega (arith, c.loop-number-test.true, c.min-number-end.ensures, c.count.ensures.count);
}

-- the outcome of the test of a scope is that of the definition
tested : (c : After-is_invalid_scope) (lines : Lines)
    → HaveFiles lines c.args.scopes.now.scopes c.args.files c.args.first c.args.past
    → c.is_invalid_scope.result
    ≡ is_invalid_scope lines (get_or c.args.scopes.now.scopes c.loop-number.number no_scope)
tested c lines have =
    c.is_invalid_scope.ensures lines _ (c.scope_at-scope.ensures no_scope)
    (files-there _ _ _ _ _ _ no_scope c.requires (of_unit c) have)

pub loop-number-init : goal.loop-number-init
loop-number-init c = λ lines have. scopes-none _ _ _ _

pub loop-number-preserved : goal.loop-number-preserved
loop-number-preserved c =
    let a = (goal.at.loop-number-preserved c).After-is_invalid_scope in
    λ lines have. scopes-more _ _ _ _ _ no_scope (of_unit a) (c.loop-number.invariant lines have)
    (sym (tested a lines have) ∙ c.if-is_invalid_scope.false)

pub returns-then-is_invalid_scope : goal.returns-then-is_invalid_scope
returns-then-is_invalid_scope c =
    let a = (goal.at.returns-then-is_invalid_scope c).After-is_invalid_scope in
    λ lines have. rw (c.at_item.ensures) (
      refl,
      scopes-invalid _ _ _ _ _ _ no_scope (of_unit a) (c.loop-number.invariant lines have)
          (sym (tested a lines have) ∙ c.if-is_invalid_scope.true)
          (c.offset-at.ensures ∙ returned-offset _ _ _ (c.scope_at-scope.ensures no_scope)),
    )

pub returns : goal.returns
returns c =
    λ lines have. scopes-over _ _ _ _ _ (c.loop-number.invariant lines have)
    (omega (arith, c.loop-number-test.false, c.min-number-end.ensures, c.count.ensures.count))
