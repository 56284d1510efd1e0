use Rattle.std.proofs.Common.{◌≡◌, ◌+◌, ◌<◌, ◌≤◌, ℕ, length, get_or, subst, arith}
use Rattle.dwarf_entries.specs.Scopes.{own_of}
use Rattle.addr_table.specs.Private.Sweep.{AddsStarts, reaches_in}
use Rattle.addr_table.proofs.Chains.ChainLaws.{number-at}
use Rattle.addr_table.proofs.Chains.ChainWalks.{no_scope}
use Rattle.addr_table.proofs.Scanning.ScanLaws.{returned-number}
use Rattle.addr_table.proofs.Endpoints.StartTurns.{adding-same, adding-more, adding-end}
use Rattle.addr_table.proofs.Endpoints.StartTurns.{scope-begins}
use Rattle.addr_table.proofs.Endpoints.StartTurns.{scopes-end}
use Rattle.addr_table.proofs.starts.starts_and_parents.Goals as goal

pub add_scope-requires : goal.add_scope-requires
add_scope-requires c =
    let lt : c.loop-number.number < length c.args.scopes.now.scopes =
    omega (arith, c.loop-number-test.true, c.count-total.ensures.count) in
    let at =
    number-at 0 (length c.args.scopes.now.scopes) c.loop-number.number c.args.scopes.now.scopes
    no_scope c.requires.order.numbered lt in
    let place : (get_or c.args.scopes.now.scopes c.loop-number.number no_scope).number
    ≡ 0 + c.loop-number.number = at.0 in
    let number : (own_of c.scope_at.result.now).number
    ≡ (get_or c.args.scopes.now.scopes c.loop-number.number no_scope).number =
    returned-number _ _ _ (c.scope_at.ensures no_scope) in
    record { few = omega (arith, c.requires.few, c.count-total.ensures.count) }

pub loop-number-preserved : goal.loop-number-preserved
loop-number-preserved c =
    let lt : c.loop-number.number < length c.args.scopes.now.scopes =
    omega (arith, c.loop-number-test.true, c.count-total.ensures.count) in
    let adds = c.in_ok-add_scope.ensures _ (c.scope_at.ensures no_scope) in
    let T : ℕ → Type 0 =
    λ t. AddsStarts (reaches_in c.args.rows t
    (get_or c.args.scopes.now.scopes c.loop-number.number no_scope))
    c.loop-number.starts c.add_scope.new.self in
    record {
      starts = adding-more _ _ _ _ _ _ (adding-same _ _ _ _ _
          (scope-begins _ _ _ _ no_scope lt) c.loop-number.invariant.starts)
          (subst T c.count-total.ensures.count adds);
      parents = c.in_ok-add_parent.ensures.parents;
      len = omega (arith, c.in_ok-add_parent.ensures.len, c.loop-number.invariant.len);
    }

pub returns-clause-starts : goal.returns-clause-starts
returns-clause-starts c =
    let past : length c.args.scopes.now.scopes ≤ c.loop-number.number =
    omega (arith, c.loop-number-test.false, c.count-total.ensures.count) in
    adding-end _ _ _ _ (scopes-end c.args.rows (length c.args.scopes.now.scopes)
    c.loop-number.number c.args.scopes.now.scopes past)
    c.loop-number.invariant.starts
