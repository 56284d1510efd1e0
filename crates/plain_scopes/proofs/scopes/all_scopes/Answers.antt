use Rattle.std.proofs.Common.{arith, ◌≡◌, ◌∙◌, ◌-◌, length}
use Rattle.plain_scopes.proofs.ScopeTurns.{scopes-none, number-is, budget-is, scopes-next}
use Rattle.plain_scopes.proofs.ScopeTurns.{scopes-fault, site-there}
use Rattle.plain_scopes.proofs.scopes.all_scopes.Goals as goal

pub loop-site-init : goal.loop-site-init
loop-site-init c = rw c.new-scopes.ensures.items scopes-none

pub returns-in-Err : goal.returns-in-Err
returns-in-Err c =
    let so_far = c.loop-site.invariant in
    let number : c.len.result ≡ length so_far.made =
    omega (arith, c.len.ensures, number-is so_far, c.loop-site.scopes.ok.0) in
    scopes-fault so_far c.site-item.result c.in-Err.cause
    (site-there _ _ _ _ (c.deref-site-items.ensures.value ∙ c.in_ok-sites.ensures)
    c.loop-site-test.true c.site-item.is)
    (c.in-Err.ensures.parsed so_far.made number (budget-is so_far))
    (rw c.offset-at.ensures at c.at_item.ensures)

pub loop-site-preserved : goal.loop-site-preserved
loop-site-preserved c =
    let so_far = c.loop-site.invariant in
    let number : c.len.result ≡ length so_far.made =
    omega (arith, c.len.ensures, number-is so_far, c.loop-site.scopes.ok.0) in
    rw c.in_ok-push-in-Ok.ensures.items (scopes-next so_far c.site-item.result
    (record { scope = c.in-Ok.scope; items = c.in-Ok.items })
    (c.loop-site.left - c.in-Ok.items)
    (site-there _ _ _ _ (c.deref-site-items.ensures.value ∙ c.in_ok-sites.ensures)
    c.loop-site-test.true c.site-item.is)
    (c.in-Ok.ensures.parsed so_far.made number (budget-is so_far))
    (omega (arith, c.in-Ok.ensures.budget)))
