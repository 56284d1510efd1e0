use Rattle.dwarf_entries.proofs
use proofs.{[], inl, inr, refl, arith, ◌∙◌, None-from-no-Some, followed-none, followed-next}
use proofs.{followed-end, followed-deep, followed-lost, target-there, exit}
use Rattle.dwarf_entries.proofs.units.Units.first_names.Goals as goal

pub loop-last-init : goal.loop-last-init
loop-last-init c = record {
  same = refl;
  so_far = λ m at. followed-none at (c.or-firsts.ensures c.args.self.now.units [] m
      (record { name = refl; linkage_name = refl }) at);
}

pub returns-then-left-eq0-clause-names : goal.returns-then-left-eq0-clause-names
returns-then-left-eq0-clause-names c m at =
    inr (followed-deep (c.loop-last.invariant.so_far m at) c.in-Some.reference c.in-Some.is
    c.if-left-eq0.true)

pub returns-in_default-target-clause-names : goal.returns-in_default-target-clause-names
returns-in_default-target-clause-names c m at =
    inr (followed-lost (c.loop-last.invariant.so_far m at) c.in-Some.reference c.in-Some.is
    c.target.result (rw c.loop-last.invariant.same at c.target.ensures) c.if-left-eq0.false
    (None-from-no-Some _ c.in_default-target.not-Some))

pub returns-in_err-last-clause-names : goal.returns-in_err-last-clause-names
returns-in_err-last-clause-names c m at =
    let n = target-there (c.loop-last.invariant.so_far m at) c.in-Some.reference c.in-Some.is _
    (rw c.loop-last.invariant.same at c.in-Some-target.ensures) c.in-Some-target.place refl in
    rw (exit _ c.from_residual.ensures.1)
    (inl ((rw c.loop-last.invariant.same at c.in_err-last.ensures.member) n.0 n.2))

pub loop-last-preserved : goal.loop-last-preserved
loop-last-preserved c =
    let not_none = c.if-left-eq0.false in
    record {
      same = c.in_ok-last.ensures.same ∙ c.loop-last.invariant.same;
      so_far = λ m at. followed-next (c.loop-last.invariant.so_far m at) c.in-Some.reference
          c.in-Some.is _ (rw c.loop-last.invariant.same at c.in-Some-target.ensures) _
          c.in-Some-target.place c.in_ok-last.last _ (omega (arith, not_none)) refl
          (rw c.loop-last.invariant.same at c.in_ok-last.ensures.member)
          (c.or-firsts-in-Some.ensures c.args.self.now.units);
    }

pub returns-clause-names : goal.returns-clause-names
returns-clause-names c m at = grind (arith, followed-end)
