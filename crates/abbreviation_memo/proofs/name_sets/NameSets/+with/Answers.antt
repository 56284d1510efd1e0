use Rattle.abbreviation_memo.specs.{Private.NameSets.side, declared.name_sets.Branch.Branch}
use Rattle.dwarf_forms.proofs.Elements.{if-ok}
use Rattle.std.proofs.Common.{[], arith, length, length-append, true, ℕ, ◌%◌, ◌++◌, ◌+◌, ◌/◌, ◌<◌}
use Rattle.std.proofs.{Common.{◌∷◌, ◌≡◌, ◌≤◌}, lemmas.Int.Digits.length-digits_of_step}
use Rattle.abbreviation_memo.proofs.SetLaws.{HasMore, branch-last, is_in_more, is_in_zero}
use Rattle.abbreviation_memo.proofs.SetLaws.{more-bits}
use Rattle.abbreviation_memo.proofs.name_sets.NameSets.+with.Goals as goal

pub returns-then-name-eq0-clause-names : goal.returns-then-name-eq0-clause-names
returns-then-name-eq0-clause-names t c =
    let old = c.args.self.now in
    let new = c.put.new.self in
    let b = c.branch-branch.result in
    let ended : Branch = record { ends = true; zero = b.zero; one = b.one } in
    if-ok (λ (more : ℕ). (more ≡ length old) × (new ≡ old ++ ended ∷ []))
    (λ (more : ℕ). HasMore old new c.args.set more c.args.name) c.put.result c.put.ensures.ok
    (λ more made x. grind (
      arith,
      c.branch-branch.ensures.value,
      c.branch-branch.ensures.within,
      c.if-name-eq0.true,
      branch-last old new more ended made.0 made.1,
      is_in_zero new more,
      is_in_more new more x,
      is_in_more old c.args.set x,
      c.put.ensures.stay.same (side b (x % 2)) (x / 2),
    ))

pub returns-clause-names : goal.returns-clause-names
returns-clause-names t c =
    let mid = c.with.new.self in
    let new = c.put-2.new.self in
    let turned = c.with_side.result in
    let some : 0 < c.args.name = omega (arith, c.if-name-eq0.false) in
    if-ok (λ (more : ℕ). (more ≡ length mid) × (new ≡ mid ++ turned ∷ []))
    (λ (more : ℕ). HasMore c.args.self.now new c.args.set more c.args.name) c.put-2.result
    c.put-2.ensures.ok (λ more made. more-bits c.args.self.now mid new c.args.set
    c.in_ok-child.child more c.args.name c.branch-branch.result turned
    c.branch-branch.ensures.value c.branch-branch.ensures.within some made.0 made.1
    c.in_ok-child.ensures.within c.with_side.ensures.ends c.with_side.ensures.child
    c.with_side.ensures.others c.in_ok-child.ensures.stay c.put-2.ensures.stay
    (rw c.side.ensures at c.in_ok-child.ensures.names))

pub returns-in_err-child-clause-few : goal.returns-in_err-child-clause-few
returns-in_err-child-clause-few t c =
    let some : 0 < c.args.name = omega (arith, c.if-name-eq0.false) in
    omega (arith, c.with.ensures.few, length-digits_of_step 2 c.args.name (omega arith) some)

pub returns-clause-few : goal.returns-clause-few
returns-clause-few t c =
    let mid = c.with.new.self in
    let some : 0 < c.args.name = omega (arith, c.if-name-eq0.false) in
    let one : length c.put-2.new.self ≤ length mid + 1 = grind (
      arith,
      c.put-2.ensures.ok,
      c.put-2.ensures.err,
      length-append mid (c.with_side.result ∷ []),
    ) in
    omega (arith, c.with.ensures.few, one, length-digits_of_step 2 c.args.name (omega arith) some)
