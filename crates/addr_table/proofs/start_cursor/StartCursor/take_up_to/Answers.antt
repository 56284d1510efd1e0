use Rattle.std.proofs.Common.{◌≡◌, ◌+◌, ℕ, drop, refl, subst}
use Rattle.std.proofs.Common.{arith}
use Rattle.addr_table.specs.Private.Merged.{Cursor, IsHead, IsNext, IsNextIn, Takes, starts_in}
use Rattle.addr_table.specs.Private.Merged.{taken_of}
use Rattle.addr_table.specs.Private.Sweep.{Above}
use Rattle.addr_table.proofs.Endpoints.MergeLaws.{head-next, one-taken, one-counted}
use Rattle.addr_table.proofs.Endpoints.MergeRests.{later-above}
use Rattle.addr_table.proofs.start_cursor.StartCursor.take_up_to.Goals as goal
use Rattle.addr_table.proofs.start_cursor.StartCursor.take_up_to.Goals.{In_ok-next}

-- the fields before the call
abbrev inside : In_ok-next → Cursor
inside c = record {
  rows = c.self.inside.rows.all;
  scopes = c.self.inside.scopes;
  row = c.self.inside.rows.taken;
  scope = c.self.inside.scope;
}

head : (c : In_ok-next) → IsHead (inside c) c.in_ok-next.next c.in_ok-next.is_row
head c = subst (IsNext (inside c)) c.in_ok-next.was c.self.invariant.1

next : (c : In_ok-next) → IsNextIn (inside c) c.in_ok-next.next
next c = head-next (inside c) c.in_ok-next.next c.in_ok-next.is_row c.self.invariant.0 (head c)

pub returns-then-next-end-clause-taken : goal.returns-then-next-end-clause-taken
returns-then-next-end-clause-taken c =
    let a = (goal.at.returns-then-next-end-clause-taken c).In_ok-next in
    let P : Cursor → Type 0 = λ x. Above c.args.end (drop (taken_of x) (starts_in x)) in (
      refl,
      subst P c.self.view_is
          (later-above (inside a) c.in_ok-next.next c.args.end c.self.invariant.0 (next a)
          c.if-next-end.true),
    )

pub invariant_of-self : goal.invariant_of-self
invariant_of-self c = (
  rw c.take-self-inside.ensures.all
      (one-taken (inside (goal.at.invariant_of-self c).In_ok-next) c.in_ok-next.next
      c.in_ok-next.is_row _ _ c.self.invariant.0 (head (goal.at.invariant_of-self c).In_ok-next)
      c.take-self-inside.ensures.row c.take-self-inside.ensures.scope),
  c.next_of-self-inside.ensures,
)

pub returns-clause-taken : goal.returns-clause-taken
returns-clause-taken c =
    let a = (goal.at.returns-clause-taken c).In_ok-next in
    let n = next a in
    let one = one-counted c.in_ok-next.is_row in
    let after : ℕ = c.take-self-inside.new.rows.taken + c.take-self-inside.result in
    let more : after ≡ taken_of (inside a) + 1 =
    omega (arith, c.take-self-inside.ensures.row, c.take-self-inside.ensures.scope, one) in
    let T : Cursor → Type 0 = λ x. Takes c.args.end c.in_ok-next.next (taken_of x) after
    (starts_in x) in
    subst T c.self.view_is (record {
      within = n.within;
      is = n.here;
      low = omega (arith, c.if-next-end.false);
      more = more;
    })
