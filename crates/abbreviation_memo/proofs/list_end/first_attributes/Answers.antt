use Rattle.abbreviation_memo.proofs.ListLaws.{list-read, rest-valid}
use Rattle.dwarf_bytes.proofs.Items.Turns.{None-from-no-Some}
use Rattle.dwarf_forms.proofs.{Loops.{all-read, one-more}, Moves.attribute_at-advances}
use Rattle.dwarf_forms.proofs.{Moves.attributes-ok, SuffixLists.{attribute-again, end-again}}
use Rattle.dwarf_forms.proofs.SuffixLists.{list-continues, named}
use Rattle.std.proofs.Common.{[], append-nil, arith, false, length-append, sym, ◌∙◌, ◌∷◌, ◌≡◌}
use Rattle.std.specs.List.{list_any}
use Rattle.abbreviation_memo.proofs.list_end.first_attributes.Goals as goal

pub returns-in_default-clause-reads : goal.returns-in_default-clause-reads
returns-in_default-clause-reads c =
    let bytes = c.args.cursor.now.bytes in
    let first = c.loop-alloc.first.items in
    let none = None-from-no-Some _ c.in_default.not-Some in
    let read = rw none at c.in_ok-attribute.ensures in
    attributes-ok bytes c.args.cursor.now.place (first, c.first_attribute.new.cursor.place)
    (all-read (attribute_at-advances bytes) c.loop-alloc.invariant.read _
    (end-again c.loop-alloc.cursor.bytes [] first c.loop-alloc.cursor.place _ read.0))

pub returns-in_default-clause-valid : goal.returns-in_default-clause-valid
returns-in_default-clause-valid c = λ valid. record {
  list = list-read c.args.cursor.now.bytes c.args.cursor.now.place c.loop-alloc.first.items
      c.first_attribute.new.cursor.place (returns-in_default-clause-reads c)
      ∙ sym (append-nil c.loop-alloc.first.items);
  after = tt;
  full = omega (arith, c.len.ensures, c.loop-alloc-test.true, c.loop-alloc.first.ok.0);
}

pub loop-alloc-preserved : goal.loop-alloc-preserved
loop-alloc-preserved c =
    let first = c.loop-alloc.first.items in
    let old = c.loop-alloc.cursor in
    let new = c.first_attribute.new.cursor in
    let x = c.in-Some.attribute in
    let read = rw c.in-Some.is at c.in_ok-attribute.ensures in
    let fresh : list_any (named x.name) first ≡ false =
    cc (c.deref.ensures.value, c.has_name.ensures, c.if-has_name.false) in
    let turn = one-more (attribute_at-advances c.args.cursor.now.bytes) c.loop-alloc.invariant.read
    new x (attribute-again old.bytes [] first old.place x new.place read.0 fresh) read.1 in
    rw c.in_ok-push.ensures.items (record {
      few = omega (
        arith,
        c.len.ensures,
        c.loop-alloc-test.true,
        length-append first (x ∷ []),
        c.loop-alloc.first.ok.0,
      );
      read = turn.0;
    })

pub returns-clause-reads : goal.returns-clause-reads
returns-clause-reads c = λ rest after read apart. list-continues c.args.cursor.now.bytes
    c.args.cursor.now.place c.loop-alloc.first.items c.loop-alloc.cursor.place rest after
    c.loop-alloc.invariant.read.read read apart

pub returns-clause-valid : goal.returns-clause-valid
returns-clause-valid c = λ valid.
    let inv = c.loop-alloc.invariant in
    let others = rest-valid c.args.cursor.now.bytes c.args.cursor.now.place
    c.loop-alloc.first.items c.loop-alloc.cursor.place inv.read.read valid in record {
      list = rw c.place.ensures.place others.0;
      after = rw c.place.ensures.place others.1;
      full =
          omega (arith, inv.few, c.loop-alloc-test.false, c.len.ensures, c.loop-alloc.first.ok.0);
    }
