use Rattle.dwarf_bytes.{proofs.Items.Turns.None-from-no-Some, specs.Items.without_offset}
use Rattle.dwarf_forms.proofs.{Loops.{all-read, first-fault, one-more}, Moves.attribute_at-advances}
use Rattle.dwarf_forms.{proofs.{Moves.attributes-ok, SuffixLists.named}, specs.Tables.attributes_at}
use Rattle.std.proofs.{Common.{[], ap, arith, inr, length, ◌∙◌, ◌∷◌}, lemmas.Grind.common_steps}
use Rattle.std.proofs.lemmas.{List.Folds.list_any-append, Result.err_from_is_err_and}
use Rattle.dwarf_forms.proofs.attribute.attributes.Goals as goal

pub returns-in_err-next : goal.returns-in_err-next
unfolding attributes_at
returns-in_err-next c =
    let inv = c.loop-names.invariant in
    let p = err_from_is_err_and c.from_residual.result c.from_residual.ensures.1 in
    rw (p.1, p.2) (inr (ap without_offset
    (first-fault (attribute_at-advances c.args.cursor.now.bytes) inv.read c.in_err-next.field-0.0
    (c.in_err-next.ensures c.loop-names.all.items inv.names))))

pub loop-names-smaller : goal.loop-names-smaller
loop-names-smaller c =
    let inv = c.loop-names.invariant in
    let read = rw c.in-Some.is at (c.in_ok-next.ensures c.loop-names.all.items inv.names) in
    let turn = one-more (attribute_at-advances c.args.cursor.now.bytes) inv.read
    c.next_attribute.new.cursor c.in-Some.next read.0 read.1 in
    omega (arith, turn.1, turn.2, ap length read.1, ap length inv.read.bytes_are)

pub loop-names-preserved : goal.loop-names-preserved
loop-names-preserved c =
    let own = c.loop-names.all.items in
    let inv = c.loop-names.invariant in
    let read = rw c.in-Some.is at (c.in_ok-next.ensures own inv.names) in
    rw c.in_ok-push.ensures.items (record {
      names = λ name. grind (
        arith,
        common_steps,
        c.in_ok-insert.ensures.updates.0 name,
        inv.names name,
        list_any-append (named name) own (c.in-Some.next ∷ []),
      );
      read = (one-more (attribute_at-advances c.args.cursor.now.bytes) inv.read
          c.next_attribute.new.cursor c.in-Some.next read.0 read.1).0;
    })

pub returns : goal.returns
returns c =
    let bytes = c.args.cursor.now.bytes in
    let inv = c.loop-names.invariant in
    let none = None-from-no-Some _ c.in_default.not-Some in
    let read = rw none at (c.in_ok-next.ensures c.loop-names.all.items inv.names) in (
      attributes-ok bytes c.args.cursor.now.place _
          (all-read (attribute_at-advances bytes) inv.read _ read.0),
      read.1 ∙ inv.read.bytes_are,
    )
