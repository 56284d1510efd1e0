use Rattle.abbreviation_memo.specs.{Lists.IsListAt, Private.Memo.IsMemo}
use Rattle.std.proofs.{Common.{ap, arith, length}, lemmas.List.Elements.All-nil}
use Rattle.abbreviation_memo.proofs.{MapLaws.entries-none, SetLaws.none-in}
use Rattle.abbreviation_memo.proofs.memoized_lists.MemoizedLists.new.Goals as goal

pub invariant_of-result : goal.invariant_of-result
invariant_of-result c =
    let section = c.args.section.now in
    let sets = c.in_ok-new.field-0 in (
      record {
        each = entries-none (IsMemo section sets) c.new.result c.new.ensures.empty;
        empty = record {
          within = omega (arith, ap length c.in_ok-new.ensures);
          names = λ name. none-in sets name c.in_ok-new.ensures;
        };
      },
      rw c.new-3.ensures.items (All-nil (IsListAt section)),
    )
