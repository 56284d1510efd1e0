use Rattle.abbreviation_memo.{proofs.MemoLaws.memos-put, specs.Lists.IsListAt}
use Rattle.std.proofs.lemmas.List.Elements.{All-push}
use Rattle.abbreviation_memo.proofs.memoized_lists.MemoizedLists.put.Goals as goal

pub invariant_of-self-in_err-push : goal.invariant_of-self-in_err-push
invariant_of-self-in_err-push c =
    let section = c.self.inside.section.now in (
      memos-put section c.self.inside.memos c.insert.new.self c.self.inside.names
          c.memo_at.new.names c.args.place c.in_ok-memo.memo c.in_ok-insert.ensures.updates.0
          c.in_ok-memo.ensures.memo c.in_ok-memo.ensures.stay c.self.invariant.0,
      rw c.in_err-push.ensures.items c.self.invariant.1,
    )

pub invariant_of-self-2 : goal.invariant_of-self-2
invariant_of-self-2 c =
    let section = c.self.inside.section.now in (
      memos-put section c.self.inside.memos c.insert.new.self c.self.inside.names
          c.memo_at.new.names c.args.place c.in_ok-memo.memo c.in_ok-insert.ensures.updates.0
          c.in_ok-memo.ensures.memo c.in_ok-memo.ensures.stay c.self.invariant.0,
      rw c.in_ok-push.ensures.items (All-push (IsListAt section) c.self.inside.places.items
          c.args.place c.self.invariant.1
          (c.in_ok-memo.memo.after, c.in_ok-memo.ensures.memo.read)),
    )
