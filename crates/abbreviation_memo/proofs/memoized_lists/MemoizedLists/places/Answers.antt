use Rattle.abbreviation_memo.proofs.memoized_lists.MemoizedLists.places.Goals as goal

pub returns : goal.returns
returns c = rw (← c.self.view_is, c.deref.ensures.value) c.self.invariant.1
