use Rattle.abbreviation_memo.proofs.{ListLaws.{attribute-before, list-ends}, MemoLaws.memo-of}
use Rattle.abbreviation_memo.{proofs.MemoLaws.names-more, specs.Lists.list_at}
use Rattle.std.proofs.Common.{[], sym, ◌∷◌}
use Rattle.abbreviation_memo.proofs.memoized_lists.memo_at.Goals as goal

pub returns-in_default-clause-memo : goal.returns-in_default-clause-memo
returns-in_default-clause-memo c =
    memo-of _ _ _ _ [] (list-ends c.args.section.now c.args.place c.in_ok-start.start.rest
    (rw c.in_default.is at c.in_ok-start.ensures.start)) c.requires.empty

pub returns-clause-memo : goal.returns-clause-memo
returns-clause-memo c =
    let section = c.args.section.now in
    let at = c.in_ok-start.start.rest in
    let x = c.in-Some.attribute in
    let rest = c.in-Some-get.rest.now in
    let others = list_at section at in
    let memo = c.requires.each at rest (sym c.in-Some-get.ensures.value) in
    memo-of _ _ _ _ (x ∷ others) (attribute-before section c.args.place at rest.after x others
    (rw c.in-Some.is at c.in_ok-start.ensures.start) memo.read
    (cc (memo.named.names x.name, c.has.ensures, c.if-has.false)))
    (names-more c.args.names.now c.with.new.self rest.names c.in_ok-names.names x others memo.named
    c.in_ok-names.ensures.within c.in_ok-names.ensures.names)
