-- The memos of lists, and the names of their attributes.
use Rattle.abbreviation_memo.proofs.{ListLaws.list-read, MapLaws.{Puts, entries-put}}
use Rattle.abbreviation_memo.{proofs.SetLaws.HasMore, specs.{Lists.list_at, Private.Memo.AreMemos}}
use Rattle.abbreviation_memo.specs.Private.{Memo.{HasNames, IsMemo}, NameSets.SetsStay}
use Rattle.abbreviation_memo.specs.declared.{memoized_lists.Memo.Memo, name_sets.Branch.Branch}
use Rattle.dwarf_forms.specs.Tables.{attributes_at}
use Rattle.dwarf_forms.specs.declared.attribute.AttributeSpecification.{AttributeSpecification}
use Rattle.std.proofs.Common.{List, Ok, [], arith, length, ℕ, ◌<◌, ◌∙◌, ◌∷◌, ◌≡◌}
use Rattle.std.specs.BTreeMap.{BTreeMap}

-- ---- names

pub names-stay : (old new : List Branch) (set : ℕ) (xs : List AttributeSpecification)
    → SetsStay old new → HasNames old set xs → HasNames new set xs
names-stay old new set xs stay has = record {
  within = omega (arith, has.within, stay.longer);
  names = λ name. stay.same set name has.within ∙ has.names name;
}

pub names-more : (old new : List Branch) (set more : ℕ) (x : AttributeSpecification)
    (xs : List AttributeSpecification) → HasNames old set xs → more < length new
    → HasMore old new set more x.name → HasNames new more (x ∷ xs)
names-more old new set more x xs has within with_more = record {
  within = within;
  names = λ name. grind (arith, with_more name, has.names name);
}

-- ---- memos

-- the memo of a list that is read
pub memo-of : (section : List ℕ) (sets : List Branch) (place : ℕ) (memo : Memo)
    (xs : List AttributeSpecification) → attributes_at section place ≡ Ok (xs, memo.after)
    → HasNames sets memo.names xs → IsMemo section sets place memo
memo-of section sets place memo xs read named =
    let same : list_at section place ≡ xs = list-read section place xs memo.after read in
    record { read = rw same read; named = rw same named }

pub memos-stay : (section : List ℕ) (memos : BTreeMap ℕ Memo) (old new : List Branch)
    → SetsStay old new → AreMemos section memos old → AreMemos section memos new
memos-stay section memos old new stay are = record {
  each = λ place memo at. record {
    read = (are.each place memo at).read;
    named = names-stay old new memo.names _ stay (are.each place memo at).named;
  };
  empty = names-stay old new 0 [] stay are.empty;
}

pub memos-put : (section : List ℕ) (old new : BTreeMap ℕ Memo) (sets more : List Branch)
    (place : ℕ) (memo : Memo) → Puts old new place memo → IsMemo section more place memo
    → SetsStay sets more → AreMemos section old sets → AreMemos section new more
memos-put section old new sets more place memo puts here stay are =
    let before = memos-stay section old sets more stay are in record {
      each = entries-put (IsMemo section more) old new place memo puts here before.each;
      empty = before.empty;
    }
